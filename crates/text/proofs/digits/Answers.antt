use Rattle.std.proofs.Common.{rules}
use Rattle.std.specs.Prelude.{◌+◌, ◌*◌, ◌≡◌}
use Rattle.laws.specs.Kit.{◌∙◌, length, drop}
use Rattle.text.specs.{Fields.{digits_on, at_more, at_stop, at_end}}
use Rattle.text.specs.Fields.{digits_large}
use Rattle.text.proofs.digits.Goals as goal
use Rattle.text.proofs.digits.Goals.{After-from}

-- past the first test the byte is a digit
more : (c : goal.After-from) →
    let L = c.loop-end in
    let a = c.args in
    digits_on a.first (drop a.from a.s.now) ≡ digits_on (10 * L.value + c.from.result) (drop (L.end + 1) a.s.now)
more c =
    let L = c.loop-end in
    rw c.from.ensures (L.invariant.same ∙ at_more _ L.end L.value (search rules) (search rules) (search rules))

pub returns-then-not-is_ascii_digit : goal.returns-then-not-is_ascii_digit
returns-then-not-is_ascii_digit c =
    let L = c.loop-end in
    record { small = L.invariant.small; ahead = search rules; within = search rules; is = L.invariant.same ∙ at_stop _ L.end _ (search rules) L.invariant.small (search rules) }

pub returns-then-value-gt-LARGEST_NUMBER : goal.returns-then-value-gt-LARGEST_NUMBER
returns-then-value-gt-LARGEST_NUMBER c = more (goal.at.returns-then-value-gt-LARGEST_NUMBER c).After-from ∙ digits_large _ _ (search rules)

pub loop-end-preserved : goal.loop-end-preserved
loop-end-preserved c = record { small = search rules; same = more (goal.at.loop-end-preserved c).After-from }

pub returns : goal.returns
returns c =
    let L = c.loop-end in
    let e : L.end ≡ length c.args.s.now = search rules in
    record {
      small = L.invariant.small;
      ahead = search rules;
      within = search rules;
      is = L.invariant.same ∙ rw e (at_end c.args.s.now (length c.args.s.now) _ (search rules) L.invariant.small);
    }
