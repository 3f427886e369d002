use Rattle.std.proofs.Common.{rules}
use Rattle.std.specs.Prelude.{◌+◌, ◌<◌, ◌≤◌, ◌≡◌}
use Rattle.laws.specs.Kit.{arith, length, get_or, drop}
use Rattle.text.specs.Fields.{fields_at, digits_on, field_unspaced, field_empty, field_zero, field_none, field_first, tells_digits}
use Rattle.text.proofs.next_field.Goals as goal

pub returns-then-branch-ne32 : goal.returns-then-branch-ne32
returns-then-branch-ne32 c = λ h. field_unspaced _ _ h (search rules)

pub returns-in_err-b : goal.returns-in_err-b
returns-in_err-b c =
    let a = c.args in
    let n : length a.s.now ≤ a.at + 1 = search rules in
    rw c.from_residual-in_err-b.ensures (λ h. field_empty a.s.now a.at h (search rules) n)

pub returns-in-48 : goal.returns-in-48
returns-in-48 c =
    let a = c.args in
    let n : a.at + 1 < length a.s.now = search rules in
    let next : a.at + 2 ≡ a.at + 1 + 1 = omega arith in
    rw next record {
      small = omega arith;
      ahead = omega arith;
      within = omega arith;
      is = field_zero a.s.now a.at (omega arith) (search rules) n (search rules);
    }

-- the byte after the space is 1 to 9
pub returns-in-49-to-57 : goal.returns-in-49-to-57
returns-in-49-to-57 c =
    let a = c.args in
    let n : a.at + 1 < length a.s.now = search rules in
    let next : a.at + 2 ≡ a.at + 1 + 1 = omega arith in
    let byte : get_or a.s.now (a.at + 1) 0 ≡ c.in_ok-b.field-0.now = search rules in
    let first : fields_at a.s.now a.at ≡ digits_on c.from.result (drop (a.at + 1 + 1) a.s.now) =
    rw (c.from.ensures, ← byte) (field_first a.s.now a.at (omega arith) (search rules) n (search rules) (search rules)) in
    tells_digits _ _ _ first c.digits.result (rw next at c.digits.ensures)

pub returns-in_default : goal.returns-in_default
returns-in_default c = λ h. field_none _ _ h (search rules) (search rules) (search rules)

pub returns-in_default-2 : goal.returns-in_default-2
returns-in_default-2 c = λ h. field_none _ _ h (search rules) (search rules) (search rules)
