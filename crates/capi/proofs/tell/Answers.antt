use Rattle.std.specs.Prelude.{◌≡◌}
use Rattle.laws.specs.{Kit.{sym, ap, ◌∙◌, arith, length, length-take-le}, Stores.{put_mid-sets}}
use Rattle.capi.specs.Link.Inspecting.{inspect_short, inspect_done}
use Rattle.capi.proofs.tell.Goals as goal

pub returns-then-finding-lt-FINDING : goal.returns-then-finding-lt-FINDING
returns-then-finding-lt-FINDING c = inspect_short _ _ c.if-finding-lt-FINDING.true

pub returns : goal.returns
returns c =
    let v = c.numbers.result in
    let k = c.copy_from_slice.ensures in
    let n : length v ≡ 5 = omega (arith, ap length k.after, k.len, length-take-le 5 c.args.finding.now c.if-finding-lt-FINDING.false) in
    inspect_done _ _ c.if-finding-lt-FINDING.false
    (put_mid-sets 0 5 c.args.finding.now v _ k.after (sym n) (omega (arith, c.if-finding-lt-FINDING.false)))
    (c.numbers.ensures ∙ c.inspect.ensures)
