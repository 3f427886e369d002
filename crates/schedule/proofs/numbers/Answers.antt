use Rattle.std.proofs.Common.{rules}
use Rattle.std.specs.Prelude.{◌≡◌}
use Rattle.laws.specs.Kit.{arith, length-replicate}
use Rattle.schedule.proofs.ReadTo.{read_none, read_more, read_short, read_long, read_all}
use Rattle.schedule.proofs.numbers.Goals as goal

pub loop-t-init : goal.loop-t-init
loop-t-init g c = read_none _ _ _ (length-replicate _ _) c.requires

pub loop-t-preserved : goal.loop-t-preserved
loop-t-preserved g c = read_more _ _ _ _ _ _ _ c.loop-t-test.true c.in-Some.ensures c.loop-t.invariant

pub returns-in_default : goal.returns-in_default
returns-in_default g c = read_short _ _ _ _ _ c.loop-t-test.true c.loop-t.invariant c.in_default.ensures

pub returns-then-at-s : goal.returns-then-at-s
returns-then-at-s g c =
    let e : c.loop-t.t ≡ g.row.N = search rules in
    read_long _ _ _ _ (rw e at c.loop-t.invariant) (λ w. (omega arith))

pub returns : goal.returns
returns g c =
    let e : c.loop-t.t ≡ g.row.N = search rules in
    read_all _ _ _ _ (rw e at c.loop-t.invariant) (omega arith)
