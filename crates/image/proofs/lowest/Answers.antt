use Rattle.image.specs.{Mirror.EntryOrder.{low-start, low-more, count_at_lem}, Link.OrderFromCounts.{low}}
use Rattle.table.specs.Model.{applied_m}
use Rattle.std.specs.Prelude.{◌≡◌}
use Rattle.laws.specs.Kit.{arith, ◌∙◌, suc}
use Rattle.image.proofs.lowest.Goals as goal

pub loop-i-init : goal.loop-i-init
loop-i-init c = low-start _ _ _ (c.own_count-r.ensures ∙ count_at_lem _ _ _)

pub loop-i-preserved : goal.loop-i-preserved
loop-i-preserved c = let L = c.loop-i in let A = c.args in
    low-more A.desks (applied_m A.desks (suc A.u) (suc A.u)) A.u L.i L.r c.min-r.result L.invariant (omega (arith, c.min-r.ensures))

pub returns : goal.returns
unfolding low
returns c = let L = c.loop-i in let e : L.i ≡ c.args.n = omega arith in L.invariant ∙ rw e
