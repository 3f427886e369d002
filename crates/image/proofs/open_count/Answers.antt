use Rattle.image.specs.{Mirror.EntryOrder.{ahead_more, low-own, count_at_lem}, Link.OrderFromCounts.{counted}}
use Rattle.table.specs.Model.{applied_m}
use Rattle.std.specs.Prelude.{◌≡◌}
use Rattle.laws.specs.{Cat.{cat}, Kit.{arith, ◌∙◌, refl, suc}}
use Rattle.image.proofs.open_count.Goals as goal

pub loop-u-init : goal.loop-u-init
unfolding cat
loop-u-init c = (refl, omega arith)

pub overflow_sub-own_count : goal.overflow_sub-own_count
overflow_sub-own_count c = let A = c.args in let L = c.loop-u in omega (arith, c.own_count.ensures, c.lowest.ensures, low-own A.n (applied_m A.desks) (suc L.u))

pub loop-u-preserved : goal.loop-u-preserved
loop-u-preserved c = let L = c.loop-u in let A = c.args in
    let eo = c.own_count.ensures ∙ count_at_lem A.desks L.u L.u in
    (ahead_more A.n A.desks L.u L.r _ c.own_count.result c.lowest.result L.invariant.0 eo c.lowest.ensures (rw c.from-r.ensures), omega (arith, c.from-r.ensures))

pub returns : goal.returns
unfolding counted
returns c = let L = c.loop-u in let d = c.requires in let e : L.u ≡ c.args.n = omega arith in (L.invariant.0 ∙ rw e, omega arith)
