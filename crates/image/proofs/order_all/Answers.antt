use Rattle.table.specs.{Model.{applied_m}}
use Rattle.image.specs.Mirror.EntryOrder.{ordered-none, ordered-next, known-room, low-own}
use Rattle.image.specs.Link.OrderFromCounts.{counted}
use Rattle.std.specs.Prelude.{◌≡◌}
use Rattle.laws.specs.{Cat.{cat}, Kit.{add-one, arith, ◌∙◌, suc}}
use Rattle.image.proofs.order_all.Goals as goal

pub loop-u-init : goal.loop-u-init
unfolding cat
loop-u-init c = (ordered-none _ _, c.requires.1.0)

pub order_of-count-requires : goal.order_of-count-requires
order_of-count-requires c = let L = c.loop-u in let A = c.args in let K = c.requires.1.1 in
    let eo = c.own_count.ensures in let el = c.lowest.ensures in
    let lo = low-own A.n (applied_m A.desks) (suc L.u) in
    let room = known-room A.n A.desks A.opens.now L.u K c.loop-u-test.true in
    let s = L.invariant.0.size in
    let q = add-one L.u in
    record {
      room = ((omega arith, omega arith), (omega arith, omega arith));
      open_numbers = λ k a b. rw q (K.found L.u k c.loop-u-test.true (omega arith) (omega arith));
    }

pub loop-u-preserved : goal.loop-u-preserved
loop-u-preserved c = let L = c.loop-u in let A = c.args in (
  ordered-next A.opens.now A.n A.desks L.order c.order_of-count.new.order L.u c.lowest.result c.own_count.result L.count c.order_of-count.result L.invariant.0 c.lowest.ensures c.own_count.ensures c.order_of-count.ensures,
  c.order_of-count.ensures.long ∙ L.invariant.1,
)

pub returns : goal.returns
unfolding counted
returns c = let L = c.loop-u in let e : L.u ≡ c.args.n = omega arith in rw e at L.invariant.0
