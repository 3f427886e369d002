use Rattle.table.specs.{Link.OpensModel.{found_none}, EntryNames.{named_at, found_at}}
use Rattle.image.specs.Mirror.EntryOrder.{listed_none, listed_more}
use Rattle.std.specs.Prelude.{◌+◌}
use Rattle.laws.specs.Kit.{arith}
use Rattle.image.proofs.order_of.Goals as goal

pub loop-k-init : goal.loop-k-init
loop-k-init c = listed_none _ _ _ _ _

pub returns-in_default : goal.returns-in_default
returns-in_default c = let L = c.loop-k in let A = c.args in absurd (c.requires.open_numbers (L.k + 1) (omega arith) (omega arith) (found_none A.opens.now A.u (L.k + 1) c.find.result c.find.ensures c.in_default.is))

pub loop-k-preserved : goal.loop-k-preserved
loop-k-preserved c = let L = c.loop-k in let A = c.args in let e = c.in-Some.e in
    let f = found_at (named_at A.opens.now A.u (L.k + 1)) c.find.result e c.find.ensures c.in-Some.is in
    let b = L.invariant.behind in
    let l = L.invariant.long in
    listed_more A.opens.now A.u A.lo L.k A.p A.order.now L.order L.at e L.invariant (omega arith) (omega arith) f
