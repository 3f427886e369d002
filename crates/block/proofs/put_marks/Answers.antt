use Rattle.block.specs.{Link.BlockFill.{tab_put}, Block.{mark_bytes}}
use Rattle.std.specs.Prelude.{◌≡◌}
use Rattle.laws.specs.{Tab.{tab, tab_from}, Kit.{get_or, refl, ◌∙◌, arith}}
use Rattle.block.proofs.put_marks.Goals as goal

pub loop-t-init : goal.loop-t-init
unfolding tab tab_from
loop-t-init c = refl

pub loop-t-preserved : goal.loop-t-preserved
loop-t-preserved c = let L = c.loop-t in let A = c.args in rw L.invariant (tab_put (λ k. get_or A.v k 0) A.b.now A.at L.t)

pub returns : goal.returns
unfolding mark_bytes
returns c = let L = c.loop-t in let e : L.t ≡ c.args.p = omega arith in L.invariant ∙ rw e
