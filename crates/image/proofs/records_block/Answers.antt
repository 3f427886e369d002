use Rattle.laws.specs.Kit.{refl}
use Rattle.image.specs.Mirror.Filled.{PutAll, put-more}
use Rattle.image.proofs.records_block.Goals as goal

pub loop-j-init : goal.loop-j-init
unfolding PutAll
loop-j-init g c = refl

pub loop-j-preserved : goal.loop-j-preserved
loop-j-preserved g c = put-more g.F.Fn _ _ _ _ _ _ c.loop-j.invariant (record { lent = _; left = _; was = refl; is = refl; met = c.put.ensures })
