use Rattle.laws.specs.Kit.{arith}
use Rattle.replay.proofs.answer.Goals as goal

-- only a text that is too long is answered so
pub too_long-requires : goal.too_long-requires
too_long-requires g c = omega arith
