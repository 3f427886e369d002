use Rattle.image.proofs.SavedIsImage.{planned_length}
use Rattle.laws.specs.Kit.{arith, sym}
use Rattle.image.proofs.save_parts.Goals as goal

pub save-requires : goal.save-requires
save-requires c = let P = c.planned-plan.ensures in (P, omega (arith, planned_length P, c.requires.room))

pub returns : goal.returns
returns c = let P = c.planned-plan.ensures in record { stored = c.save.ensures; size = sym (planned_length P) }
