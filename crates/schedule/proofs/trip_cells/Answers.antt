use Rattle.laws.specs.Kit.{◌∙◌}
use Rattle.schedule.specs.Link.TripCells.{store_end}
use Rattle.schedule.proofs.trip_cells.Goals as goal

pub returns : goal.returns
returns c = c.loop-at.invariant.1 ∙ store_end _ _ _ _ c.loop-at-test.false
