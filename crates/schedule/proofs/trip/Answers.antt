use Rattle.schedule.specs.{Mirror.Forms.{no_field, one_field, told_none}, Link.TripCells.{told_trip, trip_bad}}
use Rattle.laws.specs.Kit.{refl, ◌∙◌}
use Rattle.schedule.proofs.trip.Goals as goal

pub returns-in_default : goal.returns-in_default
returns-in_default c = told_none _ _ (no_field _ 1 _ c.in_default.ensures refl)

pub returns-in_default-trip_cells : goal.returns-in_default-trip_cells
returns-in_default-trip_cells c =
    told_none _ _ (one_field _ 1 _ _ _ c.in-Some.ensures ∙ trip_bad _ _ _ _ c.in_default-trip_cells.ensures)

pub returns : goal.returns
returns c =
    rw (one_field _ 1 _ _ _ c.in-Some.ensures) (told_trip _ _ _ _ _ _ c.in-Some-trip_cells.ensures)
