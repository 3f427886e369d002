use Rattle.std.specs.Prelude.{◌≤◌, ◌-◌, ◌+◌, ◌*◌, ◌≡◌}
use Rattle.laws.specs.Kit.{length}
use Rattle.text.specs.Fields.{fields_at}
use Rattle.schedule.specs.Link.TripCells.{storing}
use Rattle.schedule.proofs.trip_cells.Given as goal

-- a cell takes two bytes at least
abbrev pub invariant-loop-at : goal.invariant-loop-at
invariant-loop-at l =
    (2 * l.n + l.from ≤ l.at) × (storing l.initial.cells 0 (fields_at l.s l.from) ≡ storing l.cells l.n (fields_at l.s l.at))

abbrev pub decreases-loop-at : goal.decreases-loop-at
decreases-loop-at l = length l.s - l.at
