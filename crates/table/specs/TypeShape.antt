-- What the types tell of the lists within a table.
use Rattle.std.specs.Prelude.{◌<◌, ◌≡◌}
use Rattle.laws.specs.Kit.{ℕ, List, get_or, length}
use Rattle.clock.specs.Vectors.{places}
use Rattle.table.specs.{declared.Desk.{Desk}, declared.Table.{Table}}
use Rattle.table.specs.Value.{desk0, all_cells, entries, cell_at, open_at, FullCell, FullOpen, CellsShape, OpensShape}

pub record DeskShape (d : Desk) : Type 0 where
  pub applied : length d.applied ≡ places
  pub clock : length d.clock.at ≡ places

pub record DesksShape (ds : List Desk) : Type 0 where
  pub count : length ds ≡ places
  pub each : (i : ℕ) → i < places → DeskShape (get_or ds i desk0)

pub record Shaped (t : Table) : Type 0 where
  pub desks : DesksShape t.core.desks
  pub cells : CellsShape t.cells
  pub opens : OpensShape t.opens

-- the same of each desk, cell and entry, however many cells and entries there are
pub record EachFull (t : Table) : Type 0 where
  pub desks : DesksShape t.core.desks
  pub cells : (s : ℕ) → s < all_cells → FullCell (cell_at t.cells s)
  pub opens : (e : ℕ) → e < entries → FullOpen (open_at t.opens e)

pub each_full : {t : Table} → Shaped t → EachFull t
each_full h = record { desks = h.desks; cells = h.cells.each; opens = h.opens.each }
