-- A table value that keeps the rules: its model does, and so does what the model does not see.
use Rattle.std.specs.Prelude.{◌≡◌, ◌<◌}
use Rattle.laws.specs.Kit.{ℕ}
use Rattle.clock.specs.Vectors.{place}
use Rattle.machine.specs.Rules.{Rules}
use Rattle.table.specs.{declared.Cell.{Cell}, declared.Table.{Table}, Value.{all_cells, cell_at}, Model.{model_of}}
use Rattle.table.specs.Link.OpensModel.{Unique}

-- "writer (0 unset, then all zero)"
pub record AllZero (c : Cell) : Type 0 where
  pub status : c.status ≡ 0
  pub vector : (t : ℕ) → place c.vector t ≡ 0

-- What lies in a free entry is no part of the table.
pub record SoundTable (t : Table) : Type 0 where
  pub rules : Rules (model_of t)
  pub blanks : (s : ℕ) → s < all_cells → (cell_at t.cells s).writer ≡ 0 → AllZero (cell_at t.cells s)
  -- "the same write twice" breaks the rules
  pub unique : Unique t.opens
