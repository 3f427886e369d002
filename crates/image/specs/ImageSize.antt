-- How many blocks an image has at most.
use Rattle.std.specs.Prelude.{◌*◌, ◌≤◌}
use Rattle.laws.specs.Kit.{ℕ}
use Rattle.laws.specs.{Kit.{mul-le-mul, add-le-add, le_refl}}
use Rattle.machine.specs.{Table.{most_cells, most_open, State}, Steps.{open_count}}
use Rattle.machine.specs.Rules.{Rules}
use Rattle.block.specs.{Limits.{Wide}}
use Rattle.block.specs.Limits.{some-cells, some-opens, blocks_mono, cells_in, opens_in, rows_most}
use Rattle.block.specs.Limits.{opens_most, blocks_most}
use Rattle.image.specs.Encode.{blocks}
use Rattle.image.specs.{Encode.{per_desk, open_blocks}}

module _ (ps : ℕ) (wd : Wide ps) (s : State) (ok : Rules s) (n-most : s.setup.desks ≤ ps) where
  m-most : s.setup.cells ≤ most_cells
  m-most = ok.frame.ranges.cells.1

  few-cells : per_desk ps s.setup.cells * s.setup.desks ≤ rows_most ps
  few-cells = mul-le-mul (blocks_mono (cells_in ps) s.setup.cells most_cells (some-cells ps wd) m-most) n-most

  few-opens : open_blocks ps s ≤ opens_most ps
  few-opens = blocks_mono (opens_in ps) (open_count s) most_open (some-opens ps wd) ok.frame.ranges.few

  -- "The largest image is 37 blocks", in edition 2 105
  pub most-blocks : blocks ps s ≤ blocks_most ps
  most-blocks = add-le-add (add-le-add (add-le-add (le_refl 1) n-most) few-cells) few-opens
