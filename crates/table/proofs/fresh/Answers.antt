use Rattle.laws.specs.Kit.{replicate}
use Rattle.table.specs.{Beginning.{fresh_table}, Value.{all_cells, unset_cell, entries, free_open}}
use Rattle.table.proofs.fresh.Goals as goal

pub returns : goal.returns
unfolding fresh_table
returns c = λ j. record { core = c.fresh_core.ensures j; cells = replicate all_cells unset_cell; opens = replicate entries free_open }
