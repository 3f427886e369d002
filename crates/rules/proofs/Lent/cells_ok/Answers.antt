use Rattle.std.proofs.Common.{rules}
use Rattle.std.specs.Prelude.{◌+◌, ◌*◌}
use Rattle.table.specs.Value.{desk_cells, cell_at}
use Rattle.rules.specs.Mirror.Test.{cell_test, all_cells_test}
use Rattle.laws.specs.Chains.{all_below}
use Rattle.rules.proofs.Lent.cells_ok.Goals as goal

pub returns : goal.returns
unfolding all_cells_test
returns c = let g = c.args.self.now in all_below (λ k. (cell_test g.core.now.m c.args.a k (cell_at g.cells.now (c.args.i * desk_cells + k))).passes) c.all.ensures.ran (λ k b q l h. search rules)
