use Rattle.std.proofs.Common.{rules}
use Rattle.laws.specs.Chains.{all_of_range}
use Rattle.table.specs.Value.{cell_at}
use Rattle.rules.specs.Mirror.Parts.{zero_cell}
use Rattle.rules.proofs.Lent.past_unset.Goals as goal

pub returns : goal.returns
returns c = let g = c.args.self.now in all_of_range (λ s. (zero_cell (cell_at g.cells.now s)).passes) c.all.ensures.ran (λ s b q l r h. search rules)
