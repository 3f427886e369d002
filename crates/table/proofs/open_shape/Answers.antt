use Rattle.std.proofs.Common.{rules}
use Rattle.laws.specs.Owned.{unmapped}
use Rattle.table.proofs.open_shape.Goals as goal

pub returns : goal.returns
returns c = record { vector = search (rules, unmapped); marks = search (rules, unmapped) }
