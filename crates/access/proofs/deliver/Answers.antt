use Rattle.std.proofs.Common.{rules}
use Rattle.access.specs.Acted.{brought_acted, part_of_delivery}
use Rattle.access.proofs.deliver.Goals as goal

pub acted-requires : goal.acted-requires
acted-requires c d p z a b n ez ea eb en = search (rules, part_of_delivery)

pub returns : goal.returns
returns c = brought_acted c.acted.ensures (λ d made left cs os names y. let h = y.met in search rules)
