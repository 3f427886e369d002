use Rattle.std.proofs.Common.{rules}
use Rattle.laws.specs.Kit.{not}
use Rattle.table.specs.EntryNames.{named_at}
use Rattle.rules.specs.Mirror.Test.{last_of}
use Rattle.laws.specs.Chains.{all_of_range}
use Rattle.rules.proofs.last_of.Goals as goal

pub returns : goal.returns
unfolding last_of
returns c = let g = c.args in all_of_range (λ j. not (named_at g.opens.now g.u g.k j)) c.all.ensures.ran (λ j b q l r h. search rules)
