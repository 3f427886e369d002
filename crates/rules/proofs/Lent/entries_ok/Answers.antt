use Rattle.std.proofs.Common.{rules}
use Rattle.rules.specs.Mirror.Test.{entry_test, all_entries_test}
use Rattle.laws.specs.Chains.{all_below}
use Rattle.rules.proofs.Lent.entries_ok.Goals as goal

pub returns : goal.returns
unfolding all_entries_test
returns c = let g = c.args.self.now in all_below (λ k. (entry_test g.core.now.n g.core.now.m g.own g.opens.now k).passes) c.all.ensures.ran (λ k b q l h. search rules)
