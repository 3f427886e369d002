use Rattle.std.proofs.Common.{rules}
use Rattle.rules.specs.Mirror.Test.{gap_at, gaps}
use Rattle.laws.specs.Chains.{tab_of_from_fn}
use Rattle.rules.proofs.gap_counts.Goals as goal

pub returns : goal.returns
unfolding gaps
returns c = let g = c.args in tab_of_from_fn 0 (gap_at g.own g.opens.now) c.from_fn.ensures.items (λ t y q l h. search rules)
