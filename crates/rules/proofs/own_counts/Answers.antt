use Rattle.std.proofs.Common.{rules}
use Rattle.rules.specs.Mirror.Test.{own_at, owns}
use Rattle.laws.specs.Chains.{tab_of_from_fn}
use Rattle.rules.proofs.own_counts.Goals as goal

pub returns : goal.returns
unfolding owns
returns c = let g = c.args in tab_of_from_fn 0 (own_at g.desks) c.from_fn.ensures.items (λ t y q l h. search rules)
