use Rattle.std.proofs.Common.{rules}
use Rattle.rules.specs.Mirror.Parts.{most_at, most_marks}
use Rattle.laws.specs.Chains.{tab_of_from_fn}
use Rattle.rules.proofs.most_marks.Goals as goal

pub returns : goal.returns
unfolding most_marks
returns c = let g = c.args in tab_of_from_fn 0 (most_at g.n) c.from_fn.ensures.items (λ t y q l h. search rules)
