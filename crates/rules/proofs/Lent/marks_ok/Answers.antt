use Rattle.std.proofs.Common.{rules}
use Rattle.table.specs.Value.{open_at}
use Rattle.rules.specs.Mirror.Parts.{used_mark, used_marks}
use Rattle.laws.specs.Chains.{all_below}
use Rattle.rules.proofs.Lent.marks_ok.Goals as goal

pub returns : goal.returns
unfolding used_marks
returns c = let g = c.args.self.now in all_below (λ k. (used_mark c.args.a c.args.i (open_at g.opens.now k)).passes) c.all.ensures.ran (λ k b q l h. search rules)
