use Rattle.std.proofs.Common.{rules}
use Rattle.laws.specs.Chains.{all_below}
use Rattle.table.specs.Value.{open_at}
use Rattle.rules.specs.Mirror.Parts.{limit_test, all_limits_test}
use Rattle.rules.proofs.Lent.limits_ok.Goals as goal

pub returns : goal.returns
unfolding all_limits_test
returns c = let g = c.args.self.now in
    rw (← c.most_marks-most.ensures) (all_below (λ k. (limit_test c.most_marks-most.result (open_at g.opens.now k)).passes) c.all.ensures.ran (λ k b q l h. search rules))
