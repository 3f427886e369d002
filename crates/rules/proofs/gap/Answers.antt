use Rattle.std.proofs.Common.{rules}
use Rattle.std.specs.Prelude.{◌≡◌}
use Rattle.laws.specs.Kit.{◌∙◌, true, false}
use Rattle.rules.specs.Mirror.Test.{has}
use Rattle.rules.proofs.Chains.{gap_found, found_down, down_of_rev}
use Rattle.rules.proofs.gap.Goals as goal

pub returns : goal.returns
returns c =
    let f = has c.args.opens.now c.args.u in
    let n = c.args.most in
    let i = c.new.ensures in
    c.unwrap_or.ensures
    ∙ gap_found f n c.find.result
    (found_down (λ k. f k ≡ false) (λ k. f k ≡ true) n c.find.result
    (λ p t e. down_of_rev p c.new.result n i.start i.end i.exhausted (c.rev.ensures.runs p t e))
    c.find.ensures.runs (λ a r v h. search rules) (λ k h. search rules) (λ k h. search rules))
