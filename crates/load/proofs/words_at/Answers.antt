use Rattle.std.proofs.Common.{rules}
use Rattle.laws.specs.Chains.{tab_of_from_fn}
use Rattle.load.specs.Mirror.ImageRead.{word_at, padded_is, up_to}
use Rattle.std.specs.Prelude.{◌+◌, ◌*◌}
use Rattle.laws.specs.Kit.{ℕ, ◌∙◌}
use Rattle.load.proofs.words_at.Goals as goal

pub returns : goal.returns
returns c =
    let A = c.args in
    let f = λ (k : ℕ). word_at A.b.now (A.at + 2 * k) in
    tab_of_from_fn 0 (up_to A.p f) c.from_fn.ensures.items (λ i y q l h. search rules) ∙ padded_is A.p f c.requires.0
