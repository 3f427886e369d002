use Rattle.block.specs.{Link.BlockFill.{sets_more}, Block.{word, vector_words}}
use Rattle.std.specs.Prelude.{◌≡◌, ◌*◌}
use Rattle.laws.specs.{Cat.{cat, length-cat}, Kit.{get_or, refl, ◌∙◌, arith}}
use Rattle.block.proofs.put_words.Goals as goal

pub loop-t-init : goal.loop-t-init
unfolding cat
loop-t-init c = refl

pub loop-t-preserved : goal.loop-t-preserved
loop-t-preserved c = let L = c.loop-t in let A = c.args in
    c.put_word.ensures ∙ rw L.invariant (sets_more (λ k. word (get_or A.v k 0)) A.b.now A.at L.t (2 * L.t) (length-cat (λ k. word (get_or A.v k 0)) 2 (λ j. refl) L.t))

pub returns : goal.returns
unfolding vector_words
returns c = let L = c.loop-t in let e : L.t ≡ c.args.p = omega arith in L.invariant ∙ rw e
