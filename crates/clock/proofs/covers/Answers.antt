use Rattle.std.proofs.Common.{rules, ◌≡◌, Bool, true, ◌&&◌}
use Rattle.std.proofs.lemmas.Iterator.{YieldsList-from_slice, YieldsList-from_zip}
use Rattle.std.proofs.lemmas.Iterator.Consumers.{fold_from_yields_List}
use Rattle.laws.specs.Kit.{ℕ, ◌∙◌, List, not, length, get_or, leb, ltb, ltb-true, ltb-false, lt-leb, le-leb}
use Rattle.laws.specs.{All.{all, all_same}, Loop.{cases}, Chains.{fold_all, pass}}
use Rattle.clock.specs.{Vectors.{places}, Readiness.{covers}}
use Rattle.clock.proofs.covers.Goals as goal

-- the closure's test is the definition's
same : (a v : List ℕ) → length a ≡ places → all (pass (λ x y. leb y x) 0 0 a v) (length a) 0 ≡ covers places a v
unfolding covers
same a v e =
    rw e (all_same _ (λ t. not (ltb (get_or a t 0) (get_or v t 0))) places 0
    (λ k l h. cases (ltb (get_or a k 0) (get_or v k 0)) (λ t. rw (t, lt-leb _ _ (ltb-true _ _ t))) (λ f. rw (f, le-leb _ _ (ltb-false _ _ f)))))

pub returns : goal.returns
returns c =
    fold_from_yields_List _ (λ (ok : Bool) (p : ℕ × ℕ). ok && leb p.1 p.0) true _ c.fold.ensures.ran
    (YieldsList-from_zip (YieldsList-from_slice c.args.a (search rules)) (YieldsList-from_slice c.args.v (search rules))) (λ ok x b q k. search rules)
    ∙ (fold_all (λ x y. leb y x) 0 0 c.args.a c.args.v (search rules) ∙ same c.args.a c.args.v (search rules))
