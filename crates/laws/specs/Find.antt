-- The first element of a list that passes a test, and what a store does to that.
use Rattle.std.specs.Prelude.{◌<◌, ◌≡◌, ◌∷◌}
use Rattle.laws.specs.Kit.{ℕ, zero, suc, refl, sym, ap, ◌∙◌, Bool, true, false, List, [], Option, none, some, arith}
use Rattle.laws.specs.{Kit.{not-suc-le-zero, le_of_suc-le-suc, length, get_or, set, set-get_or}, Loop.{pick, cases}}

unfoldable pub first_of : {A B : Type 0} → (A → Bool) → (A → B) → List A → Option B
first_of p g [] = none
first_of p g (x ∷ l) = pick (p x) (some (g x)) (first_of p g l)

-- what is known of an element that was found
pub record FoundAt {A B : Type 0} (p : A → Bool) (g : A → B) (l : List A) (d : A) (b : B) : Type 0 where
  pub at : ℕ
  pub small : at < length l
  pub passes : p (get_or l at d) ≡ true
  pub is : b ≡ g (get_or l at d)

-- no element but that at e passes
abbrev pub Alone : {A : Type 0} → (A → Bool) → List A → ℕ → A → Type 0
Alone p l e d = (j : ℕ) → j < length l → (j ≡ e → ⊥) → p (get_or l j d) ≡ false

module _ {A B : Type 0} (p : A → Bool) (g : A → B) (d : A) where
  pub first-none : (l : List A) → ((j : ℕ) → j < length l → p (get_or l j d) ≡ false) → first_of p g l ≡ none
  unfolding first_of
  first-none [] h = refl
  first-none (x ∷ l) h = rw (h 0 (omega arith)) (first-none l (λ j k. h (suc j) (omega arith)))

  -- the element stored is found, if it passes and no other does
  pub first-same : (l : List A) (e : ℕ) (a : A) → e < length l → Alone p l e d → first_of p g (set l e a) ≡ pick (p a) (some (g a)) none
  unfolding first_of
  first-same [] e a h o = absurd (not-suc-le-zero h)
  first-same (x ∷ l) zero a h o = rw (first-none l (λ j k. o (suc j) (omega arith) (λ q. (omega arith))))
  first-same (x ∷ l) (suc e) a h o =
      rw (o 0 (omega arith) (λ q. (omega arith)))
      (first-same l e a (le_of_suc-le-suc h) (λ j k q. o (suc j) (omega arith) (λ r. q (omega arith))))

  -- a store that has nothing to do with the test
  pub first-other : (l : List A) (e : ℕ) (a : A) → p a ≡ false → p (get_or l e d) ≡ false → first_of p g (set l e a) ≡ first_of p g l
  unfolding first_of
  first-other [] e a no-a no-e = refl
  first-other (x ∷ l) zero a no-a no-e = rw (no-a, no-e)
  first-other (x ∷ l) (suc e) a no-a no-e = rw (first-other l e a no-a no-e)

  pub first-at : (l : List A) (e : ℕ) → e < length l → p (get_or l e d) ≡ true → Alone p l e d → first_of p g l ≡ some (g (get_or l e d))
  first-at l e h t o =
      ap (λ (m : List A). first_of p g m) (sym (set-get_or l e d)) ∙ first-same l e (get_or l e d) h o ∙ rw t

  more : (x : A) (l : List A) (b : B) → FoundAt p g l d b → FoundAt p g (x ∷ l) d b
  more x l b f = record { at = suc f.at; small = omega (arith, f.small); passes = f.passes; is = f.is }

  pub first-is : (l : List A) (b : B) → first_of p g l ≡ some b → FoundAt p g l d b
  unfolding first_of
  first-is [] b e = absurd (let z : ◌≡◌ {A = ℕ} 0 1 = cc in omega arith)
  first-is (x ∷ l) b e =
      cases (p x)
      (λ t. record { at = 0; small = omega arith; passes = t; is = (let f : some (g x) ≡ some b = rw t at e in cc) })
      (λ t. more x l b (first-is l b (rw t at e)))

  head-not : (x : A) (l : List A) → first_of p g (x ∷ l) ≡ none → p x ≡ false
  unfolding first_of
  head-not x l e =
      cases (p x) (λ t. absurd (let f : some (g x) ≡ none = rw t at e in let z : ◌≡◌ {A = ℕ} 0 1 = cc in omega arith)) (λ t. t)

  tail_not : (x : A) (l : List A) → first_of p g (x ∷ l) ≡ none → first_of p g l ≡ none
  unfolding first_of
  tail_not x l e = rw (head-not x l e) at e

  -- none passes where none is found
  pub first-not : (l : List A) → first_of p g l ≡ none → (j : ℕ) → j < length l → p (get_or l j d) ≡ false
  first-not [] e j h = absurd (not-suc-le-zero h)
  first-not (x ∷ l) e zero h = head-not x l e
  first-not (x ∷ l) e (suc j) h = first-not l (tail_not x l e) j (le_of_suc-le-suc h)
