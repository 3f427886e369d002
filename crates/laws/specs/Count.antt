-- How many elements pass a test, and what a store does to that.
use Rattle.std.specs.Prelude.{◌+◌, ◌<◌, ◌≤◌, ◌≡◌, ◌∷◌, ◌++◌}
use Rattle.laws.specs.Kit.{ℕ, zero, suc, refl, List, [], Bool, true, false, arith, length, get_or, set}
use Rattle.laws.specs.Loop.{pick, cases}

unfoldable pub count : {A : Type 0} → (A → Bool) → List A → ℕ
count p [] = 0
count p (x ∷ l) = pick (p x) 1 0 + count p l

-- how many pass, beside how many there are
module _ {A : Type 0} (p : A → Bool) (d : A) where
  count-le : (l : List A) → count p l ≤ length l
  unfolding count
  count-le [] = omega arith
  count-le (x ∷ l) = let h = count-le l in cases (p x) (λ t. rw t (omega arith)) (λ t. rw t (omega arith))

  pub count-all : (l : List A) → ((j : ℕ) → j < length l → p (get_or l j d) ≡ true) → count p l ≡ length l
  unfolding count
  count-all [] h = refl
  count-all (x ∷ l) h = let r = count-all l (λ j b. h (suc j) (omega arith)) in rw (h 0 (omega arith)) (omega arith)

  pub count_miss : (l : List A) (j : ℕ) → j < length l → p (get_or l j d) ≡ false → count p l < length l
  unfolding count
  count_miss [] j b f = absurd (omega arith)
  count_miss (x ∷ l) zero b f = let h = count-le l in rw f (omega arith)
  count_miss (x ∷ l) (suc j) b f =
      let h = count_miss l j (omega arith) f in cases (p x) (λ t. rw t (omega arith)) (λ t. rw t (omega arith))

-- none passes
pub count_none : {A : Type 0} (p : A → Bool) (l : List A) (d : A) → ((j : ℕ) → j < length l → p (get_or l j d) ≡ false) → count p l ≡ 0
unfolding count
count_none p [] d h = refl
count_none p (x ∷ l) d h = let r = count_none p l d (λ j b. h (suc j) (omega arith)) in rw (h 0 (omega arith)) (omega arith)

-- a store that begins the test at one element
pub count-more : {A : Type 0} (p : A → Bool) (l : List A) (k : ℕ) (a d : A) → k < length l → p (get_or l k d) ≡ false → p a ≡ true → count p (set l k a) ≡ suc (count p l)
unfolding count
count-more p [] k a d h f t = absurd (omega arith)
count-more p (x ∷ l) zero a d h f t = rw (f, t) (omega arith)
count-more p (x ∷ l) (suc k) a d h f t = let r = count-more p l k a d (omega arith) f t in omega arith

-- one more element at the end
pub count_end : {A : Type 0} (p : A → Bool) (l : List A) (a : A) → count p (l ++ a ∷ []) ≡ pick (p a) 1 0 + count p l
unfolding count
count_end p [] a = refl
count_end p (x ∷ l) a = let r = count_end p l a in omega arith
