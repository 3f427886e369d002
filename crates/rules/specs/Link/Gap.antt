-- The largest number that is not open: what it is, and how a loop downward finds it.
use Rattle.std.specs.Prelude.{◌-◌, ◌<◌, ◌≤◌, ◌≡◌}
use Rattle.laws.specs.{Kit.{ℕ, zero, suc, refl, Bool, true, false, arith}, Loop.{cases}, Update.{same_or}}
use Rattle.rules.specs.Mirror.Test.{gap_of}

module _ (f : ℕ → Bool) where
  pub gap_most : (k : ℕ) → gap_of f k ≤ k
  unfolding gap_of
  gap_most zero = omega arith
  gap_most (suc k) = cases (f (suc k)) (λ e. rw e (omega (arith, gap_most k))) (λ e. rw e (omega arith))

  -- all above it have f
  pub gap_above : (n k : ℕ) → gap_of f n < k → k ≤ n → f k ≡ true
  unfolding gap_of
  gap_above zero k a b = absurd (omega arith)
  gap_above (suc n) k a b =
      cases (f (suc n))
      (λ e. same_or k (suc n) (λ q. rw q e) (λ q. gap_above n k (rw e at a) (less k n b q)))
      (λ e. absurd (let c : suc n < k = rw e at a in omega arith))
    where
      less : (k n : ℕ) → k ≤ suc n → (k ≡ suc n → ⊥) → k ≤ n
      less k n b q = omega arith

  -- it has not
  pub gap_not : (n : ℕ) → 1 ≤ gap_of f n → f (gap_of f n) ≡ false
  unfolding gap_of
  gap_not zero h = absurd (omega arith)
  gap_not (suc n) h = cases (f (suc n)) (λ e. rw e (gap_not n (rw e at h))) (λ e. rw e e)

  -- the loop: found, one down, at the end
  pub gap_here : (k : ℕ) → 0 < k → f k ≡ false → gap_of f k ≡ k
  unfolding gap_of
  gap_here zero h e = refl
  gap_here (suc k) h e = rw e

  pub gap_down : (k : ℕ) → 0 < k → f k ≡ true → gap_of f k ≡ gap_of f (k - 1)
  unfolding gap_of
  gap_down zero h e = absurd (omega arith)
  gap_down (suc k) h e = let q : suc k - 1 ≡ k = omega arith in rw (e, q)

  pub gap_zero : (k : ℕ) → k ≤ 0 → gap_of f k ≡ k
  unfolding gap_of
  gap_zero zero h = refl
  gap_zero (suc k) h = absurd (omega arith)
