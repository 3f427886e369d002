-- A test of each of the n indexes from at on.
use Rattle.std.specs.Prelude.{◌+◌, ◌-◌, ◌<◌, ◌≤◌, ◌≡◌}
use Rattle.laws.specs.Kit.{ℕ, zero, suc, refl, sym, ap, ◌∙◌, Bool, true, false, not, arith, not-false}
use Rattle.laws.specs.Loop.{scan, turns, scan_miss, scan-here, scan-next, scan_end, scan-same, cases}

unfoldable pub all : (ℕ → Bool) → ℕ → ℕ → Bool
all p n at = scan (λ k. not (p k)) (λ k. false) true n at

module _ (p : ℕ → Bool) where
  pub all-at : (n at : ℕ) → all p n at ≡ true → (k : ℕ) → at ≤ k → k < at + n → p k ≡ true
  unfolding all
  all-at n at e k l h =
      not-false (p k) (scan_miss (λ k. not (p k)) (λ k. false) true (λ k q. (let z : ◌≡◌ {A = ℕ} 0 1 = cc in omega arith)) n at e k l h)

  -- the loop: a failure, one more, the end
  pub all-fails : (n i : ℕ) → i < n → p i ≡ false → all p (n - i) i ≡ false
  unfolding all
  all-fails n i h e = scan-here _ _ _ n i h (rw e)

  pub all-next : (n i : ℕ) → i < n → p i ≡ true → all p (n - i) i ≡ all p (n - (i + 1)) (i + 1)
  unfolding all
  all-next n i h e = scan-next _ _ _ n i h (rw e)

  pub all_end : (n i : ℕ) → n ≤ i → all p (n - i) i ≡ true
  unfolding all
  all_end n i h = scan_end _ _ _ n i h

  pub all_true : (n at : ℕ) → ((k : ℕ) → at ≤ k → k < at + n → p k ≡ true) → all p n at ≡ true
  unfolding all scan turns
  all_true zero at h = refl
  all_true (suc n) at h = rw (h at (omega arith) (omega arith)) (all_true n (suc at) (λ k l g. h k (omega arith) (omega arith)))

  -- one failure is enough
  pub all-fails-at : (n at k : ℕ) → at ≤ k → k < at + n → p k ≡ false → all p n at ≡ false
  all-fails-at n at k l h e = cases (all p n at) (λ t. absurd (let f : true ≡ false = sym (all-at n at t k l h) ∙ e in let z : ◌≡◌ {A = ℕ} 0 1 = cc in omega arith)) (λ t. t)

-- a loop over n indexes that answers false at the first failure: at i, what is left answers r as the whole does
pub record Rest (p : ℕ → Bool) (n : ℕ) (r : Bool) (i : ℕ) : Type 0 where
  pub most : i ≤ n
  pub is : all p (n - i) i ≡ r

module _ {p : ℕ → Bool} {n : ℕ} {r : Bool} {i : ℕ} (h : Rest p n r i) where
  pub rest-fails : i < n → p i ≡ false → false ≡ r
  rest-fails l e = sym (all-fails p n i l e) ∙ h.is

  pub rest-next : i < n → p i ≡ true → Rest p n r (i + 1)
  rest-next l e = record { most = omega arith; is = sym (all-next p n i l e) ∙ h.is }

  pub rest_end : n ≤ i → true ≡ r
  rest_end l = sym (all_end p n i l) ∙ h.is

-- two tests that agree on the indexes
pub all_same : (p q : ℕ → Bool) (n at : ℕ) → ((k : ℕ) → at ≤ k → k < at + n → p k ≡ q k) → all p n at ≡ all q n at
unfolding all
all_same p q n at h = scan-same (λ k. not (p k)) (λ k. not (q k)) (λ k. false) true n at (λ k l g. ap not (h k l g))

-- the indexes from one further on
pub all_shift : (p : ℕ → Bool) (n at : ℕ) → all p n (suc at) ≡ all (λ k. p (suc k)) n at
unfolding all scan turns
all_shift p zero at = refl
all_shift p (suc n) at = rw (all_shift p n (suc at))
