-- The first of the indexes below n that fails a test; n where none does.
use Rattle.std.specs.Prelude.{◌+◌, ◌<◌, ◌≤◌, ◌≡◌}
use Rattle.laws.specs.Kit.{ℕ, zero, suc, Bool, not, arith, dec_le}
use Rattle.laws.specs.{Loop.{scan, turns, cases}, Says.{Says, apart}}

unfoldable pub first_not : (ℕ → Bool) → ℕ → ℕ
first_not p n = scan (λ k. not (p k)) (λ k. k) n n 0

-- said without a search
pub record FirstNot (P : ℕ → Type 0) (n k : ℕ) : Type 0 where
  pub most : k ≤ n
  pub before : (j : ℕ) → j < k → P j
  pub fails : k < n → P k → ⊥

module _ {P : ℕ → Type 0} {n : ℕ} where
  -- there is one only
  pub one-first : {k l : ℕ} → FirstNot P n k → FirstNot P n l → k ≡ l
  one-first {k} {l} f g = go (dec_le k l) (dec_le l k)
    where
      go : Dec (k ≤ l) → Dec (l ≤ k) → k ≡ l
      go (yes a) (yes b) = omega arith
      go (no a) b = absurd (g.fails (let m = f.most in omega arith) (f.before l (omega arith)))
      go (yes a) (no b) = absurd (f.fails (let m = g.most in omega arith) (g.before k (omega arith)))

  -- it is below n exactly if one of them fails
  pub fails-below : {k : ℕ} → FirstNot P n k → k < n → (j : ℕ) × (j < n) × (P j → ⊥)
  fails-below {k} f h = (k, h, f.fails h)

  pub below_fails : {k : ℕ} → FirstNot P n k → (j : ℕ) × (j < n) × (P j → ⊥) → k < n
  below_fails {k} f w = go (dec_le n k)
    where
      go : Dec (n ≤ k) → k < n
      go (yes a) = let l = w.1 in absurd (w.2 (f.before w.0 (omega arith)))
      go (no a) = omega arith

  -- none fails: n itself
  pub all_pass : ((j : ℕ) → j < n → P j) → FirstNot P n n
  all_pass h = record { most = omega arith; before = h; fails = λ l _. omega arith }

  module _ (p : ℕ → Bool) (says : (k : ℕ) → k < n → Says (p k) (P k)) where
    from-here : (d i : ℕ) → i + d ≡ n → ((j : ℕ) → j < i → P j) → FirstNot P n (scan (λ k. not (p k)) (λ k. k) n d i)
    unfolding scan turns
    from-here zero i e h = let q : n ≡ i = omega arith in all_pass (λ j l. h j (omega arith))
    from-here (suc d) i e h =
        let l : i < n = omega arith in
        cases (p i)
        (λ t. rw t (from-here d (suc i) (omega arith) (λ j g. more j g ((says i l).to t))))
        (λ t. rw t (record { most = omega arith; before = h; fails = λ _ x. apart (p i) ((says i l).from x) t }))
      where
        more : (j : ℕ) → j < suc i → P i → P j
        more j g x = go (dec_le i j)
          where
            go : Dec (i ≤ j) → P j
            go (yes a) = let q : j ≡ i = omega arith in rw q x
            go (no a) = h j (omega arith)

    -- the search finds it
    pub first_found : FirstNot P n (first_not p n)
    unfolding first_not
    first_found = from-here n 0 (omega arith) (λ j l. absurd (omega arith))

    pub first_as : {k : ℕ} → FirstNot P n k → k ≡ first_not p n
    first_as f = one-first f first_found
