-- Counting from 1: n values stand at 1 to n, and d everywhere else.
use Rattle.std.specs.Prelude.{◌<◌, ◌≤◌, ◌≡◌, ◌∷◌}
use Rattle.laws.specs.Kit.{ℕ, zero, suc, refl, sym, fun_ext, arith, dec_lt, get_or}
use Rattle.laws.specs.Tab.{tab, get_or-tab, get_or-tab_out}

unfoldable pub from1 : {A : Type 0} → A → ℕ → (ℕ → A) → ℕ → A
from1 d n f i = get_or (d ∷ tab n f) i d

module _ {A : Type 0} (d : A) (n : ℕ) (f : ℕ → A) where
  pub from1_in : (i : ℕ) → i < n → from1 d n f (suc i) ≡ f i
  unfolding from1
  from1_in i h = get_or-tab f n i d h

  pub from1_out : (i : ℕ) → (1 ≤ i → i ≤ n → ⊥) → from1 d n f i ≡ d
  unfolding from1
  from1_out zero h = refl
  from1_out (suc i) h = get_or-tab_out f n i d (past (dec_lt i n))
    where
      past : Dec (i < n) → n ≤ i
      past (yes l) = absurd (h (omega arith) l)
      past (no l) = omega arith

  -- what holds of each value, and of d
  pub from1-all : (P : ℕ → A → Type 0) → ((i : ℕ) → i < n → P (suc i) (f i)) → ((i : ℕ) → (1 ≤ i → i ≤ n → ⊥) → P i d) → (i : ℕ) → P i (from1 d n f i)
  from1-all P h o zero = rw (from1_out zero (λ a b. omega arith)) (o zero (λ a b. omega arith))
  from1-all P h o (suc i) = go (dec_lt i n)
    where
      go : Dec (i < n) → P (suc i) (from1 d n f (suc i))
      go (yes l) = rw (from1_in i l) (h i l)
      go (no l) = rw (from1_out (suc i) (λ a b. l b)) (o (suc i) (λ a b. l b))

  -- a function has these values if it has them at 1 to n, and d elsewhere
  pub from1-is : (g : ℕ → A) → ((i : ℕ) → i < n → f i ≡ g (suc i)) → ((i : ℕ) → (1 ≤ i → i ≤ n → ⊥) → g i ≡ d) → from1 d n f ≡ g
  from1-is g h o = fun_ext (from1-all (λ i a. a ≡ g i) h (λ i e. sym (o i e)))
