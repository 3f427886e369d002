-- Sums f 1 + .. + f n, and how many of 1 .. n pass a test.
use Rattle.std.specs.Prelude.{◌+◌, ◌-◌, ◌*◌, ◌<◌, ◌≤◌, ◌≡◌}
use Rattle.laws.specs.{Kit.{ℕ, zero, suc, refl, sym, ◌∙◌, Bool, true, false, arith}, Loop.{cases}}
use Rattle.laws.specs.Update.{same_or}

unfoldable pub sum : ℕ → (ℕ → ℕ) → ℕ
sum zero f = 0
sum (suc n) f = f (suc n) + sum n f

abbrev pub one : Bool → ℕ
one true = 1
one false = 0

-- how many of 1 .. n pass
abbrev pub tally : ℕ → (ℕ → Bool) → ℕ
tally n p = sum n (λ k. one (p k))

pub sum-le : (n : ℕ) (f g : ℕ → ℕ) → ((j : ℕ) → 1 ≤ j → j ≤ n → f j ≤ g j) → sum n f ≤ sum n g
unfolding sum
sum-le zero f g h = omega arith
sum-le (suc n) f g h = omega (arith, h (suc n) (omega arith) (omega arith), sum-le n f g (λ j a b. h j a (omega arith)))

pub sum_same : (n : ℕ) (f g : ℕ → ℕ) → ((j : ℕ) → 1 ≤ j → j ≤ n → g j ≡ f j) → sum n g ≡ sum n f
unfolding sum
sum_same zero f g h = refl
sum_same (suc n) f g h = rw (h (suc n) (omega arith) (omega arith), sum_same n f g (λ j a b. h j a (omega arith)))

pub sum-zero : (n : ℕ) → sum n (λ j. 0) ≡ 0
unfolding sum
sum-zero zero = refl
sum-zero (suc n) = omega (arith, sum-zero n)

-- one term has d more, and no other changes
pub sum_more : (n : ℕ) (f g : ℕ → ℕ) (a d : ℕ) → 1 ≤ a → a ≤ n → g a ≡ d + f a → ((j : ℕ) → (j ≡ a → ⊥) → g j ≡ f j) → sum n g ≡ d + sum n f
unfolding sum
sum_more zero f g a d h l e o = absurd (omega arith)
sum_more (suc n) f g a d h l e o =
    same_or (suc n) a
    (λ p. let e2 : g (suc n) ≡ d + f (suc n) = rw p e in omega (arith, sum_same n f g (λ j x y. o j (λ r. (omega arith)))))
    (λ p. omega (arith, o (suc n) p, sum_more n f g a d h (below a n l p) e o))
  where
    below : (a n : ℕ) → a ≤ suc n → (suc n ≡ a → ⊥) → a ≤ n
    below a n b e = omega arith

pub sum_one : (n : ℕ) (f g : ℕ → ℕ) (a : ℕ) → 1 ≤ a → a ≤ n → g a ≡ suc (f a) → ((j : ℕ) → (j ≡ a → ⊥) → g j ≡ f j) → sum n g ≡ suc (sum n f)
sum_one n f g a h l e o = omega (arith, sum_more n f g a 1 h l (omega arith) o)

-- one term rises by at most one, and no other does
pub sum-one-le : (n : ℕ) (f g : ℕ → ℕ) (a : ℕ) → g a ≤ suc (f a) → ((j : ℕ) → (j ≡ a → ⊥) → g j ≤ f j) → sum n g ≤ suc (sum n f)
unfolding sum
sum-one-le zero f g a e o = omega arith
sum-one-le (suc n) f g a e o =
    same_or (suc n) a
    (λ p. let e2 : g (suc n) ≤ suc (f (suc n)) = rw p e in omega (arith, sum-le n g f (λ j x y. o j (λ r. (omega arith)))))
    (λ p. omega (arith, o (suc n) p, sum-one-le n f g a e o))

-- all the numbers above a pass
pub tally_above : (n a : ℕ) (p : ℕ → Bool) → ((k : ℕ) → a < k → k ≤ n → p k ≡ true) → n - a ≤ tally n p
unfolding sum
tally_above zero a p h = omega arith
tally_above (suc n) a p h =
    let ih = tally_above n a p (λ k l m. h k l (omega arith)) in
    cases (p (suc n))
    (λ e. rw e (omega arith))
    (λ e. rw e (low ih e))
  where
    low : n - a ≤ tally n p → p (suc n) ≡ false → suc n - a ≤ 0 + tally n p
    low ih e = same_or (suc n - a) 0 (λ z. omega arith) (λ z. absurd (let q = h (suc n) (omega arith) (omega arith) in let w : true ≡ false = sym q ∙ e in let c : ◌≡◌ {A = ℕ} 0 1 = cc in omega arith))

-- the numbers that pass, of those where one does not
tally-le : (n : ℕ) (p : ℕ → Bool) → tally n p ≤ n
unfolding sum
tally-le zero p = omega arith
tally-le (suc n) p = let ih = tally-le n p in cases (p (suc n)) (λ e. rw e (omega arith)) (λ e. rw e (omega arith))

pub tally_miss : (n : ℕ) (p : ℕ → Bool) (u : ℕ) → 1 ≤ u → u ≤ n → p u ≡ false → tally n p < n
unfolding sum
tally_miss zero p u a b e = absurd (omega arith)
tally_miss (suc n) p u a b e =
    same_or u (suc n)
    (λ q. let h : p (suc n) ≡ false = rw q at e in let i = tally-le n p in rw h (omega arith))
    (λ q. let ih = tally_miss n p u a (omega (arith, q)) e in cases (p (suc n)) (λ t. rw t (omega arith)) (λ t. rw t (omega arith)))

-- none passes
pub tally-none : (n : ℕ) (p : ℕ → Bool) → ((k : ℕ) → p k ≡ false) → tally n p ≡ 0
tally-none n p h = sum_same n (λ j. 0) (λ j. one (p j)) (λ j _ _. rw (h j)) ∙ sum-zero n

pub sum_times : (n c : ℕ) (f : ℕ → ℕ) → sum n (λ j. c * f j) ≡ c * sum n f
unfolding sum
sum_times zero c f = omega arith
sum_times (suc n) c f = omega (arith, sum_times n c f)
