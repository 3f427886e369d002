-- Lists put together of pieces, f 0, f 1, ..; and a part of a list, cut out.
use Rattle.std.specs.Prelude.{◌+◌, ◌*◌, ◌<◌, ◌≤◌, ◌≡◌, ◌++◌}
use Rattle.laws.specs.Kit.{ℕ, zero, suc, refl, ◌∙◌, inl, inr, List, [], arith, eq-or-lt_of_le}
use Rattle.laws.specs.Kit.{add-zero, length, get_or, take, drop, length-append, length-drop, get_or-append, drop-append-add}
use Rattle.laws.specs.{Kit.{drop-append-le, take-append-le, get_or-append-add, take-length}, Sum.{sum}}

-- f 0 ++ .. ++ f (n - 1)
unfoldable pub cat : {A : Type 0} → (ℕ → List A) → ℕ → List A
cat f zero = []
cat f (suc n) = cat f n ++ f n

-- w elements from p on
unfoldable pub part : {A : Type 0} → ℕ → ℕ → List A → List A
part p w l = take w (drop p l)

module _ {A : Type 0} where
  pub part-whole : (l : List A) (w : ℕ) → length l ≡ w → part 0 w l ≡ l
  unfolding part
  part-whole l w e = rw (← e) (take-length l)

  pub part_right : (a b : List A) (k p w : ℕ) → length a ≡ k → part (k + p) w (a ++ b) ≡ part p w b
  unfolding part
  part_right a b k p w e = rw (← e, drop-append-add a b p)

  pub part_left : (a b : List A) (p w : ℕ) → p + w ≤ length a → part p w (a ++ b) ≡ part p w a
  unfolding part
  part_left a b p w h =
      rw (drop-append-le p a b (omega arith))
      (let g : w ≤ length (drop p a) = omega (arith, length-drop p a) in take-append-le w (drop p a) b g)

module _ {A : Type 0} (f : ℕ → List A) where
  -- the pieces before u, and u, lie within the first n
  pub cat-le : (n u : ℕ) → u < n → length (cat f u) + length (f u) ≤ length (cat f n)
  unfolding cat
  cat-le zero u h = absurd (omega arith)
  cat-le (suc n) u h =
      elim (eq-or-lt_of_le h) [
        | inl e ↦ let q : u ≡ n = omega arith in rw (q, length-append) (omega arith)
        | inr g ↦ let q : length (cat f u) + length (f u) ≤ length (cat f n) = cat-le n u (omega arith) in rw length-append (omega arith)
      ]

  -- a part of piece u
  pub part-cat : (n u k p w : ℕ) → u < n → length (cat f u) ≡ k → p + w ≤ length (f u) → part (k + p) w (cat f n) ≡ part p w (f u)
  unfolding cat
  part-cat zero u k p w h e g = absurd (omega arith)
  part-cat (suc n) u k p w h e g =
      elim (eq-or-lt_of_le h) [
        | inl q ↦ let z : u ≡ n = omega arith in rw z (part_right (cat f n) (f n) k p w (rw z at e))
        | inr q ↦ part_left (cat f n) (f n) (k + p) w (omega (arith, cat-le n u (omega arith))) ∙ part-cat n u k p w (omega arith) e g
      ]

  -- .. and the whole piece
  pub piece-cat : (n u k w : ℕ) → u < n → length (cat f u) ≡ k → length (f u) ≡ w → part k w (cat f n) ≡ f u
  piece-cat n u k w h e g = rw add-zero at (part-cat n u k 0 w h e (omega arith) ∙ part-whole (f u) w g)

  pub get_or-cat : (n u k y : ℕ) (d : A) → u < n → length (cat f u) ≡ k → y < length (f u) → get_or (cat f n) (k + y) d ≡ get_or (f u) y d
  unfolding cat
  get_or-cat zero u k y d h e g = absurd (omega arith)
  get_or-cat (suc n) u k y d h e g =
      elim (eq-or-lt_of_le h) [
        | inl q ↦ let z : u ≡ n = omega arith in rw (← e, z) (get_or-append-add (cat f n) (f n) y d)
        | inr q ↦ get_or-append (cat f n) (f n) d (k + y) (omega (arith, cat-le n u (omega arith))) ∙ get_or-cat n u k y d (omega arith) e g
      ]

  -- pieces of one length
  pub length-cat : (w : ℕ) → ((j : ℕ) → length (f j) ≡ w) → (n : ℕ) → length (cat f n) ≡ w * n
  unfolding cat
  length-cat w h zero = omega arith
  length-cat w h (suc n) = rw (length-append, h n, length-cat w h n) (omega arith)

-- the lengths add up
pub length_cats : {A : Type 0} (f : ℕ → List A) (n : ℕ) → length (cat (λ j. f (suc j)) n) ≡ sum n (λ j. length (f j))
unfolding cat sum
length_cats f zero = refl
length_cats f (suc n) = rw (length-append, length_cats f n) (omega arith)

-- pieces that are the same
pub cat-same : {A : Type 0} (f g : ℕ → List A) (n : ℕ) → ((j : ℕ) → j < n → f j ≡ g j) → cat f n ≡ cat g n
unfolding cat
cat-same f g zero h = refl
cat-same f g (suc n) h = rw (h n (omega arith), cat-same f g n (λ j l. h j (omega arith)))
