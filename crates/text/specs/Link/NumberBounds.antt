-- How many numbers bytes can hold, and how large they are.
use Rattle.std.specs.Prelude.{◌+◌, ◌*◌, ◌≤◌, ◌≡◌, ◌∷◌}
use Rattle.laws.specs.Kit.{ℕ, zero, suc, refl, List, [], Bool, true, false, and-false, Option, none, some, arith}
use Rattle.laws.specs.{Kit.{leb-true, eqb, leb, length, get_or}, Lists.{every}, Loop.{cases}}
use Rattle.text.specs.{Number.{most_number, is_digit, read_on, unpadded, is_number, when, number}, Words.{space, onto, words, read_onto}}
use Rattle.text.specs.{Words.{numbers}, Fields.{rest}}

-- two bytes a number, the space and a digit at least --

weight : List (List ℕ) → ℕ
weight [] = 0
weight (w ∷ ws) = length w + 1 + weight ws

weight_words : (l : List ℕ) → weight (words l) ≡ length l + 1
unfolding words weight
weight_words [] = refl
weight_words (b ∷ l) =
    cases (eqb b space) (λ e. rw e (omega (arith, weight_words l)))
    (λ e. rw e ((elim (words l) as (λ ws. weight ws ≡ length l + 1 → weight (onto b ws) ≡ suc (length l) + 1)
    [ [] ↦ (λ h. absurd (omega arith)) | w ∷ ws ↦ (λ h. omega arith) ]) (weight_words l)))

abbrev pub list_of : Option (List ℕ) → List ℕ
list_of none = []
list_of (some l) = l

join-count : (o : Option ℕ) (ns : Option (List ℕ)) → length (list_of (read_onto o ns)) ≤ suc (length (list_of ns))
join-count none ns = omega arith
join-count (some x) none = omega arith
join-count (some x) (some l) = omega arith

numbers-count : (ws : List (List ℕ)) → 2 * length (list_of (numbers ws)) ≤ weight ws
unfolding numbers number weight
numbers-count [] = omega arith
numbers-count ([] ∷ ws) = omega arith
numbers-count ((b ∷ w) ∷ ws) = omega (arith, join-count (number (b ∷ w)) (numbers ws), numbers-count ws)

pub rest-count : (l : List ℕ) → 2 * length (list_of (rest l)) ≤ length l
unfolding rest
rest-count [] = omega arith
rest-count (b ∷ l) = cases (eqb b space) (λ e. rw e (omega (arith, numbers-count (words l), weight_words l))) (λ e. rw e (omega arith))

-- no number above the largest --

abbrev pub SmallNumbers : List ℕ → Type 0
SmallNumbers l = (k : ℕ) → get_or l k 0 ≤ most_number

pub small-nil : SmallNumbers []
small-nil k = omega arith

small-cons : (x : ℕ) (l : List ℕ) → x ≤ most_number → SmallNumbers l → SmallNumbers (x ∷ l)
small-cons x l h g zero = h
small-cons x l h g (suc k) = g k

abbrev value_of : Option ℕ → ℕ
value_of none = 0
value_of (some x) = x

number_small : (w : List ℕ) → value_of (number w) ≤ most_number
unfolding number
number_small w = cases (leb (read_on 0 w) most_number) (λ e. fits (is_number w) (leb-true _ _ e)) (λ e. rw (e, and-false (every is_digit w), and-false (unpadded w)) (omega arith))
  where
    fits : (b : Bool) → read_on 0 w ≤ most_number → value_of (when b (read_on 0 w)) ≤ most_number
    fits true h = h
    fits false h = omega arith

numbers-small : (ws : List (List ℕ)) → SmallNumbers (list_of (numbers ws))
unfolding numbers
numbers-small [] = small-nil
numbers-small (w ∷ ws) = go (number w) (numbers ws) (number_small w) (numbers-small ws)
  where
    go : (o : Option ℕ) (ns : Option (List ℕ)) → value_of o ≤ most_number → SmallNumbers (list_of ns) → SmallNumbers (list_of (read_onto o ns))
    go none ns h g = small-nil
    go (some x) none h g = small-nil
    go (some x) (some l) h g = small-cons x l h g

pub rest-small : (l : List ℕ) → SmallNumbers (list_of (rest l))
unfolding rest
rest-small [] = small-nil
rest-small (b ∷ l) = cases (eqb b space) (λ e. rw e (numbers-small (words l))) (λ e. rw e small-nil)
