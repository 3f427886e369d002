-- The cells of a trip, stored one after the other.
use Rattle.std.specs.Prelude.{◌+◌, ◌<◌, ◌≤◌, ◌≡◌, Some, None}
use Rattle.std.specs.Prelude as std
use Rattle.laws.specs.Kit.{ℕ, suc, refl, List, Option, none, some, bind, arith, add-zero, add-one, length, set}
use Rattle.laws.specs.{Kit.{drop_of_length-le, sets}, Says.{clash}}
use Rattle.text.specs.{Words.{read_onto}, Fields.{rest, fields_at, FieldIs}}
use Rattle.schedule.specs.{declared.Line.TheVariants.{Trip}, Mirror.Forms.{travels, say_at, ToldLine}}

pub data CellsStored : Type 0 where
  stored : (cells : List ℕ) (n : ℕ) → CellsStored
  unstored : CellsStored

-- the numbers stored from n on, if every field is a number
abbrev pub storing : List ℕ → ℕ → Option (List ℕ) → CellsStored
storing l n none = unstored
storing l n (some xs) = stored (sets l n xs) (n + length xs)

abbrev pub CellsTell : List ℕ → ℕ → List ℕ → std.Option ℕ → List ℕ → Type 0
CellsTell s at l (Some n) l' = storing l 0 (fields_at s at) ≡ stored l' n
CellsTell s at l None l' = storing l 0 (fields_at s at) ≡ unstored

module _ (s : List ℕ) (at : ℕ) (l : List ℕ) (n : ℕ) where
  pub store_one : (x next : ℕ) → FieldIs s at x next → storing l n (fields_at s at) ≡ storing (set l n x) (n + 1) (fields_at s next)
  store_one x next h =
      rw h.is (elim (fields_at s next) as (λ o. storing l n (read_onto (some x) o) ≡ storing (set l n x) (n + 1) o)
      [ none ↦ refl | some xs ↦ let e : n + suc (length xs) ≡ suc n + length xs = omega arith in rw (e, add-one n) ])

  pub store_bad : at < length s → (at < length s → fields_at s at ≡ none) → storing l n (fields_at s at) ≡ unstored
  store_bad h e = rw (e h)

  pub store_end : length s ≤ at → storing l n (fields_at s at) ≡ stored l n
  unfolding rest
  store_end h = rw (drop_of_length-le s h, add-zero n)

module _ (s : List ℕ) (at i : ℕ) (l : List ℕ) where
  pub trip_bad : storing l 0 (fields_at s at) ≡ unstored → say_at s at (λ xs. some (travels i xs)) ≡ none
  unfolding say_at bind
  trip_bad =
      elim (fields_at s at) as (λ o. storing l 0 o ≡ unstored → bind o
      (λ xs. some (travels i xs)) ≡ none) [ none ↦ (λ e. refl) | some xs ↦ (λ e. clash (cc)) ]

  pub told_trip : (l' : List ℕ) (n : ℕ) → storing l 0 (fields_at s at) ≡ stored l' n → ToldLine (say_at s at (λ xs. some (travels i xs))) (Some (Trip i n)) l l'
  unfolding say_at bind
  told_trip l' n = elim (fields_at s at) as (λ o. storing l 0 o ≡ stored l' n → ToldLine (bind o (λ xs. some (travels i xs))) (Some (Trip i n)) l l') [
    | none ↦ (λ e. clash (cc))
    | some xs ↦ (λ e. let q : n ≡ 0 + length xs = cc in let k : n ≡ length xs = omega arith in (rw k, (cc)))
  ]
