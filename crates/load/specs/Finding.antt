-- Document 02, T-01: what there is to tell of an image, as five numbers.
use Rattle.std.specs.Prelude.{◌≡◌, ◌∷◌, Result, Ok, Err}
use Rattle.laws.specs.Kit.{ℕ, refl, ap, ◌∙◌, List, [], map, Option, none, some, arith, eqb, get_or}
use Rattle.laws.specs.{Loop.{pick, scan, turns}, All.{all}, Sum.{sum}, Update.{upd, upd2}}
use Rattle.machine.specs.{Table.{fresh}, Answer.{wrong_length, damaged, number_of}, Steps.{open_count, everywhere, write}}
use Rattle.table.specs.{declared.Table.{Table}, Model.{model_of}}
use Rattle.block.specs.Limits.{places_for}
use Rattle.image.specs.{Decode.{n_in, m_in, count_in, places_in, n-back, m-back, count-back}, Load.{Fault, length_fault, check_fault}}
use Rattle.image.specs.Load.{rule_fault, fault_refusal, fault_place, Loaded, refused, loaded, load}
use Rattle.load.specs.declared.Fault as code
use Rattle.load.specs.{declared.Sizes.{Sizes}, Loading.{fault_of, loaded_of, Answers}, Unique.{loaded-is}, Link.ReadsBack.{fits_so}}
use Rattle.image.specs.Encode.{encode}
use Rattle.load.specs.Mirror.ImageRead.{Fits}

-- "its place (0 where there is none)"
abbrev pub or_zero : Option ℕ → ℕ
or_zero none = 0
or_zero (some k) = k

-- "the number (0 for an image that is loaded), its place .., then n, m and the open count of the table (0 where it is refused)"
abbrev pub finding_of : Loaded → List ℕ
finding_of (refused f) = number_of (fault_refusal f) ∷ or_zero (fault_place f) ∷ 0 ∷ 0 ∷ 0 ∷ []
finding_of (loaded s) = 0 ∷ 0 ∷ s.setup.desks ∷ s.setup.cells ∷ open_count s ∷ []

-- a refusal's number is not 0, and with its place it tells what is wrong
pub fault_number : (f : Fault) → number_of (fault_refusal f) ≡ 0 → ⊥
fault_number length_fault e = omega arith
fault_number (check_fault k) e = omega arith
fault_number (rule_fault k) e = omega arith

abbrev pub fault_from : ℕ → ℕ → Fault
fault_from number place = pick (eqb number (number_of wrong_length)) length_fault (pick (eqb number (number_of damaged)) (check_fault place) (rule_fault place))

pub fault_back : (f : Fault) → fault_from (get_or (finding_of (refused f)) 0 0) (get_or (finding_of (refused f)) 1 0) ≡ f
fault_back length_fault = refl
fault_back (check_fault k) = refl
fault_back (rule_fault k) = refl

-- computed, of each case; the table has two desks, three cells and an open write
pub finding-told : map finding_of (refused length_fault ∷ refused (check_fault 3) ∷ refused (rule_fault 2) ∷ loaded (write (fresh 2 3) 1 1 2) ∷ [])
    ≡ (15 ∷ 0 ∷ 0 ∷ 0 ∷ 0 ∷ []) ∷ (12 ∷ 3 ∷ 0 ∷ 0 ∷ 0 ∷ []) ∷ (13 ∷ 2 ∷ 0 ∷ 0 ∷ 0 ∷ []) ∷ (0 ∷ 0 ∷ 2 ∷ 3 ∷ 1 ∷ []) ∷ []
unfolding open_count sum upd upd2 everywhere all scan turns
finding-told = refl

-- the code's value
abbrev pub finding_numbers : Result Sizes code.Fault → List ℕ
finding_numbers (Ok z) = 0 ∷ 0 ∷ z.n ∷ z.m ∷ z.open ∷ []
finding_numbers (Err f) = finding_of (refused (fault_of f))

-- of what load answers, whichever case it is
pub found_as : (b : List ℕ) (r : Result Table code.Fault) → Answers b r → finding_of (loaded_of r) ≡ finding_of (load b)
found_as b r h = ap finding_of (loaded-is b r h)

-- an image that is loaded tells its table's sizes
module _ (b : List ℕ) (t : Table) (h : Answers b (Ok t)) where
  pub fits-found : Fits (places_in b) b
  fits-found = fits_so b (model_of t) h.0.rules h.1

  pub sizes-found : {l : List ℕ} → l ≡ 0 ∷ 0 ∷ n_in b ∷ m_in b ∷ count_in b ∷ [] → l ≡ finding_of (load b)
  sizes-found e = let p = places_for t.core.n in e ∙ rw (← h.1, n-back p (model_of t), m-back p (model_of t), count-back p (model_of t)) (found_as (encode (model_of t)) (Ok t) (h.0, refl))
