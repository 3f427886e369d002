-- Document 01, "Schedule text": a number in decimal, as it is written and as it is read.
use Rattle.std.specs.Prelude.{◌+◌, ◌-◌, ◌*◌, ◌/◌, ◌%◌, ◌∷◌, ◌++◌, ◌&&◌}
use Rattle.laws.specs.Kit.{ℕ, zero, suc, code, List, [], Bool, true, false, not, Option, none}
use Rattle.laws.specs.{Kit.{some, eqb, leb}, Lists.{every}}

-- "[A number] is at most 65,535"
abbrev pub most_number : ℕ
most_number = 65535

-- its digits at most
abbrev pub most_digits : ℕ
most_digits = 5

-- written --

-- the digits of n, and none for 0. Each turn takes the last off, so n turns are enough.
unfoldable pub digits : ℕ → ℕ → List ℕ
digits zero n = []
digits (suc turns) zero = []
digits (suc turns) (suc n) = digits turns (suc n / 10) ++ (48 + suc n % 10) ∷ []

-- a number: the digits before the last, with no leading zero, and the last; 48 is the byte of 0
unfoldable pub decimal : ℕ → List ℕ
decimal n = digits n (n / 10) ++ (48 + n % 10) ∷ []

-- read: "A number is 0 or has no leading zero, and is at most 65,535; larger makes the line no step." --

unfoldable pub is_digit : ℕ → Bool
is_digit b = leb (code "0") b && leb b (code "9")

-- the number that digits read as, after those that made v
unfoldable pub read_on : ℕ → List ℕ → ℕ
read_on v [] = v
read_on v (b ∷ l) = read_on (10 * v + (b - code "0")) l

abbrev pub unpadded : List ℕ → Bool
unpadded [] = false
unpadded (b ∷ []) = true
unpadded (b ∷ c ∷ l) = not (eqb b (code "0"))

abbrev pub is_number : List ℕ → Bool
is_number w = unpadded w && (every is_digit w && leb (read_on 0 w) most_number)

abbrev pub when : {A : Type 0} → Bool → A → Option A
when true a = some a
when false a = none

unfoldable pub number : List ℕ → Option ℕ
number w = when (is_number w) (read_on 0 w)
