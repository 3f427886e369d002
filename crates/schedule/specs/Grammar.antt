-- Document 01, "Schedule text": what a line says, as a function of its bytes.
use Rattle.std.specs.Prelude.{◌∷◌}
use Rattle.laws.specs.{Kit.{ℕ, code, List, [], Option, none, some, bind, length, eqb, leb}, Loop.{pick}}
use Rattle.text.specs.Words.{words, numbers}
use Rattle.machine.specs.Steps.{Step, Read, Write, Deliver, Trip}

-- the beginning of a table, or one of the machine's steps
pub data Line : Type 0 where
  begin_line : (n m : ℕ) → Line
  step_line : Step → Line

-- "A line over 128 bytes, an empty line .. are no step."
abbrev pub most_bytes : ℕ
most_bytes = 128

-- "Forms: `N n m`, `R i x`, `W i x v`, `D i u k`, `T i x x ..` (the cells may be missing)." --

abbrev pub two : (ℕ → ℕ → Line) → List ℕ → Option Line
two f [] = none
two f (a ∷ []) = none
two f (a ∷ b ∷ []) = some (f a b)
two f (a ∷ b ∷ c ∷ l) = none

abbrev pub three : (ℕ → ℕ → ℕ → Line) → List ℕ → Option Line
three f [] = none
three f (a ∷ []) = none
three f (a ∷ b ∷ []) = none
three f (a ∷ b ∷ c ∷ []) = some (f a b c)
three f (a ∷ b ∷ c ∷ d ∷ l) = none

abbrev pub one_or_more : (ℕ → List ℕ → Line) → List ℕ → Option Line
one_or_more f [] = none
one_or_more f (a ∷ l) = some (f a l)

unfoldable pub form : ℕ → List ℕ → Option Line
form letter =
    pick (eqb letter (code "N")) (two begin_line)
    (pick (eqb letter (code "R")) (two (λ i x. step_line (Read i x)))
    (pick (eqb letter (code "W")) (three (λ i x v. step_line (Write i x v)))
    (pick (eqb letter (code "D")) (three (λ i u k. step_line (Deliver i u k)))
    (pick (eqb letter (code "T")) (one_or_more (λ i xs. step_line (Trip i xs)))
    (λ l. none)))))

-- the first word is one letter, every other a number
abbrev pub letter : List ℕ → Option ℕ
letter [] = none
letter (b ∷ []) = some b
letter (b ∷ c ∷ l) = none

abbrev pub sentence : List (List ℕ) → Option Line
sentence [] = none
sentence (w ∷ ws) = bind (letter w) (λ c. bind (numbers ws) (form c))

-- what a line says, of its bytes without the LF; none: "no step". An empty line has no letter.
unfoldable pub line_of : List ℕ → Option Line
line_of l = pick (leb (length l) most_bytes) (sentence (words l)) none
