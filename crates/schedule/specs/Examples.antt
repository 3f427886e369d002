-- Lines at the edges of the grammar, computed.
use Rattle.std.specs.Prelude.{◌≡◌, ◌∷◌, ◌++◌}
use Rattle.laws.specs.Kit.{ℕ, zero, suc, String, refl, List, [], map, true, false, Option, none, some, bind, replicate}
use Rattle.laws.specs.{Lists.{every}, Text.{text}}
use Rattle.machine.specs.Steps.{Read, Write, Deliver, Trip}
use Rattle.schedule.specs.{Lines.{until_lF, from_lF, line_at, ended_at}, Grammar.{Line, begin_line, step_line, form, line_of}}
use Rattle.text.specs.{Number.{is_digit, read_on, number}, Words.{words, numbers}}

unfoldable pub said : String → Option Line
said t = line_of (text t)

-- the five forms
pub forms : map said ("N 3 2" ∷ "R 2 1" ∷ "W 1 1 2" ∷ "D 3 2 1" ∷ "T 3 1 2" ∷ "T 1" ∷ []) ≡
    some (begin_line 3 2) ∷ some (step_line (Read 2 1)) ∷ some (step_line (Write 1 1 2)) ∷ some (step_line (Deliver 3 2 1))
    ∷ some (step_line (Trip 3 (1 ∷ 2 ∷ []))) ∷ some (step_line (Trip 1 [])) ∷ []
unfolding said line_of words number numbers read_on form bind every is_digit
forms = refl

-- 0, and the largest number
pub numbers-within : map said ("R 0 65535" ∷ "N 65535 1" ∷ []) ≡ some (step_line (Read 0 65535)) ∷ some (begin_line 65535 1) ∷ []
unfolding said line_of words number numbers read_on form bind every is_digit
numbers-within = refl

-- no step: a number too large, leading zeros, spaces too many, fields too few or too many, other bytes, another letter, no letter
pub no_steps : map said (
    "N 65536 1" ∷ "R 1 99999999999" ∷ "R 01 1" ∷ "R 1 00" ∷ "T 1 " ∷ "R  1 1" ∷ " R 1 1" ∷ "R 1 1 " ∷ "R 1" ∷ "R 1 1 1" ∷ "T" ∷ "R 1 1x" ∷ "R -1 1"
    ∷ "R 1 1\r" ∷ "R\t1 1" ∷ "r 1 1" ∷ "RR 1 1" ∷ "X 1 1" ∷ "1 1" ∷ "" ∷ " " ∷ []
    ) ≡ replicate 21 none
unfolding said line_of words number numbers read_on form bind every is_digit
no_steps = refl

unfoldable pub copies : ℕ → List ℕ → List ℕ
copies zero l = []
copies (suc n) l = l ++ copies n l

-- 128 bytes and 129: a trip of 62 cells, the last of two digits or of three
pub longest : line_of (text "T 1" ++ copies 61 (text " 1") ++ text " 12") ≡ some (step_line (Trip 1 (replicate 61 1 ++ (12 ∷ []))))
unfolding copies line_of words number numbers read_on form bind every is_digit
longest = refl

pub too_long_by_one : line_of (text "T 1" ++ copies 61 (text " 1") ++ text " 123") ≡ none
unfolding copies line_of words number numbers read_on form bind every is_digit
too_long_by_one = refl

-- lines: up to a LF, the rest, an empty one, and past the end
unfoldable pub schedule : List ℕ
schedule = text "R 1 1\n\nT 2"

pub lines : map (line_at schedule) (0 ∷ 6 ∷ 7 ∷ 10 ∷ 99 ∷ []) ≡ text "R 1 1" ∷ [] ∷ text "T 2" ∷ [] ∷ [] ∷ []
unfolding schedule until_lF line_at
lines = refl

pub ends : map (ended_at schedule) (0 ∷ 6 ∷ 7 ∷ 10 ∷ 99 ∷ []) ≡ true ∷ true ∷ false ∷ false ∷ false ∷ []
unfolding schedule from_lF ended_at
ends = refl
