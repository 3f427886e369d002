-- Document 01, "Schedule text": "A line is a letter and decimal fields, one space between."
use Rattle.std.specs.Prelude.{◌∷◌, ◌++◌}
use Rattle.laws.specs.{Kit.{ℕ, code, List, [], Option, none, some, eqb}, Loop.{pick}}
use Rattle.text.specs.Number.{decimal, number}

abbrev pub space : ℕ
space = code " "

-- a byte in front of the first word (there always is one)
abbrev pub onto : ℕ → List (List ℕ) → List (List ℕ)
onto b [] = (b ∷ []) ∷ []
onto b (w ∷ ws) = (b ∷ w) ∷ ws

-- what stands between the spaces: an empty word before a leading space, between two in a row, after a trailing one
unfoldable pub words : List ℕ → List (List ℕ)
words [] = [] ∷ []
words (b ∷ l) = pick (eqb b space) ([] ∷ words l) (onto b (words l))

-- one number more in front; none if any is missing
abbrev pub read_onto : Option ℕ → Option (List ℕ) → Option (List ℕ)
read_onto none o = none
read_onto (some x) none = none
read_onto (some x) (some l) = some (x ∷ l)

-- every word a number
unfoldable pub numbers : List (List ℕ) → Option (List ℕ)
numbers [] = some []
numbers (w ∷ ws) = read_onto (number w) (numbers ws)

-- numbers written, each after a space
unfoldable pub fields : List ℕ → List ℕ
fields [] = []
fields (n ∷ l) = space ∷ (decimal n ++ fields l)
