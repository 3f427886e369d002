-- Document 01, "Schedule text": the lines of a schedule.
use Rattle.std.specs.Prelude.{◌+◌, ◌-◌, ◌∷◌}
use Rattle.laws.specs.{Kit.{ℕ, min, List, [], Bool, length, drop, eqb, ltb}, Loop.{pick}}
use Rattle.std.specs.Borrow.{Bor}

abbrev pub LF : ℕ
LF = 10

-- "The reader finds the next LF and hands back that line .. without the LF. Where no LF follows it hands back the rest"
unfoldable pub until_lF : List ℕ → List ℕ
until_lF [] = []
until_lF (b ∷ l) = pick (eqb b LF) [] (b ∷ until_lF l)

-- what that leaves: from the LF on
unfoldable pub from_lF : List ℕ → List ℕ
from_lF [] = []
from_lF (b ∷ l) = pick (eqb b LF) (b ∷ l) (from_lF l)

-- the line at a place; "at the end, an empty part"; "a place past the end counts as the end"
unfoldable pub line_at : List ℕ → ℕ → List ℕ
line_at s at = until_lF (drop at s)

-- a LF ended it
unfoldable pub ended_at : List ℕ → ℕ → Bool
ended_at s at = ltb 0 (length (from_lF (drop at s)))

-- where it ends: the place of that LF, or the end of all
unfoldable pub end_at : List ℕ → ℕ → ℕ
end_at s at = length s - length (from_lF (drop at s))

-- behind it and its LF: where the next line begins, or the end of all
unfoldable pub next_at : List ℕ → ℕ → ℕ
next_at s at = min (end_at s at + 1) (length s)

-- where it begins
unfoldable pub start_at : List ℕ → ℕ → ℕ
start_at s at = pick (ltb at (length s)) at (length s)

-- "a part of the caller's own bytes": the address where the line begins
abbrev pub place_in : Bor (List ℕ) → ℕ → ℕ × ℕ
place_in x at = (x.ref_ptr.0, start_at x.now at + x.ref_ptr.1)
