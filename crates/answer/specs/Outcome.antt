-- The answer to writing a line into a lent buffer: document 01's number and values for every case of it, and what it leaves there.
use Rattle.std.specs.Prelude.{◌+◌, ◌<◌, ◌≤◌, ◌≡◌, ◌++◌, Option, Some, None}
use Rattle.laws.specs.Kit.{ℕ, refl, Bool, List, arith, le-leb, lt-leb, leb, length, set, length-append, sets}
use Rattle.laws.specs.{Loop.{pick}, Stores.{Stored, stored_one, left-start, left_put, left-last}, Text.{text}}
use Rattle.machine.specs.Answer.{Refusal, short}

-- the place behind the line, or a refusal
pub data PutAnswer : Type 0 where
  upto : ℕ → PutAnswer
  refused : Refusal → PutAnswer

abbrev pub written_of : Option ℕ → PutAnswer
written_of (Some p) = upto p
-- 14
written_of None = refused short

-- the line fits into out from place at on; a place past the end is too short for any line
abbrev pub fits_from : List ℕ → ℕ → List ℕ → Bool
fits_from out at line = leb (at + length line) (length out)

abbrev pub put_answer : List ℕ → ℕ → List ℕ → PutAnswer
put_answer out at line = pick (fits_from out at line) (upto (at + length line)) (refused short)

-- the buffer with the line stored from at on, or as it was found
abbrev pub buffer : List ℕ → ℕ → List ℕ → List ℕ
buffer out at line = pick (fits_from out at line) (sets out at line) out

-- the line of the bytes b is too long for the buffer
pub short-kept : (out : List ℕ) (at : ℕ) (b : List ℕ) → length out ≤ at + length b → (written_of None ≡ put_answer out at (b ++ text "\n")) × (out ≡ buffer out at (b ++ text "\n"))
short-kept out at b h =
    let l : length out < at + length (b ++ text "\n") = omega (arith, length-append b (text "\n")) in
    rw (lt-leb _ _ l) (refl, refl)

-- it fits, and the bytes were stored: the LF behind them ends the line
pub line-ended : (out : List ℕ) (at : ℕ) (b mid : List ℕ) (p : ℕ) → at + length b < length out → Stored out at b mid p → (written_of (Some (p + 1)) ≡ put_answer out at (b ++ text "\n")) × (set mid p 10 ≡ buffer out at (b ++ text "\n"))
line-ended out at b mid p h s =
    let w : Stored out at (b ++ text "\n") (set mid p 10) (p + 1) = left-last (stored_one refl) (left_put s left-start) in
    let l : at + length (b ++ text "\n") ≤ length out = omega (arith, length-append b (text "\n")) in
    rw (le-leb _ _ l, w.stored, w.behind) (refl, refl)
