-- What a step answers, and document 01's number for every case of a refusal.
use Rattle.std.specs.Prelude.{List, [], ◌∷◌, ℕ}
use Rattle.machine.specs.Table.{Name, Cell, blank, set}

-- what a read shows: "status and write name, or unset"
pub data Shown : Type 0 where
  unset : Shown
  shown : (status writer number : ℕ) → Shown

-- the write's name is its writer and the writer's place in its vector
abbrev pub shown_of : Cell → Shown
shown_of blank = unset
shown_of (set v u w) = shown v u (w u)

pub data Verdict : Type 0 where
  Yes No Unknown : Verdict

-- document 01, "Numbers of refusal", and document 02, T-01
pub data Refusal : Type 0 where
  no_desk no_cell no_status spent full own_write no_write received trip_size no_step no_size damaged broken short wrong_length : Refusal

abbrev pub number_of : Refusal → ℕ
-- a desk is not 1 to n
number_of no_desk = 1
-- a cell is not 1 to m
number_of no_cell = 2
-- status is not 0 to 2
number_of no_status = 3
-- the desk has written 65,535 times
number_of spent = 4
-- the write finds 64 open
number_of full = 5
-- delivery of a desk's own write
number_of own_write = 6
-- u has no write k (0 included)
number_of no_write = 7
-- u.k was received at i before
number_of received = 8
-- a trip has 0 or more than 16 cells
number_of trip_size = 9
-- the line is no step
number_of no_step = 10
-- n or m outside its range
number_of no_size = 11
-- a block check wrong ("12, which now means the check alone")
number_of damaged = 12
-- an image, or a table value handed in, breaks another rule
number_of broken = 13
-- the lent buffer is shorter than the image; in `replay`, input over 65,536 bytes
number_of short = 14
-- image length not a nonzero multiple of 512
number_of wrong_length = 15

pub data Answer : Type 0 where
  began : Answer
  shows : Shown → Answer
  wrote : Name → Answer
  -- held, with the first write that is missing of the smallest desk whose place fails
  holds : Name → Answer
  -- the writes applied, in order
  applies : List Name → Answer
  judged : Verdict → Answer
  refused : Refusal → Answer

-- the numbers of a list of names, in its order
abbrev pub name_values : List Name → List ℕ
name_values [] = []
name_values (w ∷ l) = w.writer ∷ w.number ∷ name_values l
