-- A line as the code has it: its value and the array of a trip's cells beside it; the desk that acts.
use Rattle.std.specs.Prelude.{◌≡◌, ◌≤◌, Some, None}
use Rattle.std.specs.Prelude as std
use Rattle.laws.specs.Kit.{ap, ◌∙◌, List, Option, ℕ, length, take}
use Rattle.schedule.specs.{Grammar.{Line as Said}, LineValue.{line_value, trip_cells, most_listed, line_back, line-back, cell_count, count_is}}
use Rattle.schedule.specs.{declared.Line.{Line}, declared.Line.TheVariants.{New, Read, Write, Deliver, Trip}}

-- what the value and the array say together
abbrev pub line_in : std.Option Line → List ℕ → Option Said
line_in s list = line_back s (take (cell_count s) list)

pub record Means (o : Option Said) (s : std.Option Line) (list : List ℕ) : Type 0 where
  pub is : line_in s list ≡ o
  pub few : cell_count s ≤ most_listed

pub means : (o : Option Said) (list : List ℕ) → take (length (trip_cells o)) list ≡ trip_cells o → length (trip_cells o) ≤ most_listed → Means o (line_value o) list
means o list h few = record {
  is = ap (λ (xs : List ℕ). line_back (line_value o) xs) (ap (λ (n : ℕ). take n list) (count_is o) ∙ h) ∙ line-back o;
  few = rw (count_is o) few;
}

-- the desk that a line names first; 0 where it names none
abbrev pub line_actor : std.Option Line → ℕ
line_actor (Some (New n m)) = 0
line_actor (Some (Read i x)) = i
line_actor (Some (Write i x v)) = i
line_actor (Some (Deliver i u k)) = i
line_actor (Some (Trip i n)) = i
line_actor None = 0

-- the same desk, where a line names one
abbrev pub line_desk : std.Option Line → std.Option ℕ
line_desk (Some (New n m)) = None
line_desk (Some (Read i x)) = Some i
line_desk (Some (Write i x v)) = Some i
line_desk (Some (Deliver i u k)) = Some i
line_desk (Some (Trip i n)) = Some i
line_desk None = None
