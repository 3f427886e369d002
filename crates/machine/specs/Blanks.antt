-- Blank cells and verdicts: the words of "never written reads unset" and "yes means that all read 1".
use mathlib.Core.{Path.{◌≡◌}, List.{List, map, Memᴰ}}
use Rattle.std.specs.Prelude.{ℕ}
use Rattle.laws.specs.Lists.{Some}
use Rattle.machine.specs.{Table.{State}, Answer.{Shown, shown, shows, judged}, Steps.{shown_at, verdict, Read, Trip, step, answers}}
use Rattle.machine.specs.History.{Event, write_at, take_step, run}

-- no accepted write names the cell x
abbrev pub Unwritten : ℕ → List Event → Type 0
Unwritten x h = (i v k : ℕ) → Memᴰ (write_at i x v k) h → ⊥

-- a write of status v is shown
pub record HasStatus (v : ℕ) (z : Shown) : Type 0 where
  pub writer : ℕ
  pub number : ℕ
  pub is : z ≡ shown v writer number

-- the cell x shows status v at desk i
abbrev pub ShowsStatus : State → ℕ → ℕ → ℕ → Type 0
ShowsStatus s i v x = HasStatus v (shown_at s i x)

abbrev pub AllShow : State → ℕ → ℕ → List ℕ → Type 0
AllShow s i v xs = (x : ℕ) → Memᴰ x xs → ShowsStatus s i v x

abbrev pub SomeShows : State → ℕ → ℕ → List ℕ → Type 0
SomeShows s i v xs = Some (ShowsStatus s i v) xs

-- a trip against the same reads made one by one: the state after them, their answers, and the verdict of what they show
pub record TripIsReads (s : State) (i : ℕ) (xs : List ℕ) : Type 0 where
  pub state_after : (step s (Trip i xs)).state ≡ run (λ s. s) s (map (λ x. take_step (Read i x)) xs)
  pub shown_each : answers s (map (Read i) xs) ≡ map (λ x. shows (shown_at s i x)) xs
  pub judged_all : (step s (Trip i xs)).answer ≡ judged (verdict (map (shown_at s i) xs))
