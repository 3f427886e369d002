-- Document 01, "Numbers of refusal": what each step asks, in the document's order, and the number if it is not so.
use mathlib.Core.{Path.{◌≡◌}, Logic.{◌≢◌, ◌⊎◌}, List.{List, [], ◌∷◌, Memᴰ}}
use Rattle.std.specs.Prelude.{ℕ, ◌≤◌, ◌<◌, length}
use Rattle.machine.specs.Table.{most_desks, most_cells, most_open, most_trip, most_writes, most_status, away, State, written, mark_of}
use Rattle.machine.specs.Answer.{Refusal, no_desk, no_cell, no_status, spent, full, own_write, no_write, received, trip_size, no_size}
use Rattle.machine.specs.{Answer.{Answer, refused}, Steps.{open_count, Step, Read, Write, Deliver, Trip}, Rules.{In}}

-- one row: what is asked, and the refusal if it is not so
pub record Row : Type 1 where
  pub asked : Type 0
  pub else : Refusal

infix 1 ◌or◌
abbrev pub ◌or◌ : Type 0 → Refusal → Row
P or r = record { asked = P; else = r }

abbrev pub rows_of : State → Step → List Row
rows_of s (Read i x) =
    (In s.setup.desks i or no_desk) ∷
    (In s.setup.cells x or no_cell) ∷ []
rows_of s (Write i x v) =
    (In s.setup.desks i or no_desk) ∷
    (In s.setup.cells x or no_cell) ∷
    (v ≤ most_status or no_status) ∷
    (written s i < most_writes or spent) ∷
    (open_count s < most_open or full) ∷ []
rows_of s (Deliver i u k) =
    (In s.setup.desks i × In s.setup.desks u or no_desk) ∷
    (i ≢ u or own_write) ∷
    (In (written s u) k or no_write) ∷
    (mark_of s i u k ≡ away or received) ∷ []
rows_of s (Trip i xs) =
    (In s.setup.desks i or no_desk) ∷
    (In most_trip (length xs) or trip_size) ∷
    (((x : ℕ) → Memᴰ x xs → In s.setup.cells x) or no_cell) ∷ []

abbrev pub rows_of_begin : ℕ → ℕ → List Row
rows_of_begin n m = (In most_desks n × In most_cells m or no_size) ∷ []

-- r is the refusal of the first row that fails
abbrev pub FirstFails : List Row → Refusal → Type 0
FirstFails [] r = ⊥
FirstFails (w ∷ l) r = ((w.asked → ⊥) × (r ≡ w.else)) ⊎ (w.asked × FirstFails l r)

-- every row is so
abbrev pub AllPass : List Row → Type 0
AllPass [] = Unit {0}
AllPass (w ∷ l) = w.asked × AllPass l

-- no refusal is answered
abbrev pub Accepted : Answer → Type 0
Accepted a = (r : Refusal) → a ≡ refused r → ⊥
