-- What is observed of a schedule, from its steps and the answers alone: the history, each desk's list, and the causal order.
-- The machine keeps none of this.
use mathlib.Core.{Path.{◌≡◌}, Bool.{Bool, true, false, not, ◌&&◌}, List.{List, [], ◌∷◌, ◌++◌, map}, Option.{Option, none, some}}
use Rattle.std.specs.Prelude.{ℕ, suc, ◌<◌}
use lib.{Dec.{eqb}, ListN.{get_elem?}}
use Rattle.laws.specs.{All.{all}, Count.{count}, Lists.{any}}
use Rattle.machine.specs.{Table.{Name, name, State}, Answer.{Shown, unset, shown, Answer, began, shows, wrote, holds, applies}}
use Rattle.machine.specs.{Answer.{judged, refused}, Steps.{Step, Read, Write, Deliver, Trip, Out, step}}

-- an accepted read with what it showed; an accepted write with its number; a write received at a desk; a write applied there
pub data Event : Type 0 where
  read_at : (desk cell : ℕ) → Shown → Event
  write_at : (desk cell status number : ℕ) → Event
  receive_at : (desk : ℕ) → Name → Event
  apply_at : (desk : ℕ) → Name → Event

-- Observed from one step and its answer --

abbrev pub read_events : ℕ → ℕ → Answer → List Event
read_events i x began = []
read_events i x (shows v) = read_at i x v ∷ []
read_events i x (wrote w) = []
read_events i x (holds w) = []
read_events i x (applies l) = []
read_events i x (judged v) = []
read_events i x (refused r) = []

-- a write is applied at the writer at once
abbrev pub write_events : ℕ → ℕ → ℕ → Answer → List Event
write_events i x v began = []
write_events i x v (shows z) = []
write_events i x v (wrote w) = write_at i x v w.number ∷ apply_at i w ∷ []
write_events i x v (holds w) = []
write_events i x v (applies l) = []
write_events i x v (judged z) = []
write_events i x v (refused r) = []

-- a delivery that is accepted is received, whether held or applied
abbrev pub deliver_events : ℕ → Name → Answer → List Event
deliver_events i w began = []
deliver_events i w (shows v) = []
deliver_events i w (wrote z) = []
deliver_events i w (holds z) = receive_at i w ∷ []
deliver_events i w (applies l) = receive_at i w ∷ map (apply_at i) l
deliver_events i w (judged v) = []
deliver_events i w (refused r) = []

-- "Each read in a trip is a read of its own": the answers that its reads, made one by one, give
unfoldable pub trip_reads : State → ℕ → List ℕ → List Event
trip_reads s i [] = []
trip_reads s i (x ∷ xs) =
    let o : Out = step s (Read i x) in
    read_events i x o.answer ++ trip_reads o.state i xs

abbrev pub trip_events : State → ℕ → List ℕ → Answer → List Event
trip_events s i xs began = []
trip_events s i xs (shows v) = []
trip_events s i xs (wrote w) = []
trip_events s i xs (holds w) = []
trip_events s i xs (applies l) = []
trip_events s i xs (judged v) = trip_reads s i xs
trip_events s i xs (refused r) = []

abbrev pub events_of : State → Step → Answer → List Event
events_of s (Read i x) a = read_events i x a
events_of s (Write i x v) a = write_events i x v a
events_of s (Deliver i u k) a = deliver_events i (name u k) a
events_of s (Trip i xs) a = trip_events s i xs a

-- Schedules with saves and reloads anywhere --

pub data Act : Type 0 where
  take_step : Step → Act
  save_and_load : Act

module _ (reload : State → State) where
  unfoldable pub run : State → List Act → State
  run s [] = s
  run s (take_step a ∷ l) = run (step s a).state l
  run s (save_and_load ∷ l) = run (reload s) l

  -- the history, the oldest first
  unfoldable pub history : State → List Act → List Event
  history s [] = []
  history s (take_step a ∷ l) =
      let o : Out = step s a in
      events_of s a o.answer ++ history o.state l
  history s (save_and_load ∷ l) = history (reload s) l

-- A desk's list --

-- "each desk's list of applied writes and own reads"; a read with its place in the history, counted from 0
pub data Entry : Type 0 where
  own_read : (at cell : ℕ) → Shown → Entry
  applied : Name → Entry

abbrev pub entry_of : ℕ → ℕ → Event → List Entry
entry_of i p (read_at j x v) = elim (eqb j i) [ true ↦ own_read p x v ∷ [] | false ↦ [] ]
entry_of i p (write_at j x v k) = []
entry_of i p (receive_at j w) = []
entry_of i p (apply_at j w) = elim (eqb j i) [ true ↦ applied w ∷ [] | false ↦ [] ]

unfoldable pub list_from : ℕ → ℕ → List Event → List Entry
list_from i p [] = []
list_from i p (e ∷ h) = entry_of i p e ++ list_from i (suc p) h

abbrev pub desk_list : ℕ → List Event → List Entry
desk_list i h = list_from i 0 h

-- the accepted write of a name: its cell and status
pub record Written : Type 0 where
  pub cell : ℕ
  pub status : ℕ

abbrev pub is_name : Name → ℕ → ℕ → Bool
is_name w u k = eqb w.writer u && eqb w.number k

unfoldable pub written_as : List Event → Name → Option Written
written_as [] w = none
written_as (read_at i x v ∷ h) w = written_as h w
written_as (write_at i x v k ∷ h) w = elim (is_name w i k) [ true ↦ some (record { cell = x; status = v }) | false ↦ written_as h w ]
written_as (receive_at i u ∷ h) w = written_as h w
written_as (apply_at i u ∷ h) w = written_as h w

-- what the cell x shows after one more entry
abbrev pub after_write : ℕ → Shown → Name → Option Written → Shown
after_write x old w none = old
after_write x old w (some z) = elim (eqb z.cell x) [ true ↦ shown z.status w.writer w.number | false ↦ old ]

abbrev pub after_entry : List Event → ℕ → Shown → Entry → Shown
after_entry h x old (own_read p y v) = old
after_entry h x old (applied w) = after_write x old w (written_as h w)

-- "the latest earlier write in that desk's list .., or unset"
unfoldable pub latest_from : List Event → ℕ → Shown → List Entry → Shown
latest_from h x old [] = old
latest_from h x old (b ∷ l) = latest_from h x (after_entry h x old b) l

abbrev pub latest : List Event → ℕ → List Entry → Shown
latest h x l = latest_from h x unset l

-- The causal order --

-- the event at a place of the history
abbrev pub At : List Event → ℕ → Event → Type 0
At h p e = get_elem? h p ≡ some e

-- an accepted read or write of the desk
pub data OpOf (i : ℕ) : Event → Type 0 where
  a_read : {x : ℕ} {v : Shown} → OpOf i (read_at i x v)
  a_write : {x v k : ℕ} → OpOf i (write_at i x v k)

-- "Causal order is that of 003 section 1", between places of the history
pub data Precedes (h : List Event) : ℕ → ℕ → Type 0 where
  -- "an earlier accepted read or write of the same desk precedes a later one"
  same_desk : {p q i : ℕ} {e f : Event} → At h p e → At h q f → OpOf i e → OpOf i f → p < q → Precedes h p q
  -- "a write precedes each read that shows it"
  shown_by : {p q i u x v k : ℕ} → At h p (write_at u x v k) → At h q (read_at i x (shown v u k)) → Precedes h p q
  -- "and what follows from these by chaining"
  chained : {p q r : ℕ} → Precedes h p q → Precedes h q r → Precedes h p r

-- Counts: "both come from the accepted history" --

-- the event is an accepted write u.k that passes a test
abbrev pub write_passes : (ℕ → ℕ → Bool) → Event → Bool
write_passes p (read_at i x v) = false
write_passes p (write_at u x v k) = p u k
write_passes p (receive_at i w) = false
write_passes p (apply_at i w) = false

-- how many accepted writes pass
abbrev pub writes_that : (ℕ → ℕ → Bool) → List Event → ℕ
writes_that p h = count (write_passes p) h

-- how many accepted writes the desk u has
abbrev pub writes_of : ℕ → List Event → ℕ
writes_of u h = writes_that (λ t k. eqb t u) h

-- the entry is the write u.k
abbrev pub is_applied : ℕ → ℕ → Entry → Bool
is_applied u k (own_read p x v) = false
is_applied u k (applied w) = is_name w u k

-- u.k is missing in the list of some desk from 1 to n
abbrev pub some_lacks : ℕ → List Event → ℕ → ℕ → Bool
some_lacks n h u k = not (all (λ i. any (is_applied u k) (desk_list i h)) n 1)

-- "A write is open from its acceptance until it is applied at all n desks": how many are
abbrev pub open_writes : ℕ → List Event → ℕ
open_writes n h = writes_that (some_lacks n h) h
