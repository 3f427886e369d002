-- Demand 3, as a statement about a table and the history observed of it.
use mathlib.Core.{Path.{◌≡◌}, Logic.{◌⊎◌, ◌↔◌}, List.{List, ◌∷◌, ◌++◌, Memᴰ}, Option.{some}}
use Rattle.std.specs.Prelude.{ℕ, suc, ◌≤◌, ◌<◌}
use Rattle.machine.specs.{Table.{Vec, Name, name, set, away, held, done, Open, State, written, mark_of}, Answer.{Shown, wrote}}
use Rattle.machine.specs.{Steps.{open_count, Write, step}, Rules.{In}, History.{Event, read_at, write_at, receive_at, Entry, own_read}}
use Rattle.machine.specs.History.{applied, desk_list, latest, At, Precedes, writes_of, open_writes}

-- the accepted write u.k stands at the place q of the history
pub record WriteAt (h : List Event) (q u k : ℕ) : Type 0 where
  pub cell : ℕ
  pub status : ℕ
  pub at : At h q (write_at u cell status k)

-- the operation of an entry stands at the place q of the history
pub data OpAt (h : List Event) (q : ℕ) : Entry → Type 0 where
  of_read : {x : ℕ} {v : Shown} → OpAt h q (own_read q x v)
  of_write : {u k : ℕ} → WriteAt h q u k → OpAt h q (applied (name u k))

-- the write u.k is among the entries
abbrev pub Has : List Entry → ℕ → ℕ → Type 0
Has l u k = Memᴰ (applied (name u k)) l

-- each write in a desk's list is an accepted one
abbrev pub ListsAccepted : List Event → Type 0
ListsAccepted h = (i u k : ℕ) → Has (desk_list i h) u k → (q : ℕ) × WriteAt h q u k

-- and stands there once
abbrev pub ListsOnce : List Event → Type 0
ListsOnce h = (i u k : ℕ) (earlier later : List Entry) → desk_list i h ≡ earlier ++ applied (name u k) ∷ later → Has earlier u k → ⊥

-- the causal order never goes back, so it has no cycle
abbrev pub OrderForward : List Event → Type 0
OrderForward h = (p q : ℕ) → Precedes h p q → p < q

-- "each read shows the latest earlier write in that desk's list .., or unset"
abbrev pub ReadsLatest : List Event → Type 0
ReadsLatest h = (i p x : ℕ) (v : Shown) (earlier later : List Entry)
    → desk_list i h ≡ earlier ++ own_read p x v ∷ later → v ≡ latest h x earlier

-- "whatever causally precedes an entry stands earlier": every write, and every own read
pub record CausesFirst (h : List Event) : Type 0 where
  pub writes : (i : ℕ) (b : Entry) (earlier later : List Entry) → desk_list i h ≡ earlier ++ b ∷ later
      → (q : ℕ) → OpAt h q b → (p t j : ℕ) → WriteAt h p t j → Precedes h p q → Has earlier t j
  pub reads : (i : ℕ) (b : Entry) (earlier later : List Entry) → desk_list i h ≡ earlier ++ b ∷ later
      → (q : ℕ) → OpAt h q b → (p x : ℕ) (v : Shown) → At h p (read_at i x v) → Precedes h p q → Memᴰ (own_read p x v) earlier

-- the accepted write t.j causally precedes the one at q and is unapplied at i
pub record Missing (h : List Event) (i q t j : ℕ) : Type 0 where
  pub place : ℕ
  pub write : WriteAt h place t j
  pub precedes : Precedes h place q
  pub unapplied : Has (desk_list i h) t j → ⊥

-- some write is missing so
pub record CauseMissing (h : List Event) (i q : ℕ) : Type 0 where
  pub writer : ℕ
  pub number : ℕ
  pub cause : Missing h i q writer number

-- u.k was received at i: its own write, or by an accepted delivery
pub data Received (h : List Event) (i u k : ℕ) : Type 0 where
  its_own : i ≡ u → Received h i u k
  delivered : (p : ℕ) → At h p (receive_at i (name u k)) → Received h i u k

-- "a received write is held exactly if some causal predecessor is unapplied there"
abbrev pub HeldIffCauseMissing : State → List Event → Type 0
HeldIffCauseMissing s h = (i u k q : ℕ) → In s.setup.desks i → WriteAt h q u k → Received h i u k
    → (mark_of s i u k ≡ held) ↔ CauseMissing h i q

-- the machine's places are those of the history
pub record PlacesObserved (s : State) (h : List Event) : Type 0 where
  pub unreceived : (i u k q : ℕ) → In s.setup.desks i → WriteAt h q u k → (mark_of s i u k ≡ away) ↔ (Received h i u k → ⊥)
  pub applied : (i u k q : ℕ) → In s.setup.desks i → WriteAt h q u k → (mark_of s i u k ≡ done) ↔ Has (desk_list i h) u k

-- "t.j precedes or is that write"
pub record UpTo (h : List Event) (q t j : ℕ) : Type 0 where
  pub place : ℕ
  pub write : WriteAt h place t j
  pub order : (place ≡ q) ⊎ Precedes h place q

-- a vector's place t is at least j exactly if t.j precedes or is that write: of open writes and of what the cells show
pub record VectorTellsOrder (s : State) (h : List Event) : Type 0 where
  pub of_open : (u k q : ℕ) (w : Open) → s.opens u k ≡ some w → WriteAt h q u k → (t j : ℕ) → 1 ≤ j → (j ≤ w.vector t) ↔ UpTo h q t j
  pub of_cell : (i x v u q : ℕ) (w : Vec) → s.cell i x ≡ set v u w → WriteAt h q u (w u) → (t j : ℕ) → 1 ≤ j → (j ≤ w t) ↔ UpTo h q t j

-- "Write number k of desk u is named u.k": before it stand k-1 accepted writes of u
abbrev pub NumberedInOrder : List Event → Type 0
NumberedInOrder h = (u x v k : ℕ) (earlier later : List Event) → h ≡ earlier ++ write_at u x v k ∷ later → k ≡ suc (writes_of u earlier)

-- write names come from the accepted history: those in it, how many the table counts, and the one that the next write answers
pub record NamesObserved (s : State) (h : List Event) : Type 0 where
  pub numbered : NumberedInOrder h
  pub counted : (u : ℕ) → written s u ≡ writes_of u h
  pub next : (i x v : ℕ) (w : Name) → (step s (Write i x v)).answer ≡ wrote w → w ≡ name i (suc (writes_of i h))

-- and so does the open count
abbrev pub OpenObserved : State → List Event → Type 0
OpenObserved s h = open_count s ≡ open_writes s.setup.desks h

pub record Demand3 (s : State) (h : List Event) : Type 0 where
  pub lists_accepted : ListsAccepted h
  pub lists_once : ListsOnce h
  pub order_forward : OrderForward h
  pub reads_latest : ReadsLatest h
  pub causes_first : CausesFirst h
  pub held_iff_cause_missing : HeldIffCauseMissing s h
  pub places_observed : PlacesObserved s h
  pub vector_tells_order : VectorTellsOrder s h
  pub names_observed : NamesObserved s h
  pub open-observed : OpenObserved s h
