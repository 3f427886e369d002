-- Document 01, "Saved image", paragraph "Rules", as they speak of a table: a named part for each sentence.
use mathlib.Core.{Path.{◌≡◌}, Logic.{◌↔◌}, Bool.{true, false}, Option.{some}}
use Rattle.std.specs.Prelude.{ℕ, ◌≤◌, ◌<◌}
use Rattle.machine.specs.Table.{most_desks, most_cells, most_open, most_writes, most_status, Vec, set, held, done, Open, State}
use Rattle.machine.specs.{Table.{written}, Steps.{ready, is_open, open_count}}

-- 1 to n
abbrev pub In : ℕ → ℕ → Type 0
In n i = (1 ≤ i) × (i ≤ n)

-- "places .. past n .. zero"
abbrev pub Flat : ℕ → Vec → Type 0
Flat n v = (t : ℕ) → 1 ≤ v t → In n t

-- a vector is at most another, place by place
abbrev pub Below : Vec → Vec → Type 0
Below v w = (t : ℕ) → v t ≤ w t

-- "ranges as above"; "at most 64 are open"
pub record Ranges (s : State) : Type 0 where
  pub desks : In most_desks s.setup.desks
  pub cells : In most_cells s.setup.cells
  pub written : (u : ℕ) → written s u ≤ most_writes
  pub few : open_count s ≤ most_open

-- "places, marks and desks past n, and cells past m, zero" (the counts; what follows says it of clocks, cells and open writes)
-- "a count of u at any desk is at most u's count at u"
pub record Counts (s : State) : Type 0 where
  pub inside : (i u : ℕ) → 1 ≤ s.applied i u → In s.setup.desks i × In s.setup.desks u
  pub most : (i u : ℕ) → s.applied i u ≤ written s u

-- "a clock is at most its desk's applied counts, and equal at its own place"
pub record Clocks (s : State) : Type 0 where
  pub below : (i : ℕ) → Below (s.clock i) (s.applied i)
  pub own : (i : ℕ) → s.clock i i ≡ s.applied i i

-- every vector place t is at most t's own count
abbrev pub Issued : State → Vec → Type 0
Issued s v = (t : ℕ) → v t ≤ written s t

-- "a set cell's vector is at most its desk's counts, with its writer's place at least 1"
pub record SetCell (s : State) (i x status writer : ℕ) (vector : Vec) : Type 0 where
  pub desk : In s.setup.desks i
  pub cell : In s.setup.cells x
  pub status_in : status ≤ most_status
  pub writer_in : In s.setup.desks writer
  pub below : Below vector (s.applied i)
  pub first : 1 ≤ vector writer
  pub issued : Issued s vector

-- some desk has not applied u.k
pub record Lacks (s : State) (u k : ℕ) : Type 0 where
  pub desk : ℕ
  pub desk_in : In s.setup.desks desk
  pub lower : s.applied desk u < k

-- "those u.k with k at most u's own count and above some desk's count of u"
pub record ToBeOpen (s : State) (u k : ℕ) : Type 0 where
  pub writer : In s.setup.desks u
  pub number : In (written s u) k
  pub lacks : Lacks s u k

-- an open write: its ranges, its vector ("its vector has k at place u"), its marks
pub record OpenWrite (s : State) (u k : ℕ) (w : Open) : Type 0 where
  pub cell : In s.setup.cells w.cell
  pub status_in : w.status ≤ most_status
  pub number : w.vector u ≡ k
  pub issued : Issued s w.vector
  pub marks_in : (i : ℕ) → w.marks i ≤ done
  pub marks_flat : Flat s.setup.desks w.marks
  -- "marked 2 at a desk exactly if its number is at most that desk's count of its writer"
  pub marked : (i : ℕ) → In s.setup.desks i → (w.marks i ≡ done) ↔ (k ≤ s.applied i u)
  -- "and its vector is then at most that desk's counts"
  pub below : (i : ℕ) → w.marks i ≡ done → Below w.vector (s.applied i)

-- "it is marked 1 only if not ready": of one desk
abbrev pub Quiet : State → ℕ → Type 0
Quiet s i = (u k : ℕ) (w : Open) → s.opens u k ≡ some w → w.marks i ≡ held → ready s.setup.desks (s.applied i) u w.vector ≡ false

-- the rules but the last
pub record Frame (s : State) : Type 0 where
  pub ranges : Ranges s
  pub counts : Counts s
  pub clocks : Clocks s
  pub cell : (i x status writer : ℕ) (vector : Vec) → s.cell i x ≡ set status writer vector → SetCell s i x status writer vector
  -- "The open list is exactly those u.k with .."
  pub open-exactly : (u k : ℕ) → (is_open s u k ≡ true) ↔ ToBeOpen s u k
  pub open-write : (u k : ℕ) (w : Open) → s.opens u k ≡ some w → OpenWrite s u k w

-- the rules
pub record Rules (s : State) : Type 0 where
  pub frame : Frame s
  pub quiet : (i : ℕ) → Quiet s i
