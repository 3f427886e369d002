-- Document 01, "The four steps" and "Numbers of refusal" (the orders), as total functions on the table.
use mathlib.Core.{Bool.{Bool, true, false, not, ◌&&◌}, List.{List, [], ◌∷◌}, Option.{Option, none, some}}
use Rattle.std.specs.Prelude.{ℕ, zero, suc, max}
use lib.{Dec.{eqb, leb, ltb}, ListN.{length}}
use Rattle.laws.specs.{Loop.{scan}, All.{all}, Update.{upd, upd2}, Sum.{sum, tally}, Lists.{any, every}}
use Rattle.machine.specs.Table.{most_desks, most_cells, most_open, most_trip, most_writes, most_status, Vec, Name, name, Cell, blank}
use Rattle.machine.specs.{Table.{set, away, held, done, Open, State, fresh, written}, Answer.{Shown, unset, shown, shown_of, Verdict}}
use Rattle.machine.specs.Answer.{Yes, No, Unknown, Refusal, no_desk, no_cell, no_status, spent, full, own_write, no_write, received}
use Rattle.machine.specs.Answer.{trip_size, no_size, Answer, began, shows, wrote, holds, applies, judged, refused}

pub record Out : Type 0 where
  pub answer : Answer
  pub state : State

-- "A refusal returns its number and leaves table as found." A step is a chain of tests in the document's order, then the effect.
abbrev pub refuse : Refusal → State → Out
refuse r s = record { answer = refused r; state = s }

abbrev pub need : Bool → Refusal → State → Out → Out
need true r s o = o
need false r s o = refuse r s

-- the state with another clock at desk i, or with other open writes
abbrev pub with_clock : State → ℕ → Vec → State
with_clock t i c = record { setup = t.setup; applied = t.applied; clock = upd t.clock i c; cell = t.cell; opens = t.opens }

abbrev pub with_opens : State → (ℕ → ℕ → Option Open) → State
with_opens t o = record { setup = t.setup; applied = t.applied; clock = t.clock; cell = t.cell; opens = o }

-- 1 to n
abbrev pub within : ℕ → ℕ → Bool
within n i = leb 1 i && leb i n

-- Readiness --

-- "It is ready when i has applied exactly k-1 writes of u and, for every other desk t, at least as many as the vector says."
-- a: the counts at i; w: the vector of u.k, which has k at place u. Does place t fail?
abbrev pub fails : Vec → ℕ → Vec → ℕ → Bool
fails a u w t = elim (eqb t u) [ true ↦ not (eqb (suc (a u)) (w u)) | false ↦ ltb (a t) (w t) ]

-- "the first write of t not applied here" (document 02, T-04)
abbrev pub first_unapplied : Vec → ℕ → Name
first_unapplied a t = name t (suc (a t))

-- "for the smallest failing desk t, the first write of t not applied here"
unfoldable pub failing : ℕ → Vec → ℕ → Vec → Option Name
failing n a u w = scan (fails a u w) (λ t. some (first_unapplied a t)) none n 1

abbrev pub is_none : {A : Type 0} → Option A → Bool
is_none none = true
is_none (some a) = false

abbrev pub ready : ℕ → Vec → ℕ → Vec → Bool
ready n a u w = is_none (failing n a u w)

-- Read --

-- "The desk's clock becomes the larger, place by place, of itself and the cell's vector."
abbrev pub join : Vec → Vec → Vec
join a b t = max (a t) (b t)

-- "unset, which leaves the clock"
abbrev pub read_clock : Vec → Cell → Vec
read_clock c blank = c
read_clock c (set v u w) = join c w

abbrev pub read : State → ℕ → ℕ → State
read s i x = with_clock s i (read_clock (s.clock i) (s.cell i x))

-- "The answer is status and write name, or unset."
abbrev pub shown_at : State → ℕ → ℕ → Shown
shown_at s i x = shown_of (s.cell i x)

-- Applied, held --

-- "A write is open .. until it is applied at all n desks."
unfoldable pub everywhere : ℕ → Open → Bool
everywhere n w = all (λ t. eqb (w.marks t) done) n 1

abbrev pub still_open : ℕ → Open → Option Open
still_open n w = elim (everywhere n w) [ true ↦ none | false ↦ some w ]

abbrev pub mark : Open → ℕ → ℕ → Open
mark w i p = record { cell = w.cell; status = w.status; vector = w.vector; marks = upd w.marks i p }

-- "it is applied: the cell takes status, writer and vector, and the count of u at i rises. Applying does not touch the clock."
abbrev pub apply : State → ℕ → ℕ → ℕ → Open → State
apply s i u k w = record {
  setup = s.setup;
  applied = upd2 s.applied i u (suc (s.applied i u));
  clock = s.clock;
  cell = upd2 s.cell i w.cell (set w.status u w.vector);
  opens = upd2 s.opens u k (still_open s.setup.desks (mark w i done));
}

-- "If not ready it is held"
abbrev pub hold : State → ℕ → ℕ → ℕ → Open → State
hold s i u k w = with_opens s (upd2 s.opens u k (some (mark w i held)))

-- Write --

-- "The desk's own clock place rises by one"
abbrev pub next_number : State → ℕ → ℕ
next_number s i = suc (s.clock i i)

abbrev pub next_vector : State → ℕ → Vec
next_vector s i = upd (s.clock i) i (next_number s i)

abbrev pub raise : State → ℕ → State
raise s i = with_clock s i (next_vector s i)

-- "that clock is the write's vector"; "Every other desk has yet to receive it."
abbrev pub new_write : State → ℕ → ℕ → ℕ → Open
new_write s i x v = record { cell = x; status = v; vector = next_vector s i; marks = λ t. away }

-- "It is applied at the writer at once."
abbrev pub write : State → ℕ → ℕ → ℕ → State
write s i x v = apply (raise s i) i i (next_number s i) (new_write s i x v)

-- the number of open writes, of all desks together
abbrev pub is_open : State → ℕ → ℕ → Bool
is_open s u k = not (is_none (s.opens u k))

unfoldable pub open_count : State → ℕ
open_count s = sum s.setup.desks (λ u. tally (written s u) (is_open s u))

-- Deliver --

-- held at i and ready there
abbrev pub due_open : State → ℕ → ℕ → Option Open → Bool
due_open s i u none = false
due_open s i u (some w) = eqb (w.marks i) held && ready s.setup.desks (s.applied i) u w.vector

-- of one writer only the write after those applied can be ready: it takes exactly k-1
abbrev pub due : State → ℕ → ℕ → Bool
due s i u = due_open s i u (s.opens u (suc (s.applied i u)))

-- "while any held write at i is ready, the one with the smallest writer"
unfoldable pub first_due : State → ℕ → Option ℕ
first_due s i = scan (due s i) some none s.setup.desks 1

pub record Settled : Type 0 where
  pub names : List Name
  pub state : State

-- the next write of u, found due, is applied, and the search begins again
abbrev pub apply_next : (State → Settled) → State → ℕ → ℕ → Option Open → Settled
apply_next again s i u none = record { names = []; state = s }
apply_next again s i u (some w) =
    let k : ℕ = suc (s.applied i u) in
    let r : Settled = again (apply s i u k w) in
    record { names = name u k ∷ r.names; state = r.state }

abbrev pub settle_by : (State → Settled) → State → ℕ → Option ℕ → Settled
settle_by again s i none = record { names = []; state = s }
settle_by again s i (some u) = apply_next again s i u (s.opens u (suc (s.applied i u)))

-- at most f turns: `settle-rules` (Proofs/Cascade) says that most_open turns leave nothing ready held
unfoldable pub settle : ℕ → State → ℕ → Settled
settle zero s i = record { names = []; state = s }
settle (suc f) s i = settle_by (λ s'. settle f s' i) s i (first_due s i)

abbrev pub deliver_by : State → ℕ → ℕ → ℕ → Open → Option Name → Out
deliver_by s i u k w (some z) = record { answer = holds z; state = hold s i u k w }
deliver_by s i u k w none =
    let r : Settled = settle most_open (apply s i u k w) i in
    record { answer = applies (name u k ∷ r.names); state = r.state }

-- a write that is not open has been applied at every desk
abbrev pub deliver_open : State → ℕ → ℕ → ℕ → Option Open → Out
deliver_open s i u k none = refuse received s
deliver_open s i u k (some w) =
    let o : Out = deliver_by s i u k w (failing s.setup.desks (s.applied i) u w.vector) in
    need (eqb (w.marks i) away) received s o

-- Trip --

pub record Reads : Type 0 where
  pub shown : List Shown
  pub state : State

-- "Reads them in the given order as one step"
unfoldable pub reads : State → ℕ → List ℕ → Reads
reads s i [] = record { shown = []; state = s }
reads s i (x ∷ xs) =
    let r : Reads = reads (read s i x) i xs in
    record { shown = shown_at s i x ∷ r.shown; state = r.state }

abbrev pub has_status : ℕ → Shown → Bool
has_status v unset = false
has_status v (shown v' u k) = eqb v' v

-- "Verdict: no if any reads 2; else yes if all read 1; else unknown."
unfoldable pub verdict : List Shown → Verdict
verdict l = elim (any (has_status 2) l) [ true ↦ No | false ↦ elim (every (has_status 1) l) [ true ↦ Yes | false ↦ Unknown ] ]

-- The steps, each with its order of refusals --

pub data Step : Type 0 where
  Read : (desk cell : ℕ) → Step
  Write : (desk cell status : ℕ) → Step
  Deliver : (desk writer number : ℕ) → Step
  Trip : (desk : ℕ) (cells : List ℕ) → Step

unfoldable pub step : State → Step → Out
-- Read: 1, 2
step s (Read i x) =
    let o : Out = record { answer = shows (shown_at s i x); state = read s i x } in
    let o2 : Out = need (within s.setup.cells x) no_cell s o in
    need (within s.setup.desks i) no_desk s o2
-- Write: 1, 2, 3, 4, 5
step s (Write i x v) =
    let o : Out = record { answer = wrote (name i (next_number s i)); state = write s i x v } in
    let o5 : Out = need (ltb (open_count s) most_open) full s o in
    let o4 : Out = need (ltb (written s i) most_writes) spent s o5 in
    let o3 : Out = need (leb v most_status) no_status s o4 in
    let o2 : Out = need (within s.setup.cells x) no_cell s o3 in
    need (within s.setup.desks i) no_desk s o2
-- Deliver: 1 (either desk), 6, 7, 8
step s (Deliver i u k) =
    let o8 : Out = deliver_open s i u k (s.opens u k) in
    let o7 : Out = need (within (written s u) k) no_write s o8 in
    let o6 : Out = need (not (eqb i u)) own_write s o7 in
    need (within s.setup.desks i && within s.setup.desks u) no_desk s o6
-- Trip: 1, 9, 2
step s (Trip i xs) =
    let r : Reads = reads s i xs in
    let o : Out = record { answer = judged (verdict r.shown); state = r.state } in
    let o2 : Out = need (every (within s.setup.cells) xs) no_cell s o in
    let o9 : Out = need (within most_trip (length xs)) trip_size s o2 in
    need (within s.setup.desks i) no_desk s o9

-- The beginning: "n goes to 16" (document 02, T-06), "m records, called cells (1 to 64)", else 11 and still no table --

abbrev pub begins : ℕ → ℕ → Bool
begins n m = within most_desks n && within most_cells m

pub record Begun : Type 0 where
  pub answer : Answer
  pub table : Option State

unfoldable pub begin : ℕ → ℕ → Begun
begin n m = elim (begins n m) [ true ↦ record { answer = began; table = some (fresh n m) } | false ↦ record { answer = refused no_size; table = none } ]

-- Schedules --

unfoldable pub answers : State → List Step → List Answer
answers s [] = []
answers s (a ∷ ss) =
    let o : Out = step s a in
    o.answer ∷ answers o.state ss
