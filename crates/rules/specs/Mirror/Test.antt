-- The rules of a table value as one test, built as the code is: the entries, then desk by desk its counts, its cells and its marks.
-- Desks, places and cells count from 0 here, writers and write numbers from 1.
use Rattle.std.specs.Prelude.{◌+◌, ◌-◌, ◌*◌, ◌<◌, ◌≤◌, ◌≡◌}
use Rattle.laws.specs.Kit.{ℕ, zero, suc, List, Bool, false, not, arith, ltb-false, not-true, get_or, replicate}
use Rattle.laws.specs.{Kit.{ltb}, Loop.{pick}, All.{all, all-at, all_true}, Tab.{tab}, Says.{Says, says-ltb, says-not, says_all, says_as}}
use Rattle.laws.specs.Tests.{says-false, Test, le, lt, eq, yes, is_false, both, choice, unless, upto}
use Rattle.machine.specs.{Table.{most_desks, most_cells, most_status, away, held, done}, Steps.{is_none, everywhere}, Within.{inside}}
use Rattle.machine.specs.RulesTest.{below_at_test}
use Rattle.clock.specs.{Vectors.{places, place}, Readiness.{covers_all, covers, ready_at}}
use Rattle.table.specs.{declared.Cell.{Cell}, declared.Desk.{Desk}, declared.Open.{Open}, declared.Table.{Table}, Value.{desk0, desk_cells}}
use Rattle.table.specs.{Value.{entries, cell_at, open_at, is_free}, EntryNames.{entry_number, named_at}, Model.{open_m, opens_m}}
use Rattle.table.specs.Beginning.{zeros-at}

-- what the test computes with --

-- each desk's count of its own writes
abbrev pub own_at : List Desk → ℕ → ℕ
own_at ds t = get_or (get_or ds t desk0).applied t 0

unfoldable pub owns : List Desk → List ℕ
owns ds = tab places (own_at ds)

-- the largest number up to k that f has not, or 0
unfoldable pub gap_of : (ℕ → Bool) → ℕ → ℕ
gap_of f zero = 0
gap_of f (suc k) = pick (f (suc k)) (gap_of f k) (suc k)

-- is u.k open?
abbrev pub has : List Open → ℕ → ℕ → Bool
has os u k = not (is_none (opens_m os u k))

-- of each desk the latest write that is not open: it and all before it must have been applied everywhere
abbrev pub gap_at : List ℕ → List Open → ℕ → ℕ
gap_at own os t = gap_of (has os (suc t)) (get_or own t 0)

unfoldable pub gaps : List ℕ → List Open → List ℕ
gaps own os = tab places (gap_at own os)

-- a vector at most another, and one of zeros, at all the places of an array --

abbrev pub noughts : List ℕ
noughts = replicate places 0

says-under : (x y : ℕ) → Says (not (ltb x y)) (y ≤ x)
says-under x y = record { to = λ e. ltb-false x y (not-true _ e); from = λ h. (says-not _ (says-ltb x y)).from (λ q. (omega arith)) }

pub says-covers : (a v : List ℕ) → Says (covers_all a v) (below_at_test (place v) (place a)).holds
unfolding covers
says-covers a v =
    says_as (covers_all a v) (says_all (λ t. not (ltb (get_or a t 0) (get_or v t 0))) places (λ t l. says-under (get_or a t 0) (get_or v t 0)))
    from_one
    (λ h t l. h (suc t) (omega arith) l)
  where
    from_one : ((t : ℕ) → t < places → get_or v t 0 ≤ get_or a t 0) → (t : ℕ) → 1 ≤ t → t ≤ places → place v t ≤ place a t
    from_one h zero a b = absurd (omega arith)
    from_one h (suc t) a b = h t b

abbrev pub covered : List ℕ → List ℕ → Test
covered a v = record { passes = covers_all a v; holds = (below_at_test (place v) (place a)).holds; says = says-covers a v }

abbrev pub nought : List ℕ → Test
nought v =
    record {
      passes = covers_all noughts v;
      holds = (t : ℕ) → 1 ≤ t → t ≤ places → place v t ≡ 0;
      says = says_as _ (says-covers noughts v)
          (λ h t a b. omega (arith, h t a b, zeros-at (suc places) t))
          (λ h t a b. omega (arith, h t a b));
    }

-- entries --

-- no entry after e holds u.k
unfoldable pub last_of : List Open → ℕ → ℕ → ℕ → Bool
last_of os u k e = all (λ j. not (named_at os u k j)) (entries - (e + 1)) (e + 1)

pub says_last : (os : List Open) (u k e : ℕ) → Says (last_of os u k e) ((j : ℕ) → e < j → j < entries → named_at os u k j ≡ false)
unfolding last_of
says_last os u k e =
    record {
      to = λ q j l g. not-true _ (all-at (λ j. not (named_at os u k j)) (entries - (e + 1)) (e + 1) q j (omega arith) (omega arith));
      from = λ f. all_true (λ j. not (named_at os u k j)) (entries - (e + 1)) (e + 1)
          (λ j l g. (says-false _).from (f j (omega arith) (omega arith)));
    }

abbrev pub last_test : List Open → ℕ → ℕ → ℕ → Test
last_test os u k e =
    record { passes = last_of os u k e; holds = (j : ℕ) → e < j → j < entries → named_at os u k j ≡ false; says = says_last os u k e }

-- entry e, where its write is o: ranges; vector, and that some desk lacks it; that it stands once
abbrev pub ranges_test : ℕ → ℕ → Open → Test
ranges_test n m o = both (le o.writer n) (both (inside m o.cell) (le o.status most_status))

abbrev pub due_test : ℕ → List ℕ → Open → Test
due_test n own o = both (le 1 (entry_number o)) (both (covered own o.vector) (is_false (everywhere n (open_m o))))

unfoldable pub used_test : ℕ → ℕ → List ℕ → List Open → ℕ → Open → Test
used_test n m own os e o = both (ranges_test n m o) (both (due_test n own o) (last_test os o.writer (entry_number o) e))

unfoldable pub entry_test : ℕ → ℕ → List ℕ → List Open → ℕ → Test
entry_test n m own os e = unless (is_free (open_at os e)) (used_test n m own os e (open_at os e))

unfoldable pub all_entries_test : ℕ → ℕ → List ℕ → List Open → Test
all_entries_test n m own os = upto entries (entry_test n m own os)

-- a desk --

-- the counts and the clock of desk i
abbrev pub live_test : ℕ → List ℕ → List ℕ → ℕ → Test
live_test n a gap i = choice (lt i n) (covered a gap) (nought a)

abbrev pub counts_test : ℕ → List ℕ → List ℕ → ℕ → Desk → Test
counts_test n own gap i d =
    both (covered own d.applied)
    (both (covered d.applied d.clock.at)
    (both (eq (get_or d.clock.at i 0) (get_or d.applied i 0))
    (live_test n d.applied gap i)))

-- cell x of a desk with the counts a (its writer is a desk: the vector has a count there, and the counts past n are zero)
abbrev pub set_cell : ℕ → List ℕ → ℕ → Cell → Test
set_cell m a x c =
    both (lt x m) (both (le c.status most_status) (both (le 1 (place c.vector c.writer)) (covered a c.vector)))

abbrev pub blank_cell : Cell → Test
blank_cell c = both (eq c.status 0) (nought c.vector)

unfoldable pub cell_test : ℕ → List ℕ → ℕ → Cell → Test
cell_test m a x c = choice (eq c.writer 0) (blank_cell c) (set_cell m a x c)

unfoldable pub all_cells_test : ℕ → List ℕ → ℕ → List Cell → Test
all_cells_test m a i cs = upto desk_cells (λ x. cell_test m a x (cell_at cs (i * desk_cells + x)))

-- the mark p at a desk with the counts a: of a write that it has not applied; of any
abbrev pub waits_test : List ℕ → ℕ → Open → Test
waits_test a p o = choice (eq p away) yes (both (eq p held) (is_false (ready_at a o.vector o.writer)))

abbrev pub applied_test : List ℕ → ℕ → Open → Test
applied_test a p o = both (eq p done) (covered a o.vector)

abbrev pub live_mark : List ℕ → ℕ → Open → Test
live_mark a p o = choice (le (entry_number o) (place a o.writer)) (applied_test a p o) (waits_test a p o)

unfoldable pub mark_test : ℕ → List ℕ → ℕ → Open → Test
mark_test n a i o = unless (is_free o) (choice (lt i n) (live_mark a (get_or o.marks i 0) o) (eq (get_or o.marks i 0) away))

unfoldable pub all_marks : ℕ → List ℕ → ℕ → List Open → Test
all_marks n a i os = upto entries (λ e. mark_test n a i (open_at os e))

abbrev pub desk_test : ℕ → ℕ → List ℕ → List ℕ → List Cell → List Open → ℕ → Desk → Test
desk_test n m own gap cs os i d = both (counts_test n own gap i d) (both (all_cells_test m d.applied i cs) (all_marks n d.applied i os))

unfoldable pub all_desks_test : ℕ → ℕ → List ℕ → List ℕ → List Cell → List Open → List Desk → Test
all_desks_test n m own gap cs os ds = upto places (λ i. desk_test n m own gap cs os i (get_or ds i desk0))

-- the whole, where own are the own counts --

abbrev pub sizes_test : ℕ → ℕ → Test
sizes_test n m = both (inside most_desks n) (inside most_cells m)

unfoldable pub own_test : ℕ → ℕ → List ℕ → List Desk → List Cell → List Open → Test
own_test n m own ds cs os = both (sizes_test n m) (both (all_entries_test n m own os) (all_desks_test n m own (gaps own os) cs os ds))

abbrev pub keeps_test : Table → Test
keeps_test t = own_test t.core.n t.core.m (owns t.core.desks) t.core.desks t.cells t.opens
