-- The rules as one test of a table that was read: desks 1 to n, the place of every desk, cells 1 to m, the writes that each desk has made.
use Rattle.std.specs.Prelude.{ℕ, ◌≤◌}
use mathlib.Core.{Path.{◌≡◌}, Bool.{Bool, not}, Option.{Option, none, some}}
use Rattle.std.proofs.Common.{arith, leb-false}
use Rattle.std.proofs.lemmas.Bool.{not-true}
use Rattle.std.specs.Prelude.{leb}
use Rattle.laws.specs.{All.{all}, Says.{Says, says-leb, says-not, all-not}, Tests.{Test, le, eq, yes, is_false, none_of, both, given, alike}}
use Rattle.laws.specs.Tests.{each, says-each}
use Rattle.machine.specs.Table.{most_desks, most_cells, most_open, most_writes, most_status, Vec, Cell, blank, set, held, done, Open}
use Rattle.machine.specs.{Table.{State, written}, Steps.{ready, open_count}, Rules.{In, Flat, Lacks}, Within.{inside}}

-- "ranges as above"
abbrev pub sizes : State → Test
sizes s = both (inside most_desks s.setup.desks) (both (inside most_cells s.setup.cells) (le (open_count s) most_open))

-- the count of t at i, and the clock there
abbrev pub count_at_test : State → ℕ → ℕ → Test
count_at_test s i t =
    both (given (le 1 (s.applied i t)) (le t s.setup.desks))
    (both (le (s.applied i t) (written s t))
    (le (s.clock i t) (s.applied i t)))

-- a desk
abbrev pub desk_at_test : State → ℕ → Test
desk_at_test s i = both (le (written s i) most_writes) (both (eq (s.clock i i) (s.applied i i)) (each most_desks (count_at_test s i)))

-- a vector is at most another at the place of every desk
abbrev pub below_at_test : Vec → Vec → Test
below_at_test v w = each most_desks (λ t. le (v t) (w t))

-- a cell
abbrev pub cell_rules : State → ℕ → Cell → Test
cell_rules s i blank = yes
cell_rules s i (set v u w) = both (le v most_status) (both (inside s.setup.desks u) (both (le 1 (w u)) (below_at_test w (s.applied i))))

-- some desk has not applied u.k
abbrev pub lacks : State → ℕ → ℕ → Bool
lacks s u k = not (all (λ i. leb k (s.applied i u)) s.setup.desks 1)

pub says-lacks : (s : State) (u k : ℕ) → Says (lacks s u k) (Lacks s u k)
says-lacks s u k =
    record {
      to = λ e.
          let r = all-not (λ i. leb k (s.applied i u)) s.setup.desks 1 (not-true _ e) in
          record { desk = r.0; desk_in = (r.1, omega (arith, r.2)); lower = leb-false k (s.applied r.0 u) r.3 };
      from = λ l.
          (says-not _ (says-each (λ i. leb k (s.applied i u)) s.setup.desks (λ i. says-leb k (s.applied i u)))).from
          (λ f. omega (arith, f l.desk l.desk_in.0 l.desk_in.1, l.lower));
    }

abbrev pub lacking : State → ℕ → ℕ → Test
lacking s u k = record { passes = lacks s u k; holds = Lacks s u k; says = says-lacks s u k }

-- an open write at a desk
abbrev pub mark_at_test : State → ℕ → ℕ → Open → ℕ → Test
mark_at_test s u k w i =
    both (le (w.marks i) done)
    (both (given (le 1 (w.marks i)) (le i s.setup.desks))
    (both (given (le i s.setup.desks) (alike (eq (w.marks i) done) (le k (s.applied i u))))
    (both (given (eq (w.marks i) done) (below_at_test w.vector (s.applied i)))
    (given (eq (w.marks i) held) (is_false (ready s.setup.desks (s.applied i) u w.vector))))))

-- an open write
abbrev pub write_at_test : State → ℕ → ℕ → Open → Test
write_at_test s u k w =
    both (inside s.setup.cells w.cell)
    (both (le w.status most_status)
    (both (eq (w.vector u) k)
    (both (below_at_test w.vector (written s))
    (each most_desks (mark_at_test s u k w)))))

-- open exactly if it is to be
abbrev pub open_rules : State → ℕ → ℕ → Option Open → Test
open_rules s u k none = none_of (lacking s u k)
open_rules s u k (some w) = both (lacking s u k) (write_at_test s u k w)

-- the whole: sizes, desks, cells, open writes
abbrev pub kept : State → Test
kept s =
    both (sizes s)
    (both (each s.setup.desks (desk_at_test s))
    (both (each s.setup.desks (λ i. each s.setup.cells (λ x. cell_rules s i (s.cell i x))))
    (each s.setup.desks (λ u. each (written s u) (λ k. open_rules s u k (s.opens u k))))))

unfoldable pub keeps : State → Bool
keeps s = (kept s).passes

-- of every table that was read: nothing stands past the desks, their places, the cells, the writes made
pub record ZeroPast (s : State) : Type 0 where
  pub counts : (i t : ℕ) → 1 ≤ s.applied i t → In s.setup.desks i × In most_desks t
  pub clocks : (i t : ℕ) → 1 ≤ s.clock i t → In s.setup.desks i × In most_desks t
  pub cell : (i x v u : ℕ) (w : Vec) → s.cell i x ≡ set v u w → In s.setup.desks i × (In s.setup.cells x × Flat most_desks w)
  pub opens : (u k : ℕ) (w : Open) → s.opens u k ≡ some w
      → In s.setup.desks u × (In (written s u) k × (Flat most_desks w.vector × Flat most_desks w.marks))
