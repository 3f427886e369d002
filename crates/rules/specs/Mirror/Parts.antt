-- The test of the desks in the parts that the code computes: desk by desk its counts, and its cells and marks where it is in use; past n
-- the cells as one run, and entry by entry the marks. (That it is the same test: Link/PartsAreAll.antt.)
use Rattle.std.specs.Prelude.{◌-◌, ◌*◌, ◌<◌, ◌≤◌}
use Rattle.laws.specs.{Kit.{ℕ, List, arith, get_or, ltb}, Loop.{pick}, All.{all}}
use Rattle.laws.specs.{All.{all-at, all_true}, Tab.{tab}, Says.{Says}, Tests.{Test, eq, lt, both, given, unless, upto}}
use Rattle.machine.specs.Table.{away, done}
use Rattle.clock.specs.Vectors.{places}
use Rattle.table.specs.{declared.Desk.{Desk}, declared.Open.{Open}, declared.Cell.{Cell}, Value.{desk0, desk_cells, all_cells, entries, cell_at, open_at, is_free}}
use Rattle.rules.specs.Mirror.Test.{covered, blank_cell, counts_test, all_cells_test, live_mark}

-- a cell that is unset, and all zero; the cells from p on
abbrev pub zero_cell : Cell → Test
zero_cell c = both (eq c.writer 0) (blank_cell c)

pub says-zeros : (cs : List Cell) (p : ℕ)
    → Says (all (λ s. (zero_cell (cell_at cs s)).passes) (all_cells - p) p) ((s : ℕ) → p ≤ s → s < all_cells → (zero_cell (cell_at cs s)).holds)
says-zeros cs p =
    record {
      to = λ e s a b. (zero_cell (cell_at cs s)).says.to (all-at (λ s. (zero_cell (cell_at cs s)).passes) (all_cells - p) p e s a (omega arith));
      from = λ f. all_true (λ s. (zero_cell (cell_at cs s)).passes) (all_cells - p) p (λ s a b. (zero_cell (cell_at cs s)).says.from (f s a (omega arith)));
    }

abbrev pub zeros_test : List Cell → ℕ → Test
zeros_test cs p =
    record {
      passes = all (λ s. (zero_cell (cell_at cs s)).passes) (all_cells - p) p;
      holds = (s : ℕ) → p ≤ s → s < all_cells → (zero_cell (cell_at cs s)).holds;
      says = says-zeros cs p;
    }

-- the marks at desk i, in use, with the counts a
abbrev pub mark_of : List ℕ → ℕ → Open → Test
mark_of a i o = live_mark a (get_or o.marks i 0) o

unfoldable pub used_mark : List ℕ → ℕ → Open → Test
used_mark a i o = unless (is_free o) (mark_of a i o)

unfoldable pub used_marks : List ℕ → ℕ → List Open → Test
used_marks a i os = upto entries (λ e. used_mark a i (open_at os e))

-- desk i, but for what stands past n
abbrev pub used_desk : ℕ → ℕ → List ℕ → List ℕ → List Cell → List Open → ℕ → Desk → Test
used_desk n m own gap cs os i d =
    both (counts_test n own gap i d) (given (lt i n) (both (all_cells_test m d.applied i cs) (used_marks d.applied i os)))

unfoldable pub used_desks : ℕ → ℕ → List ℕ → List ℕ → List Cell → List Open → List Desk → Test
used_desks n m own gap cs os ds = upto places (λ i. used_desk n m own gap cs os i (get_or ds i desk0))

-- the largest mark at desk t, from 0: none past n
abbrev pub most_at : ℕ → ℕ → ℕ
most_at n t = pick (ltb t n) done away

unfoldable pub most_marks : ℕ → List ℕ
most_marks n = tab places (most_at n)

unfoldable pub limit_test : List ℕ → Open → Test
limit_test most o = unless (is_free o) (covered most o.marks)

unfoldable pub all_limits_test : List ℕ → List Open → Test
all_limits_test most os = upto entries (λ e. limit_test most (open_at os e))

abbrev pub parts_test : ℕ → ℕ → List ℕ → List ℕ → List Cell → List Open → List Desk → Test
parts_test n m own gap cs os ds =
    both (both (used_desks n m own gap cs os ds) (zeros_test cs (n * desk_cells))) (all_limits_test (most_marks n) os)
