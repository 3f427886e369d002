-- The table as the machine's: functions of the desk, the place, the cell and the write's name, all from 1.
use Rattle.std.specs.Prelude.{◌+◌, ◌-◌, ◌*◌, ◌≡◌}
use Rattle.laws.specs.Kit.{ℕ, zero, suc, refl, ap, ◌∙◌, List, Option, arith, ltb-true, lt-ltb, length, get_or, set, ltb}
use Rattle.laws.specs.{Kit.{eqb}, Loop.{pick, cases}, Update.{upd, upd2, upd2-is, seen1, lift_set1, lift_keep1}, Find.{first_of}}
use Rattle.clock.specs.Vectors.{places, place}
use Rattle.machine.specs.Table as machine
use Rattle.machine.specs.Rules.{In}
use Rattle.table.specs.{declared.Cell.{Cell}, declared.Core.{Core}, declared.Desk.{Desk}, declared.Open.{Open}}
use Rattle.table.specs.{declared.Table.{Table}, Value.{desk0, desk_cells, all_cells, cell_at, put_cell, cell_at_put}}
use Rattle.table.specs.{Value.{cell_at-other, entries_of}, EntryNames.{named}}

abbrev pub applied_vec : Desk → machine.Vec
applied_vec d = place d.applied

abbrev pub clock_vec : Desk → machine.Vec
clock_vec d = place d.clock.at

-- writer 0: unset
abbrev pub cell_m : Cell → machine.Cell
cell_m c = pick (eqb c.writer 0) machine.blank (machine.set c.status c.writer (place c.vector))

abbrev pub open_m : Open → machine.Open
open_m o = record { cell = o.cell; status = o.status; vector = place o.vector; marks = place o.marks }

unfoldable pub applied_m : List Desk → ℕ → machine.Vec
applied_m ds = seen1 applied_vec ds desk0

unfoldable pub clock_m : List Desk → ℕ → machine.Vec
clock_m ds = seen1 clock_vec ds desk0

-- cell x of desk i stands at (i - 1) * 64 + (x - 1)
abbrev pub slot : ℕ → ℕ → ℕ
slot i x = (i - 1) * desk_cells + (x - 1)

unfoldable pub cells_m : List Cell → ℕ → ℕ → machine.Cell
cells_m l zero x = machine.blank
cells_m l (suc i) zero = machine.blank
cells_m l (suc i) (suc x) = pick (ltb i places) (pick (ltb x desk_cells) (cell_m (cell_at l (i * desk_cells + x))) machine.blank) machine.blank

unfoldable pub opens_m : List Open → ℕ → ℕ → Option machine.Open
opens_m l u k = first_of (named u k) open_m (entries_of l)

-- a core, and the two arrays that are lent beside it
abbrev pub table_with : Core → List Cell → List Open → Table
table_with c cs os = record { core = c; cells = cs; opens = os }

-- the same of loose parts
abbrev pub table_of : ℕ → ℕ → List Desk → List Cell → List Open → Table
table_of n m ds cs os = table_with (record { n = n; m = m; desks = ds }) cs os

abbrev pub model_of : Table → machine.State
model_of t = record {
  setup = machine.sized t.core.n t.core.m;
  applied = applied_m t.core.desks;
  clock = clock_m t.core.desks;
  cell = cells_m t.cells;
  opens = opens_m t.opens;
}

abbrev pub model : ℕ → ℕ → List Desk → List Cell → List Open → machine.State
model n m ds cs os = model_of (table_of n m ds cs os)

-- two states with the same parts
pub state_path : (a b : machine.State) → a.setup ≡ b.setup → a.applied ≡ b.applied → a.clock ≡ b.clock → a.cell ≡ b.cell → a.opens ≡ b.opens → a ≡ b
state_path a b es ea ec el eo = λ j. record { setup = es j; applied = ea j; clock = ec j; cell = el j; opens = eo j }

-- Desks --

module _ (ds : List Desk) (i : ℕ) (h : In (length ds) i) where
  pub applied-at : applied_m ds i ≡ applied_vec (get_or ds (i - 1) desk0)
  unfolding applied_m
  applied-at = let e : i ≡ suc (i - 1) = omega (arith, h.0) in ap (λ (k : ℕ). applied_m ds k) e

  pub clock-at : clock_m ds i ≡ clock_vec (get_or ds (i - 1) desk0)
  unfolding clock_m
  clock-at = let e : i ≡ suc (i - 1) = omega (arith, h.0) in ap (λ (k : ℕ). clock_m ds k) e

  -- a desk stored
  pub applied_put : (d : Desk) → applied_m (set ds (i - 1) d) ≡ upd (applied_m ds) i (applied_vec d)
  unfolding applied_m
  applied_put d =
      let e : suc (i - 1) ≡ i = omega (arith, h.0) in
      lift_set1 applied_vec ds (i - 1) d desk0 (omega (arith, h.0, h.1)) ∙ ap (λ (k : ℕ). upd (applied_m ds) k (applied_vec d)) e

  pub clock_put : (d : Desk) → clock_m (set ds (i - 1) d) ≡ upd (clock_m ds) i (clock_vec d)
  unfolding clock_m
  clock_put d =
      let e : suc (i - 1) ≡ i = omega (arith, h.0) in
      lift_set1 clock_vec ds (i - 1) d desk0 (omega (arith, h.0, h.1)) ∙ ap (λ (k : ℕ). upd (clock_m ds) k (clock_vec d)) e

  -- a desk stored whose counts, or whose clock, are as before
  pub applied_keep : (d : Desk) → applied_vec d ≡ applied_vec (get_or ds (i - 1) desk0) → applied_m (set ds (i - 1) d) ≡ applied_m ds
  unfolding applied_m
  applied_keep d e = lift_keep1 applied_vec ds (i - 1) d desk0 (omega (arith, h.0, h.1)) e

  pub clock_keep : (d : Desk) → clock_vec d ≡ clock_vec (get_or ds (i - 1) desk0) → clock_m (set ds (i - 1) d) ≡ clock_m ds
  unfolding clock_m
  clock_keep d e = lift_keep1 clock_vec ds (i - 1) d desk0 (omega (arith, h.0, h.1)) e

-- Cells --

pub cell_in : (l : List Cell) (i x : ℕ) → In places i → In desk_cells x → cells_m l i x ≡ cell_m (cell_at l (slot i x))
unfolding cells_m
cell_in l zero x hi hx = absurd (omega (arith, hi.0))
cell_in l (suc i) zero hi hx = absurd (omega (arith, hx.0))
cell_in l (suc i) (suc x) hi hx =
    let a : suc i - 1 ≡ i = omega arith in
    let b : suc x - 1 ≡ x = omega arith in
    rw (a, b, lt-ltb i places hi.1, lt-ltb x desk_cells hx.1)

pub cell_out : (l : List Cell) (i x : ℕ) → (In places i → In desk_cells x → ⊥) → cells_m l i x ≡ machine.blank
unfolding cells_m
cell_out l zero x out = refl
cell_out l (suc i) zero out = refl
cell_out l (suc i) (suc x) out =
    cases (ltb i places)
    (λ a. cases (ltb x desk_cells)
    (λ b. absurd (out (omega arith, ltb-true i places a) (omega arith, ltb-true x desk_cells b)))
    (λ b. rw (a, b)))
    (λ a. rw a)

module _ (l : List Cell) (i x : ℕ) (c : Cell) (hi : In places i) (hx : In desk_cells x) (size : length l ≡ all_cells) where
  apart_slot : (j y : ℕ) → In places j → In desk_cells y → (j ≡ i → y ≡ x → ⊥) → slot j y ≡ slot i x → ⊥
  apart_slot j y hj hy ne q = ne (omega (arith, hi.0, hj.0, hx.0, hx.1, hy.0, hy.1)) (omega (arith, hi.0, hj.0, hx.0, hx.1, hy.0, hy.1))

  other : (j y : ℕ) → (j ≡ i → y ≡ x → ⊥) → cells_m (put_cell l (slot i x) c) j y ≡ cells_m l j y
  unfolding cells_m
  other zero y ne = refl
  other (suc j) zero ne = refl
  other (suc j) (suc y) ne =
      let a : suc j - 1 ≡ j = omega arith in
      let b : suc y - 1 ≡ y = omega arith in
      cases (ltb j places)
      (λ s. cases (ltb y desk_cells)
      (λ t. rw (
        s,
        t,
        cell_at-other l (slot i x) c (j * desk_cells + y)
            (rw (a, b) at (apart_slot (suc j) (suc y) (omega arith, ltb-true j places s) (omega arith, ltb-true y desk_cells t) ne)),
      ))
      (λ t. rw (s, t)))
      (λ s. rw s)

  -- a cell stored
  pub cell_put : cells_m (put_cell l (slot i x) c) ≡ upd2 (cells_m l) i x (cell_m c)
  cell_put =
      upd2-is (cells_m l) i x (cell_m c) (cells_m (put_cell l (slot i x) c))
      (cell_in (put_cell l (slot i x) c) i x hi hx
      ∙ ap cell_m (cell_at_put l (slot i x) c (omega (arith, hi.0, hi.1, hx.0, hx.1)) size))
      other
