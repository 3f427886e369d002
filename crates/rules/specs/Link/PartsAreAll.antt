-- The parts that the code computes are the test of all desks.
use Rattle.std.specs.Prelude.{◌+◌, ◌*◌, ◌/◌, ◌%◌, ◌<◌, ◌≤◌, ◌≡◌}
use Rattle.laws.specs.Kit.{ℕ, zero, suc, List, arith, leb-true, leb-false, eqb-true}
use Rattle.laws.specs.{Kit.{eqb-false, ltb-true, ltb-false, lt-ltb, le-ltb, length, get_or, leb, ltb, eqb}, Loop.{cases}, Tab.{get_or-tab}}
use Rattle.laws.specs.{Says.{says_as, says-one}}
use Rattle.machine.specs.Table.{away, done}
use Rattle.clock.specs.Vectors.{places, place}
use Rattle.table.specs.{declared.Cell.{Cell}, declared.Desk.{Desk}, declared.Open.{Open}, Value.{desk0, desk_cells, all_cells}}
use Rattle.table.specs.{Value.{cell_at, CellsShape, open_at}, EntryNames.{entry_number}}
use Rattle.rules.specs.{Mirror.Test.{cell_test, all_cells_test, live_mark, mark_test, all_marks, all_desks_test}, Mirror.Parts.{zero_cell, used_mark, used_marks}}
use Rattle.rules.specs.{Mirror.Parts.{used_desks, most_at, most_marks, limit_test, all_limits_test, parts_test}, Link.ArrayLimits.{flat-place}}

-- where nothing was applied, a cell passes exactly if it is zero
module _ (m : ℕ) (a : List ℕ) (x : ℕ) (c : Cell) where
  pub zero-passes : (zero_cell c).holds → (cell_test m a x c).holds
  unfolding cell_test
  zero-passes z = (λ _. z.1, λ ne. absurd (ne z.0))

  pub passes-zero : length c.vector ≡ places → ((t : ℕ) → 1 ≤ t → t ≤ places → place a t ≡ 0) → (cell_test m a x c).holds → (zero_cell c).holds
  unfolding cell_test
  passes-zero full none h =
      cases (eqb c.writer 0)
      (λ q. let e = eqb-true _ _ q in (e, h.0 e))
      (λ q. let g = (h.1 (eqb-false _ _ q)).1.1 in
      let p = flat-place c.vector full c.writer g.0 in
      absurd (omega (arith, g.0, g.1 c.writer p.0 p.1, none c.writer p.0 p.1)))

-- the limit of a mark --

most-used : (n i : ℕ) → i < n → most_at n i ≡ done
most-used n i h = rw (lt-ltb i n h)

most_past : (n i : ℕ) → n ≤ i → most_at n i ≡ away
most_past n i h = rw (le-ltb i n h)

most-place : (n i : ℕ) → i < places → get_or (most_marks n) i 0 ≡ most_at n i
unfolding most_marks
most-place n i h = get_or-tab (most_at n) places i 0 h

live_done : (a : List ℕ) (p : ℕ) (o : Open) → (live_mark a p o).holds → p ≤ done
live_done a p o h =
    cases (leb (entry_number o) (place a o.writer))
    (λ q. omega (arith, (h.0 (leb-true _ _ q)).0))
    (λ q. let w = h.1 (λ l. (omega (arith, leb-false (entry_number o) (place a o.writer) q))) in
    cases (eqb p 0)
    (λ r. omega (arith, eqb-true p 0 r))
    (λ r. omega (arith, (w.1 (eqb-false p 0 r)).0)))

module _ (n m : ℕ) (own gap : List ℕ) (cs : List Cell) (os : List Open) (ds : List Desk) (shape : CellsShape cs) where
  to-all : (parts_test n m own gap cs os ds).holds → (all_desks_test n m own gap cs os ds).holds
  unfolding used_desks used_marks used_mark all_limits_test limit_test all_desks_test all_cells_test all_marks mark_test
  to-all h i b = ((h.0.0 i b).0, (cells_in, marks_in))
    where
      a : List ℕ
      a = (get_or ds i desk0).applied

      past_cell : n ≤ i → (x : ℕ) → x < desk_cells → (cell_test m a x (cell_at cs (i * desk_cells + x))).holds
      past_cell l x hx = zero-passes m a x (cell_at cs (i * desk_cells + x)) (h.0.1 (i * desk_cells + x) (omega arith) (omega arith))

      cells_in : (all_cells_test m (get_or ds i desk0).applied i cs).holds
      cells_in x hx = cases (ltb i n) (λ q. ((h.0.0 i b).1 (ltb-true i n q)).0 x hx) (λ q. past_cell (ltb-false i n q) x hx)

      marks_in : (all_marks n (get_or ds i desk0).applied i os).holds
      marks_in e he f = (
        λ l. ((h.0.0 i b).1 l).1 e he f,
        λ ne. (let z = h.1 e he f (suc i) (omega arith) b in
            let g : n ≤ i = past ne in
            omega (arith, z, most-place n i b, most_past n i g)),
      )
        where
          past : (i < n → ⊥) → n ≤ i
          past ne = cases (ltb i n) (λ q. absurd (ne (ltb-true i n q))) (λ q. ltb-false i n q)

  from_all : (all_desks_test n m own gap cs os ds).holds → (parts_test n m own gap cs os ds).holds
  unfolding used_desks used_marks used_mark all_limits_test limit_test all_desks_test all_cells_test all_marks mark_test
  from_all h = ((λ i b. ((h i b).0, λ l. ((h i b).1.0, λ e he f. ((h i b).1.1 e he f).0 l)), zeros), limits)
    where
      zeros : (s : ℕ) → n * desk_cells ≤ s → s < all_cells → (zero_cell (cell_at cs s)).holds
      zeros s l b =
          let i = s / desk_cells in
          let x = s % desk_cells in
          let hi : i < places = omega arith in
          let past : n ≤ i = omega arith in
          let e : i * desk_cells + x ≡ s = omega arith in
          let d = h i hi in
          let c : (cell_test m (get_or ds i desk0).applied x (cell_at cs s)).holds = rw e at (d.1.0 x (omega arith)) in
          passes-zero m (get_or ds i desk0).applied x (cell_at cs s) (shape.each s b).vector (d.0.1.1.1.1 (λ q. (omega arith))) c

      limits : (all_limits_test (most_marks n) os).holds
      limits e he f zero a b = absurd (omega arith)
      limits e he f (suc i) a b =
          let g = (h i b).1.1 e he f in
          cases (ltb i n)
          (λ q. let l = ltb-true i n q in
          omega (arith, live_done (get_or ds i desk0).applied (get_or (open_at os e).marks i 0) (open_at os e) (g.0 l), most-place n i b, most-used n i l))
          (λ q. let l = ltb-false i n q in omega (arith, g.1 (λ z. (omega arith)), most-place n i b, most_past n i l))

  pub parts_are_all : (parts_test n m own gap cs os ds).passes ≡ (all_desks_test n m own gap cs os ds).passes
  parts_are_all =
      says-one (parts_test n m own gap cs os ds).passes (all_desks_test n m own gap cs os ds).passes
      (says_as (parts_test n m own gap cs os ds).passes (parts_test n m own gap cs os ds).says to-all from_all)
      (all_desks_test n m own gap cs os ds).says
