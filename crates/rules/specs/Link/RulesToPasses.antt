-- A table value that keeps the rules passes the test.
use Rattle.std.specs.Prelude.{◌+◌, ◌*◌, ◌<◌, ◌≤◌, ◌≡◌}
use Rattle.laws.specs.Kit.{ℕ, zero, suc, ap, ◌∙◌, List, Option, some, true, false, not, arith, ltb-true, ltb-false}
use Rattle.laws.specs.{Kit.{ne_eqb, get_or, eqb, ltb}, Loop.{cases}, All.{all-fails-at}, Tab.{get_or-tab, get_or-tab_out}, Update.{same_or}}
use Rattle.laws.specs.Says.{apart}
use Rattle.machine.specs.{Table.{held, done, State}, Steps.{is_none, everywhere, ready}, Rules.{Flat, ToBeOpen, OpenWrite}}
use Rattle.machine.specs.Table as machine
use Rattle.clock.specs.{Vectors.{places, place}, Readiness.{ready_at, ready-narrow}}
use Rattle.table.specs.{declared.Desk.{Desk}, declared.Open.{Open}, declared.Table.{Table}, Value.{desk0, desk_cells, entries, cell_at, open_at, is_free}}
use Rattle.table.specs.{TypeShape.{DesksShape}, EntryNames.{entry_number, named_at, own-named}, Model.{applied_m, clock_m, open_m, opens_m}}
use Rattle.table.specs.{Model.{model_of}, Link.OpensModel.{lone, opens_at}, Sound.{SoundTable}}
use Rattle.rules.specs.Mirror.Test.{owns, has, gap_at, gaps, used_test, entry_test, all_entries_test, counts_test, cell_test, all_cells_test, mark_test}
use Rattle.rules.specs.{Mirror.Test.{all_marks, all_desks_test, own_test, keeps_test}, Link.Gap.{gap_most, gap_not}}
use Rattle.rules.specs.Link.ArrayLimits.{own_is, at_set}

module _ (whole : Table) (sh : DesksShape whole.core.desks) (so : SoundTable whole) where
  abbrev n : ℕ
  n = whole.core.n

  abbrev ds : List Desk
  ds = whole.core.desks

  abbrev os : List Open
  os = whole.opens

  abbrev s : State
  s = model_of whole

  -- an entry in use
  module _ (e : ℕ) (h : e < entries) (f : is_free (open_at os e) ≡ false) where
    own : named_at os (open_at os e).writer (entry_number (open_at os e)) e ≡ true
    own = own-named (open_at os e) f

    at_name : opens_m os (open_at os e).writer (entry_number (open_at os e)) ≡ some (open_m (open_at os e))
    at_name = opens_at os e (open_at os e).writer (entry_number (open_at os e)) so.unique h own

    due : ToBeOpen s (open_at os e).writer (entry_number (open_at os e))
    due = (so.rules.frame.open-exactly (open_at os e).writer (entry_number (open_at os e))).0 (ap (λ (w : Option machine.Open). not (is_none w)) at_name)

    right : OpenWrite s (open_at os e).writer (entry_number (open_at os e)) (open_m (open_at os e))
    right = so.rules.frame.open-write (open_at os e).writer (entry_number (open_at os e)) (open_m (open_at os e)) at_name

    lacking : everywhere n (open_m (open_at os e)) ≡ false
    unfolding everywhere
    lacking =
        let l = due.lacks in
        all-fails-at (λ t. eqb (place (open_at os e).marks t) done) n 1 l.desk l.desk_in.0 (omega (arith, l.desk_in.1))
        (ne_eqb (place (open_at os e).marks l.desk) done (λ q. (omega (arith, l.lower, (right.marked l.desk l.desk_in).0 q))))

    used-from : (used_test n whole.core.m (owns ds) os e (open_at os e)).holds
    unfolding used_test
    used-from = (
      (due.writer.1, (right.cell, right.status_in)),
      (
        (due.number.0, (λ t _ _. omega (arith, right.issued t, own_is ds sh t), lacking)),
        λ j l hj. lone os e (open_at os e).writer (entry_number (open_at os e)) so.unique h own j hj (λ q. (omega arith)),
      ),
    )

    -- its mark at desk i
    vector-flat : Flat n (place (open_at os e).vector)
    vector-flat t l = (so.rules.frame.counts.inside t t (omega (arith, right.issued t))).0

    mark-from : (i : ℕ) → (mark_test n (get_or ds i desk0).applied i (open_at os e)).holds
    unfolding applied_m mark_test
    mark-from i _ = (
      λ l. (
        λ q. (let z = (right.marked (suc i) (omega arith, l)).1 q in (z, λ t _ _. right.below (suc i) z t)),
        λ ne. (
          λ _. tt,
          λ nz.
              let two : p ≡ done → ⊥ = (λ q. ne ((right.marked (suc i) (omega arith, l)).0 q)) in
              let z : p ≡ held = omega (arith, right.marks_in (suc i)) in
              (z, narrow ∙ so.rules.quiet (suc i) u (entry_number (open_at os e)) (open_m (open_at os e)) at_name z),
        ),
      ),
      λ ne. same_or p 0 (λ q. q) (λ q. absurd (ne (right.marks_flat (suc i) (omega arith)).1)),
    )
      where
        p : ℕ
        p = get_or (open_at os e).marks i 0

        u : ℕ
        u = (open_at os e).writer

        narrow : ready_at (get_or ds i desk0).applied (open_at os e).vector u ≡ ready n (place (get_or ds i desk0).applied) u (place (open_at os e).vector)
        narrow = ready-narrow n places (place (get_or ds i desk0).applied) u (place (open_at os e).vector) vector-flat due.writer.1 so.rules.frame.ranges.desks.1

  -- the latest write that is not open has been applied at each of the n desks
  gap_from : (i : ℕ) → i < n → (t : ℕ) → place (gaps (owns ds) os) t ≤ s.applied (suc i) t
  unfolding gaps
  gap_from i l zero = omega arith
  gap_from i l (suc t) =
      cases (ltb t places)
      (λ b. let v : place (gaps (owns ds) os) (suc t) ≡ gap_at (owns ds) os t = get_or-tab (gap_at (owns ds) os) places t 0 (ltb-true t places b) in
      cases (ltb (s.applied (suc i) (suc t)) (gap_at (owns ds) os t))
      (λ q. absurd (missing (ltb-true _ _ q)))
      (λ q. omega (arith, ltb-false (s.applied (suc i) (suc t)) (gap_at (owns ds) os t) q)))
      (λ b. omega (arith, get_or-tab_out (gap_at (owns ds) os) places t 0 (ltb-false t places b)))
    where
      missing : s.applied (suc i) (suc t) < gap_at (owns ds) os t → ⊥
      missing q =
          let k = gap_at (owns ds) os t in
          let b : k ≤ s.applied (suc t) (suc t) = omega (arith, gap_most (has os (suc t)) (get_or (owns ds) t 0), own_is ds sh (suc t)) in
          let w = so.rules.frame.counts.inside (suc t) (suc t) (omega arith) in
          apart (has os (suc t) k)
          ((so.rules.frame.open-exactly (suc t) k).1 (record { writer = w.0; number = (omega arith, b); lacks = record { desk = suc i; desk_in = (omega arith, l); lower = q } }))
          (gap_not (has os (suc t)) (get_or (owns ds) t 0) (omega arith))

  counts-from : (i : ℕ) → (counts_test n (owns ds) (gaps (owns ds) os) i (get_or ds i desk0)).holds
  unfolding applied_m clock_m
  counts-from i =
      let f = so.rules.frame in (
        λ t _ _. omega (arith, f.counts.most (suc i) t, own_is ds sh t),
        (
          λ t _ _. f.clocks.below (suc i) t,
          (
            f.clocks.own (suc i),
            (
              λ l t _ _. gap_from i l t,
              λ ne t _ _. same_or (place (get_or ds i desk0).applied t) 0
                  (λ q. q)
                  (λ q. absurd (ne (f.counts.inside (suc i) t (omega arith)).0.1)),
            ),
          ),
        ),
      )

  cell-from : (i x : ℕ) → i < places → x < desk_cells
      → (cell_test whole.core.m (get_or ds i desk0).applied x (cell_at whole.cells (i * desk_cells + x))).holds
  unfolding applied_m cell_test
  cell-from i x hi hx = (
    λ e. (let z = so.blanks (i * desk_cells + x) (omega arith) e in (z.status, λ t _ _. z.vector t)),
    λ ne.
        let c = cell_at whole.cells (i * desk_cells + x) in
        let g = so.rules.frame.cell (suc i) (suc x) c.status c.writer (place c.vector) (at_set whole.cells i x hi hx ne) in
        (g.cell.1, (g.status_in, (g.first, λ t _ _. g.below t))),
  )

  pub from-sound : (keeps_test whole).holds
  unfolding own_test all_entries_test entry_test all_desks_test all_cells_test all_marks mark_test
  from-sound = (
    (so.rules.frame.ranges.desks, so.rules.frame.ranges.cells),
    (used-from, λ i h. (counts-from i, (λ x. cell-from i x h, λ e l f. mark-from e l f i f))),
  )
