-- What a desk reads joins its clock as the machine says, for one cell and for the cells of a trip.
use Rattle.std.specs.Prelude.{◌-◌, ◌≡◌}
use Rattle.laws.specs.{Kit.{ℕ, sym, ap, ◌∙◌, fun_ext, List, [], arith, eqb-true, eqb, length, set}, Loop.{cases}}
use Rattle.machine.specs.Table as states
use Rattle.machine.specs.Answer as machine
use Rattle.machine.specs.Rules.{In}
use Rattle.machine.specs.Steps.{Step, Read, read_clock, with_clock}
use Rattle.machine.specs.Refusals.{rows_of, AllPass}
use Rattle.machine.proofs.Refusals.{effect_of}
use Rattle.clock.specs.{declared.Clock.{Clock}, Vectors.{places, place, joined, join_clock, place-joined}}
use Rattle.table.specs.{declared.Cell.{Cell}, declared.Desk.{Desk}, declared.Table.{Table}, Value.{cell_at, FullCell}}
use Rattle.table.specs.Model.{cell_m, slot, clock_m, cells_m, opens_m, clock_vec, cell_in, clock-at, clock_put, applied_keep, model_of, table_of}
use Rattle.table.specs.{Model.{applied_m, applied_vec, applied-at}, Sound.{AllZero}}
use Rattle.reply.specs.Meaning.{answer_of}
use Rattle.steps.specs.{Stepped.{Placed, Stepped}, Link.LookStepped.{in_places, in_cells, in_desks, desk-shape, taken-stepped}}
use Rattle.steps.specs.Mirror.Look.{with_desk_clock, shown_cell, look_turn}

-- a cell that is all zero where it is unset
abbrev pub Blank0 : Cell → Type 0
Blank0 c = c.writer ≡ 0 → AllZero c

-- "unset, which leaves the clock": the zeros of an unset cell join without effect
pub join-cell : (a : List ℕ) (c : Cell) → length a ≡ places → FullCell c → Blank0 c → place (joined a c.vector) ≡ read_clock (place a) (cell_m c)
join-cell a c la f z =
    place-joined a c.vector (f.vector ∙ sym la)
    ∙ cases (eqb c.writer 0)
    (λ t. rw t (fun_ext (λ u. let e = (z (eqb-true _ _ t)).vector u in rw e (omega arith))))
    (λ t. rw t)

pub shown-cell : (c : Cell) → answer_of (shown_cell c) [] ≡ machine.shows (machine.shown_of (cell_m c))
unfolding shown_cell
shown-cell c = cases (eqb c.writer 0) (λ t. rw t) (λ t. rw t)

module _ {t : Table} {own : List ℕ} {i : ℕ} {d : Desk} (p : Placed t own i d) (hi : In t.core.n i) where
  abbrev cs : List Cell
  cs = t.cells

  pub counts_start : applied_m t.core.desks i ≡ place d.applied
  counts_start = applied-at t.core.desks i (in_desks p hi) ∙ ap applied_vec (p.desk hi)

  pub clock-start : clock_m t.core.desks i ≡ place d.clock.at
  clock-start = clock-at t.core.desks i (in_desks p hi) ∙ ap clock_vec (p.desk hi)

  pub cell-here : {x : ℕ} → In t.core.m x → cells_m cs i x ≡ cell_m (cell_at cs (slot i x))
  cell-here {x} hx = cell_in cs i x (in_places p hi) (in_cells p hx)

  pub blank-here : {x : ℕ} → In t.core.m x → Blank0 (cell_at cs (slot i x))
  blank-here {x} hx = p.sound.blanks (slot i x) (omega (arith, in_places p hi, in_cells p hx))

  -- only the clock changes
  pub clock-stepped : (a : Step) (k : Clock) (answer : machine.Answer) → AllPass (rows_of (model_of t) a)
      → answer ≡ (effect_of (model_of t) a).answer → with_clock (model_of t) i (place k.at) ≡ (effect_of (model_of t) a).state
      → Stepped t i d a (with_desk_clock d k) cs t.opens answer
  clock-stepped a k answer h ea es = taken-stepped p a hi h ea (moved ∙ es) p.sound.blanks p.sound.unique
    where
      moved : model_of (table_of t.core.n t.core.m (set t.core.desks (i - 1) (with_desk_clock d k)) cs t.opens) ≡ with_clock (model_of t) i (place k.at)
      moved = λ j. record {
        setup = (model_of t).setup;
        applied = applied_keep t.core.desks i (in_desks p hi) (with_desk_clock d k) (ap (λ (b : Desk). place b.applied) (sym (p.desk hi))) j;
        clock = clock_put t.core.desks i (in_desks p hi) (with_desk_clock d k) j;
        cell = cells_m cs;
        opens = opens_m t.opens;
      }

  pub read-stepped : (x : ℕ) → In t.core.m x → Stepped t i d (Read i x) (look_turn d (cell_at cs (slot i x))).desk cs t.opens (answer_of (look_turn d (cell_at cs (slot i x))).answer [])
  read-stepped x hx =
      let c = cell_at cs (slot i x) in
      clock-stepped (Read i x) (join_clock d.clock c.vector) (answer_of (shown_cell c) []) (hi, (hx, tt))
      (shown-cell c ∙ rw (cell-here hx))
      (ap (λ (v : states.Vec). with_clock (model_of t) i v)
      (join-cell d.clock.at c (desk-shape p hi).clock (p.cells_shape.each (slot i x) (omega (arith, in_places p hi, in_cells p hx))) (blank-here hx) ∙ rw (clock-start, cell-here hx)))
