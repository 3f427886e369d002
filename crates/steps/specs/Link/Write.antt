-- The write as values is the machine's write.
use Rattle.std.specs.Prelude.{◌+◌, ◌-◌, ◌<◌, ◌≤◌, ◌≡◌, Option, Some, None, Ok}
use Rattle.laws.specs.Kit.{ℕ, zero, suc, refl, sym, ap, ◌∙◌, fun_ext, List, [], none, some, arith, add-one, lt-ltb}
use Rattle.laws.specs.{Kit.{ne_eqb, eqb, length, set, replicate, length-set, length-replicate}, All.{all_true}, Update.{upd, upd_same}}
use Rattle.laws.specs.{Update.{upd2, upd2-is, same_or}, Loop.{cases}}
use Rattle.machine.specs.Table as states
use Rattle.machine.specs.Answer as machine
use Rattle.machine.specs.{Rules.{In}, Steps.{Write, open_count, everywhere, still_open, mark, new_write, next_number, next_vector}}
use Rattle.machine.proofs.OneDesk.{alone_none_open}
use Rattle.machine.proofs.Paper.{new-number, new_somewhere}
use Rattle.clock.specs.{declared.Clock.{Clock}, Vectors.{places, place, place_set, place-raised, raised, raise_clock}}
use Rattle.table.specs.{declared.Cell.{Cell}, declared.Desk.{Desk}, declared.Open.{Open}, declared.Table.{Table}, Value.{all_cells, cell_at, put_cell}}
use Rattle.table.specs.{Value.{cell_at_put, cell_at-other}, EntryNames.{entry_number}, Model.{open_m, slot, opens_m, applied_m, clock_m, cells_m}}
use Rattle.table.specs.{Model.{applied_put, clock_put, cell_put, model_of}, Link.OpensModel.{Unique, opens_store, unique_store}}
use Rattle.table.specs.Sound.{AllZero}
use Rattle.reply.specs.Meaning.{answer_of}
use Rattle.steps.specs.Stepped.{Placed, Stepped}
use Rattle.steps.specs.Link.LookStepped.{in_places, in_cells, in_desks, desk-shape, taken-stepped}
use Rattle.steps.specs.{Link.Look.{clock-start, counts_start}, Mirror.Write.{Spotted, new_marks, enter_at, wrote_desk, wrote_cell}}
use Rattle.steps.specs.{Mirror.Write.{wrote_open, wrote_turn}, OpenCount.{free_few}}

-- no mark but the writer's
place-zeros : (n t : ℕ) → place (replicate n 0) t ≡ 0
place-zeros n zero = refl
place-zeros zero (suc t) = refl
place-zeros (suc n) (suc zero) = refl
place-zeros (suc n) (suc (suc t)) = place-zeros n (suc t)

marks-new : (i : ℕ) → In places i → place (new_marks i) ≡ upd (λ t. 0) i 2
marks-new i h =
    let e : suc (i - 1) ≡ i = omega (arith, h.0) in
    place_set (replicate places 0) (i - 1) 2 (omega (arith, h.0, h.1, length-replicate {A = ℕ} places 0))
    ∙ rw e (ap (λ (f : ℕ → ℕ). upd f i 2) (fun_ext (λ t. place-zeros places t)))

module _ {whole : Table} {own : List ℕ} {i : ℕ} {d : Desk} (p : Placed whole own i d) (hi : In whole.core.n i) where
  abbrev n : ℕ
  n = whole.core.n

  abbrev ds : List Desk
  ds = whole.core.desks

  abbrev cs : List Cell
  cs = whole.cells

  abbrev os : List Open
  os = whole.opens

  pub written_start : applied_m ds i i ≡ place d.applied i
  written_start = ap (λ (v : ℕ → ℕ). v i) (counts_start p hi)

  own_same : place d.clock.at i ≡ place d.applied i
  own_same = ap (λ (v : ℕ → ℕ). v i) (sym (clock-start p hi)) ∙ p.sound.rules.frame.clocks.own i ∙ written_start

  module _ (hw : place d.applied i < states.most_writes) where
    clock_rises : raise_clock d.clock i ≡ record { at = raised d.clock.at i }
    clock_rises =
        let a = (desk-shape p hi).clock in
        rw (lt-ltb 0 i (omega (arith, hi.0)), lt-ltb (i - 1) (length d.clock.at) (omega (arith, in_places p hi)), lt-ltb (place d.clock.at i) states.most_writes (omega (arith, own_same)))

    vector-size : length (raise_clock d.clock i).at ≡ places
    vector-size = ap (λ (k : Clock). length k.at) clock_rises ∙ length-set d.clock.at (i - 1) (place d.clock.at i + 1) ∙ (desk-shape p hi).clock

    -- the risen clock is the write's vector, and its own place the write's number
    vector-new : place (raise_clock d.clock i).at ≡ next_vector (model_of whole) i
    vector-new =
        ap (λ (k : Clock). place k.at) clock_rises
        ∙ place-raised d.clock.at i hi.0 (omega (arith, in_places p hi, (desk-shape p hi).clock))
        ∙ ap (λ (v : ℕ → ℕ). upd v i (suc (v i))) (sym (clock-start p hi))

    number-new : next_number (model_of whole) i ≡ place d.applied i + 1
    number-new = ap (λ (v : ℕ → ℕ). suc (v i)) (clock-start p hi) ∙ ap suc own_same ∙ sym (add-one (place d.applied i))

    applied-new : applied_m (set ds (i - 1) (wrote_desk d i)) ≡ upd2 (applied_m ds) i i (suc (applied_m ds i i))
    unfolding upd2
    applied-new =
        applied_put ds i (in_desks p hi) (wrote_desk d i)
        ∙ ap (λ (v : ℕ → ℕ). upd (applied_m ds) i v)
        (place-raised d.applied i hi.0 (omega (arith, in_places p hi, (desk-shape p hi).applied))
        ∙ ap (λ (v : ℕ → ℕ). upd v i (suc (v i))) (sym (counts_start p hi)))

    clock-new : clock_m (set ds (i - 1) (wrote_desk d i)) ≡ upd (clock_m ds) i (next_vector (model_of whole) i)
    clock-new = clock_put ds i (in_desks p hi) (wrote_desk d i) ∙ ap (λ (v : ℕ → ℕ). upd (clock_m ds) i v) vector-new

    module _ (x v : ℕ) (hx : In whole.core.m x) where
      cell-new : cells_m (put_cell cs (slot i x) (wrote_cell d i v)) ≡ upd2 (cells_m cs) i x (states.set v i (next_vector (model_of whole) i))
      cell-new =
          cell_put cs i x (wrote_cell d i v) (in_places p hi) (in_cells p hx) p.cells_shape.count
          ∙ ap (λ (c : states.Cell). upd2 (cells_m cs) i x c)
          (rw (ne_eqb i 0 (λ q. (omega (arith, hi.0)))) (ap (λ (w : ℕ → ℕ). states.set v i w) vector-new))

      blanks-new : (s : ℕ) → s < all_cells → (cell_at (put_cell cs (slot i x) (wrote_cell d i v)) s).writer ≡ 0 → AllZero (cell_at (put_cell cs (slot i x) (wrote_cell d i v)) s)
      blanks-new s h e =
          same_or s (slot i x)
          (λ q. let w : cell_at (put_cell cs (slot i x) (wrote_cell d i v)) s ≡ wrote_cell d i v = rw q (cell_at_put cs (slot i x) (wrote_cell d i v) (rw q at h) p.cells_shape.count) in
          let z : i ≡ 0 = sym (ap (λ (c : Cell). c.writer) w) ∙ e in absurd (omega (arith, hi.0)))
          (λ q. let w = cell_at-other cs (slot i x) (wrote_cell d i v) s q in rw w (p.sound.blanks s h (rw w at e)))

      abbrev done_here : states.Open
      done_here = mark (new_write (model_of whole) i x v) i states.done

      open-new : open_m (wrote_open d i x v) ≡ done_here
      open-new = λ j. record { cell = x; status = v; vector = vector-new j; marks = marks-new i (in_places p hi) j }

      name_new : entry_number (wrote_open d i x v) ≡ next_number (model_of whole) i
      name_new = ap (λ (w : ℕ → ℕ). w i) vector-new ∙ upd_same (clock_m ds i) i (next_number (model_of whole) i)

      -- with another desk it stays open
      stays_open : (n ≡ 1 → ⊥) → still_open n done_here ≡ some done_here
      stays_open ne =
          cases (everywhere n done_here) (λ t. absurd (new_somewhere (model_of whole) i x v (omega (arith, hi, ne)) t))
          (λ t. rw (t, still_open))

      -- alone it is applied everywhere at once
      goes_alone : n ≡ 1 → still_open n done_here ≡ none
      unfolding everywhere
      goes_alone e =
          let t = all_true (λ k. eqb (done_here.marks k) states.done) n 1 (λ k a b. let q : k ≡ i = omega (arith, hi) in rw (q, upd_same (λ (k : ℕ). states.away) i states.done)) in
          rw (t, still_open)

      opens-new : (s : Option ℕ) → Spotted n os (Ok s) → (opens_m (enter_at os s (wrote_open d i x v)) ≡ upd2 (opens_m os) i (next_number (model_of whole) i) (still_open n done_here)) × (Unique (enter_at os s (wrote_open d i x v)))
      opens-new (Some e) h =
          let o = wrote_open d i x v in
          let inuse = ne_eqb i 0 (λ q. (omega (arith, hi.0))) in
          let fresh : opens_m os o.writer (entry_number o) ≡ none = rw name_new (new-number i p.sound.rules.frame) in (
            opens_store os e o h.1.0 p.opens_shape.count h.1.1 inuse fresh ∙ rw (name_new, open-new, stays_open h.0),
            unique_store os e o h.1.0 p.opens_shape.count h.1.1 inuse fresh p.sound.unique,
          )
      opens-new None h =
          let new = new-number i p.sound.rules.frame in
          (rw (goes_alone h) (upd2-is (opens_m os) i (next_number (model_of whole) i) none (opens_m os) new (λ j y nj. refl)), p.sound.unique)

      few_open : (s : Option ℕ) → Spotted n os (Ok s) → open_count (model_of whole) < states.most_open
      few_open (Some e) h = free_few p.sound e h.1.0 h.1.1
      few_open None h = omega (arith, alone_none_open p.sound.rules h)

      pub write-stepped : (s : Option ℕ) → v ≤ states.most_status → Spotted n os (Ok s)
          → Stepped whole i d (Write i x v) (wrote_desk d i) (put_cell cs (slot i x) (wrote_cell d i v)) (enter_at os s (wrote_open d i x v)) (answer_of (wrote_turn d i).answer [])
      write-stepped s hv h =
          let o = opens-new s h in
          taken-stepped p (Write i x v) hi (hi, (hx, (hv, (rw written_start hw, (few_open s h, tt)))))
          (ap (λ (k : ℕ). machine.wrote (states.name i k)) (sym number-new))
          (λ j. record { setup = (model_of whole).setup; applied = applied-new j; clock = clock-new j; cell = cell-new j; opens = o.0 j })
          blanks-new o.1
