-- The trip as a value is the machine's trip.
use Rattle.std.specs.Prelude.{◌≤◌, ◌≡◌, ◌∷◌}
use Rattle.laws.specs.Kit.{ℕ, refl, sym, ap, ◌∙◌, List, [], map, Memᴰ, Memᴰ-head, Memᴰ-tail, Bool, true}
use Rattle.laws.specs.{Kit.{false, arith, eqb-true, ne_eqb, eqb, length}, Loop.{pick, cases}, Lists.{any, every, any-map, every_map}}
use Rattle.laws.specs.Update.{upd, upd_same, upd-is, upd_other}
use Rattle.machine.specs.Table.{State, Vec, most_trip, Cell as CellM}
use Rattle.machine.specs.Rules.{In}
use Rattle.machine.proofs.Blanks.{reads-shown}
use Rattle.machine.specs.Steps.{Trip, read_clock}
use Rattle.machine.specs.Steps.{read, with_clock, shown_at, reads, has_status, verdict}
use Rattle.machine.specs.Answer as machine
use Rattle.clock.specs.Vectors.{places, place, length-joined}
use Rattle.table.specs.{declared.Cell.{Cell}, declared.Desk.{Desk}, declared.Table.{Table}, Value.{cell_at}, Model.{cell_m}}
use Rattle.table.specs.Model.{slot, cells_m, model_of}
use Rattle.reply.specs.Meaning.{answer_of}
use Rattle.steps.specs.{declared.look.Seen.{Seen}, Stepped.{Placed, Stepped}, Link.LookStepped.{in_places, in_cells, desk-shape}}
use Rattle.steps.specs.{Mirror.Trip.{seen_nothing, see_cell, see_all, verdict_of, trip_turn}, Link.Look.{Blank0, join-cell, clock-start}}
use Rattle.steps.specs.Link.Look.{cell-here, blank-here, clock-stepped}

-- the machine's reads: only the clock changes, and every cell shows what it showed before --

unfoldable clock_after : (ℕ → CellM) → Vec → List ℕ → Vec
clock_after f c [] = c
clock_after f c (x ∷ xs) = clock_after f (read_clock c (f x)) xs

module _ (i : ℕ) where
  clock-same : (s : State) → with_clock s i (s.clock i) ≡ s
  clock-same s =
      ap (λ (f : ℕ → Vec). record { setup = s.setup; applied = s.applied; clock = f; cell = s.cell; opens = s.opens })
      (sym (upd-is s.clock i (s.clock i) s.clock refl (λ j ne. refl)))

  clock_again : (s : State) (a b : Vec) → with_clock (with_clock s i a) i b ≡ with_clock s i b
  clock_again s a b =
      ap (λ (f : ℕ → Vec). record { setup = s.setup; applied = s.applied; clock = f; cell = s.cell; opens = s.opens })
      (upd-is s.clock i b (upd (upd s.clock i a) i b) (upd_same (upd s.clock i a) i b)
      (λ j ne. upd_other (upd s.clock i a) i b j ne ∙ upd_other s.clock i a j ne))

  reads-state : (s : State) (xs : List ℕ) → (reads s i xs).state ≡ with_clock s i (clock_after (s.cell i) (s.clock i) xs)
  unfolding reads clock_after
  reads-state s [] = sym (clock-same s)
  reads-state s (x ∷ xs) =
      let c = read_clock (s.clock i) (s.cell i x) in
      reads-state (read s i x) xs
      ∙ ap (λ (v : Vec). with_clock (read s i x) i (clock_after (s.cell i) v xs)) (upd_same s.clock i c)
      ∙ clock_again s c (clock_after (s.cell i) c xs)

-- a status from 1 on is shown by set cells only
status-cell : (v : ℕ) (c : Cell) → 1 ≤ v → Blank0 c → eqb c.status v ≡ has_status v (machine.shown_of (cell_m c))
status-cell v c h z =
    cases (eqb c.writer 0)
    (λ t. let e = (z (eqb-true _ _ t)).status in rw (t, e) (ne_eqb 0 v (λ q. (omega arith))))
    (λ t. rw t)

verdict_pick : (l : List machine.Shown) → verdict l ≡ pick (any (has_status 2) l) machine.No (pick (every (has_status 1) l) machine.Yes machine.Unknown)
unfolding verdict
verdict_pick l =
    cases (any (has_status 2) l)
    (λ t. rw (t, verdict))
    (λ t. cases (every (has_status 1) l) (λ u. rw (t, u, verdict)) (λ u. rw (t, u, verdict)))

-- the code's loop, by what the machine's cells show --

module _ {whole : Table} {own : List ℕ} {i : ℕ} {d : Desk} (p : Placed whole own i d) (hi : In whole.core.n i) where
  abbrev cs : List Cell
  cs = whole.cells

  abbrev Inside : List ℕ → Type 0
  Inside xs = (x : ℕ) → Memᴰ x xs → In whole.core.m x

  abbrev shows : ℕ → ℕ → Bool
  shows v x = has_status v (machine.shown_of (cells_m cs i x))

  status-here : (v x : ℕ) → 1 ≤ v → In whole.core.m x → eqb (cell_at cs (slot i x)).status v ≡ shows v x
  status-here v x h hx = status-cell v (cell_at cs (slot i x)) h (blank-here p hi hx) ∙ rw (cell-here p hi hx)

  seen-clock : (s : Seen) (xs : List ℕ) → length s.clock.at ≡ places → Inside xs → place (see_all cs i s xs).clock.at ≡ clock_after (cells_m cs i) (place s.clock.at) xs
  unfolding see_all clock_after
  seen-clock s [] l h = refl
  seen-clock s (x ∷ xs) l h =
      let hx = h x (Memᴰ-head refl) in
      let c = cell_at cs (slot i x) in
      seen-clock (see_cell s c) xs (length-joined s.clock.at c.vector ∙ l) (λ y g. h y (Memᴰ-tail g))
      ∙ ap (λ (v : Vec). clock_after (cells_m cs i) v xs) (join-cell s.clock.at c l (p.cells_shape.each (slot i x) (omega (arith, in_places p hi, in_cells p hx))) (blank-here p hi hx) ∙ rw (cell-here p hi hx))

  seen-two : (s : Seen) (xs : List ℕ) → Inside xs → (see_all cs i s xs).two ≡ pick (any (shows 2) xs) true s.two
  unfolding see_all any
  seen-two s [] h = refl
  seen-two s (x ∷ xs) h =
      seen-two (see_cell s (cell_at cs (slot i x))) xs (λ y g. h y (Memᴰ-tail g))
      ∙ cases (shows 2 x)
      (λ t. rw (status-here 2 x (omega arith) (h x (Memᴰ-head refl)), t, any) (cases (any (shows 2) xs) (λ u. rw u) (λ u. rw u)))
      (λ t. rw (status-here 2 x (omega arith) (h x (Memᴰ-head refl)), t, any))

  seen_one : (s : Seen) (xs : List ℕ) → Inside xs → (see_all cs i s xs).one ≡ pick (every (shows 1) xs) s.one false
  unfolding see_all every
  seen_one s [] h = refl
  seen_one s (x ∷ xs) h =
      seen_one (see_cell s (cell_at cs (slot i x))) xs (λ y g. h y (Memᴰ-tail g))
      ∙ cases (shows 1 x)
      (λ t. rw (status-here 1 x (omega arith) (h x (Memᴰ-head refl)), t, every))
      (λ t. rw (status-here 1 x (omega arith) (h x (Memᴰ-head refl)), t, every) (cases (every (shows 1) xs) (λ u. rw u) (λ u. rw u)))

  judged : (xs : List ℕ) → Inside xs → answer_of (verdict_of (see_all cs i (seen_nothing d.clock) xs)) [] ≡ machine.judged (verdict (map (shown_at (model_of whole) i) xs))
  judged xs h =
      rw (seen-two (seen_nothing d.clock) xs h, seen_one (seen_nothing d.clock) xs h, verdict_pick, any-map (has_status 2) (shown_at (model_of whole) i) xs, every_map (has_status 1) (shown_at (model_of whole) i) xs)
      (cases (any (shows 2) xs) (λ t. rw t) (λ t. cases (every (shows 1) xs) (λ u. rw (t, u)) (λ u. rw (t, u))))

  pub trip_stepped : (xs : List ℕ) → In most_trip (length xs) → Inside xs → Stepped whole i d (Trip i xs) (trip_turn d cs i xs).desk cs whole.opens (answer_of (trip_turn d cs i xs).answer [])
  trip_stepped xs h9 h =
      let s = see_all cs i (seen_nothing d.clock) xs in
      clock-stepped p hi (Trip i xs) s.clock (answer_of (verdict_of s) []) (hi, (h9, (h, tt)))
      (judged xs h ∙ ap (λ (l : List machine.Shown). machine.judged (verdict l)) (sym (reads-shown (model_of whole) i xs)))
      (ap (λ (v : Vec). with_clock (model_of whole) i v)
      (seen-clock (seen_nothing d.clock) xs (desk-shape p hi).clock h ∙ ap (λ (v : Vec). clock_after (cells_m cs i) v xs) (sym (clock-start p hi)))
      ∙ sym (reads-state i (model_of whole) xs))
