-- Applying a write keeps the rules, but that a write held at that desk may be ready: for a delivered write and for the writer's own.
use Rattle.std.specs.Prelude.{◌≡◌, ◌≢◌, ◌↔◌, ◌≤◌, ◌<◌}
use Rattle.laws.specs.Kit.{refl, sym, ◌∙◌, ap, Iff-trans, Bool, true, false, not, Option, some, ℕ, suc, arith}
use Rattle.laws.specs.{Kit.{not-true}, Loop.{cases}, Sum.{sum, tally, one, sum-le, sum-one-le}, Update.{upd, upd_same, upd_other, upd-all}}
use Rattle.laws.specs.Update.{upd2-same, upd2-row, upd2-here, upd2-other, upd2-all, upd2-some, same_or, same_pair_or}
use Rattle.machine.specs.Table.{most_open, most_writes, most_status, Vec, Cell, set, held, done, Open, State, written}
use Rattle.machine.specs.Steps.{fails, ready, is_none, everywhere, still_open, mark, apply, raise, next_number, next_vector, new_write}
use Rattle.machine.specs.{Steps.{write, is_open, open_count}, Rules.{In, Below, Issued, Ranges, Counts, Clocks, SetCell, ToBeOpen}}
use Rattle.machine.specs.Rules.{OpenWrite, Quiet, Frame, Rules}
use Rattle.machine.proofs.Ready.{ready_at_lem, passes-own, passes-rest, still}
use Rattle.machine.proofs.Ready.{done-everywhere, not-everywhere, none_still, still_is}
use Rattle.machine.proofs.CountsRise.{HeldWaits}
use Rattle.machine.proofs.CountsRise.{MarkRules, marks_of_lem, open_of_lem, Grown, cell_grown, mark_grown, open-grown, exactly_grown}
use Rattle.machine.proofs.CountsRise.{clocks_are, Clock}

-- a write that may be applied at i: u's next there, sent before or written at i now
pub record MayApply (s : State) (i u k : ℕ) (w : Open) : Type 0 where
  pub desk : In s.setup.desks i
  pub writer : In s.setup.desks u
  pub next : suc (s.applied i u) ≡ k
  pub known : u ≢ i → k ≤ written s u
  pub cell : In s.setup.cells w.cell
  pub status_in : w.status ≤ most_status
  pub number : w.vector u ≡ k
  pub rest : (t : ℕ) → t ≢ u → w.vector t ≤ s.applied i t
  pub marks : (j : ℕ) → j ≢ i → MarkRules s u k w.vector j (w.marks j)

-- the clocks c are those after the step: a writer's has risen
module _ {s : State} (f : Frame s) (c : ℕ → Vec) {i u k : ℕ} {w : Open} (a : MayApply s i u k w) where
  abbrev after : State
  after = apply (clocks_are s c) i u k w

  pub here : after.applied i u ≡ k
  here = upd2-same s.applied i u (suc (s.applied i u)) ∙ a.next

  pub same : (j t : ℕ) → (j ≡ i → t ≡ u → ⊥) → after.applied j t ≡ s.applied j t
  same j t ne = upd2-other s.applied i u (suc (s.applied i u)) j t ne

  pub row : (j : ℕ) → j ≢ i → after.applied j ≡ s.applied j
  row j ne = upd2-row s.applied i u (suc (s.applied i u)) j ne

  pub grown : Grown s after
  grown = record {
    setup = refl;
    more = λ j t. same_pair_or j t i u (λ p q. rw (p, q) (omega (arith, here, a.next))) (λ ne. omega (arith, same j t ne));
  }

  known-now : k ≤ written after u
  known-now = same_or u i (λ e. omega (arith, ap (λ (j : ℕ). after.applied j u) e, here)) (λ e. omega (arith, a.known e, grown.more u u))

  counts : Counts after
  counts = record {
    inside = λ j t h. same_pair_or j t i u (λ p q. rw (p, q) (a.desk, a.writer)) (λ ne. f.counts.inside j t (rw (same j t ne) at h));
    most = λ j t.
        same_pair_or j t i u
        (λ p q. rw (p, q) (omega (arith, here, known-now)))
        (λ ne. omega (arith, same j t ne, f.counts.most j t, grown.more t t));
  }

  pub vector-below : Below w.vector (after.applied i)
  vector-below t = same_or t u (λ e. rw e (omega (arith, here, a.number))) (λ e. omega (arith, a.rest t e, grown.more i t))

  vector-issued : Issued after w.vector
  vector-issued t = omega (arith, vector-below t, counts.most i t)

  cell-kept : (j x v t : ℕ) (z : Vec) → after.cell j x ≡ set v t z → SetCell after j x v t z
  cell-kept j x v t z e =
      upd2-all s.cell i w.cell (set w.status u w.vector) (λ (j x : ℕ) (b : Cell). b ≡ set v t z → SetCell after j x v t z) j x
      (λ p q n. let nv : w.status ≡ v = cc in
      let nt : u ≡ t = cc in
      let nz : w.vector ≡ z = cc in
      rw (p, q, ← nv, ← nt, ← nz) (record {
        desk = a.desk;
        cell = a.cell;
        status_in = a.status_in;
        writer_in = a.writer;
        below = vector-below;
        first = omega (arith, a.number, a.next);
        issued = vector-issued;
      }))
      (λ ne n. cell_grown grown (f.cell j x v t z n))
      e

  -- another write is not applied anew
  down : (b d : ℕ) → (b ≡ u → d ≡ k → ⊥) → (j : ℕ) → d ≤ after.applied j b → d ≤ s.applied j b
  down b d ne j l =
      same_pair_or j b i u
      (λ p q. let m : d ≤ after.applied i u = rw (p, q) at l in let n : d ≢ k = ne q in rw (p, q) (omega (arith, here, a.next)))
      (λ nj. omega (arith, same j b nj))

  mark-here : (j : ℕ) → MarkRules after u k w.vector j (upd w.marks i done j)
  mark-here j =
      upd-all w.marks i done (MarkRules after u k w.vector) j
      (λ p. rw p (record { small = omega arith; flat = λ h. a.desk; marked = λ h. (λ e. omega (arith, here), λ l. refl); below = λ e. vector-below }))
      (λ p. mark_grown grown (λ l. omega (arith, same j u (λ q r. p q))) (a.marks j p))

  open_kept : (b d : ℕ) (z : Open) → after.opens b d ≡ some z → OpenWrite after b d z
  open_kept =
      upd2-some (OpenWrite after) s.opens u k (still_open s.setup.desks (mark w i done))
      (λ z e. rw (← still_is s.setup.desks (mark w i done) z e) (open_of_lem a.cell a.status_in a.number vector-issued mark-here))
      (λ b d z ne e. open-grown grown b d (down b d ne) (f.open-write b d z e))

  -- freed exactly if no desk lacks it
  this_exactly : (not (everywhere s.setup.desks (mark w i done)) ≡ true) ↔ ToBeOpen after u k
  this_exactly = (
    (λ e. let r = not-everywhere s.setup.desks (mark w i done) (not-true _ e) in
        let n : ¬ (k ≤ after.applied r.0 u) = (λ l. r.2 (((mark-here r.0).marked r.1).1 l)) in
        record { writer = a.writer; number = (omega (arith, a.next), known-now); lacks = record { desk = r.0; desk_in = r.1; lower = omega arith } }),
    (λ o. let l = o.lacks in
        cases (everywhere s.setup.desks (mark w i done))
        (λ e. absurd (omega (arith, l.lower, ((mark-here l.desk).marked l.desk_in).0 (done-everywhere s.setup.desks (mark w i done) e l.desk l.desk_in))))
        (λ e. rw e)),
  )

  exactly-kept : (b d : ℕ) → (is_open after b d ≡ true) ↔ ToBeOpen after b d
  exactly-kept b d =
      upd2-all s.opens u k (still_open s.setup.desks (mark w i done)) (λ (b d : ℕ) (o : Option Open). (not (is_none o) ≡ true) ↔ ToBeOpen after b d) b d
      (λ p q. rw (p, q, none_still s.setup.desks (mark w i done)) this_exactly)
      (λ ne. Iff-trans (f.open-exactly b d) (exactly_grown grown b d (down b d ne)))

  pub open-same : (b d : ℕ) → (b ≡ u → d ≡ k → ⊥) → is_open after b d ≡ is_open s b d
  open-same b d ne = rw (upd2-other s.opens u k (still_open s.setup.desks (mark w i done)) b d ne)

  pub frame-kept : Ranges after → Clocks after → Frame after
  frame-kept r q = record { ranges = r; counts = counts; clocks = q; cell = cell-kept; open-exactly = exactly-kept; open-write = open_kept }

  -- nothing changes at another desk
  pub quiet-kept : (j : ℕ) → j ≢ i → Quiet s j → HeldWaits s j u w → Quiet after j
  quiet-kept j ne q h =
      upd2-some (λ b d z. HeldWaits after j b z) s.opens u k (still_open s.setup.desks (mark w i done))
      (λ z e m. let n = still_is s.setup.desks (mark w i done) z e in
      let o : upd w.marks i done j ≡ held = rw (← n) at m in
      rw (← n, row j ne) (h (sym (upd_other w.marks i done j ne) ∙ o)))
      (λ b d z nz e m. rw (row j ne) (q b d z e m))

one-le : (b : Bool) → one b ≤ 1
one-le true = omega arith
one-le false = omega arith

pub to_be_open : {s : State} → Frame s → (u k : ℕ) {w : Open} → s.opens u k ≡ some w → ToBeOpen s u k
to_be_open f u k e = (f.open-exactly u k).0 (rw e)

-- a delivered write --

-- in the middle of a cascade at i: every rule, but that a write held at i may be ready
pub record Midway (s : State) (i : ℕ) : Type 0 where
  pub frame : Frame s
  pub quiet : (j : ℕ) → j ≢ i → Quiet s j

-- an open write that is ready at i
pub record ReadyAt (s : State) (i u k : ℕ) (w : Open) : Type 0 where
  pub desk : In s.setup.desks i
  pub is : s.opens u k ≡ some w
  pub ready : ready s.setup.desks (s.applied i) u w.vector ≡ true

-- what is ready is the writer's next, of another desk, and its vector is covered
pub record NextAt (s : State) (i u k : ℕ) (w : Open) : Type 0 where
  pub writer : In s.setup.desks u
  pub other : u ≢ i
  pub next : suc (s.applied i u) ≡ k
  pub known : k ≤ written s u
  pub rest : (t : ℕ) → t ≢ u → w.vector t ≤ s.applied i t

pub ready-next : {s : State} {i u k : ℕ} {w : Open} → Frame s → ReadyAt s i u k w → NextAt s i u k w
ready-next {s} {i} {u} {k} {w} f r = record {
  writer = b.writer;
  other = λ e. (omega (arith, next, b.number.1, ap (λ (j : ℕ). s.applied j u) e));
  next = next;
  known = b.number.1;
  rest = λ t ne.
      same_or (w.vector t) 0 (λ e. omega arith)
      (λ e. passes-rest (s.applied i) u w.vector t ne (at t (f.counts.inside t t (omega (arith, o.issued t))).0));
}
  where
    b : ToBeOpen s u k
    b = to_be_open f u k r.is

    o : OpenWrite s u k w
    o = f.open-write u k w r.is

    at : (t : ℕ) → In s.setup.desks t → fails (s.applied i) u w.vector t ≡ false
    at = ready_at_lem s.setup.desks (s.applied i) u w.vector r.ready

    next : suc (s.applied i u) ≡ k
    next = passes-own (s.applied i) u w.vector (at u b.writer) ∙ o.number

module _ {s : State} {i u k : ℕ} {w : Open} (f : Frame s) (r : ReadyAt s i u k w) where
  pub arrives : MayApply s i u k w
  arrives =
      let n = ready-next f r in
      let o = f.open-write u k w r.is in
      record {
        desk = r.desk;
        writer = n.writer;
        next = n.next;
        known = λ _. n.known;
        cell = o.cell;
        status_in = o.status_in;
        number = o.number;
        rest = n.rest;
        marks = λ j _. marks_of_lem o j;
      }

  -- no own count changes
  pub apply-written : (t : ℕ) → written (apply s i u k w) t ≡ written s t
  apply-written t = same f s.clock arrives t t (λ p q. (ready-next f r).other (sym q ∙ p))

  apply-few : open_count (apply s i u k w) ≤ open_count s
  unfolding open_count
  apply-few = sum-le s.setup.desks _ _ (λ b _ _. rw (apply-written b) (sum-le (written s b) _ _ (λ d _ _. at b d)))
    where
      at : (b d : ℕ) → one (is_open (apply s i u k w) b d) ≤ one (is_open s b d)
      at b d =
          same_pair_or b d u k
          (λ p q. rw (p, q, r.is) (one-le (is_open (apply s i u k w) u k)))
          (λ ne. rw (open-same f s.clock arrives b d ne) (omega arith))

  apply-frame : Frame (apply s i u k w)
  apply-frame =
      let more = (grown f s.clock arrives).more in
      frame-kept f s.clock arrives
      (record {
        desks = f.ranges.desks;
        cells = f.ranges.cells;
        written = λ t. omega (arith, apply-written t, f.ranges.written t);
        few = omega (arith, apply-few, f.ranges.few);
      })
      (record { below = λ j t. omega (arith, f.clocks.below j t, more j t); own = λ j. omega (arith, f.clocks.own j, apply-written j) })

pub apply_midway : {s : State} {i u k : ℕ} {w : Open} → Midway s i → ReadyAt s i u k w → Midway (apply s i u k w) i
apply_midway {s} {i} {u} {k} {w} m r =
    let f = m.frame in
    record { frame = apply-frame f r; quiet = λ j ne. quiet-kept f s.clock (arrives f r) j ne (m.quiet j ne) (m.quiet j ne u k w r.is) }

-- a write of the desk itself --

module _ {s : State} (f : Frame s) (i x v : ℕ) (hi : In s.setup.desks i) (hx : In s.setup.cells x) (hv : v ≤ most_status) where
  pub issues : MayApply s i i (next_number s i) (new_write s i x v)
  issues = record {
    desk = hi;
    writer = hi;
    next = omega (arith, f.clocks.own i);
    known = λ ne. absurd (ne refl);
    cell = hx;
    status_in = hv;
    number = upd_same (s.clock i) i (next_number s i);
    rest = λ t ne. rw (upd_other (s.clock i) i (next_number s i) t ne) (f.clocks.below i t);
    marks = λ j ne. record {
      small = omega arith;
      flat = λ h. absurd (omega arith);
      marked = λ h. (λ e. absurd (omega arith), λ l. absurd (omega (arith, f.counts.most j i, f.clocks.own i)));
      below = λ e. absurd (omega arith);
    };
  }

  abbrev rose : ℕ → Vec
  rose = (raise s i).clock

  clock-after : (j : ℕ) → Clock (write s i x v) j (rose j)
  clock-after j =
      upd-all s.clock i (next_vector s i) (Clock (write s i x v)) j
      (λ e. rw e (record { below = vector-below f rose issues; own = issues.number ∙ sym (here f rose issues) }))
      (λ e. let q = row f rose issues j e in record { below = rw q (f.clocks.below j); own = rw q (f.clocks.own j) })

  few-after : open_count (write s i x v) ≤ suc (open_count s)
  unfolding open_count sum
  few-after = sum-one-le s.setup.desks _ _ i own_row (λ j ne. rw (same f rose issues j j (λ p q. ne p)) (old_rows j (λ d l p q. ne p)))
    where
      old_rows : (j : ℕ) → ((d : ℕ) → d ≤ written s j → j ≡ i → d ≡ next_number s i → ⊥)
          → tally (written s j) (is_open (write s i x v) j) ≤ tally (written s j) (is_open s j)
      old_rows j ne = sum-le (written s j) _ _ (λ d _ l. rw (open-same f rose issues j d (ne d l)) (omega arith))

      own_row : tally (written (write s i x v) i) (is_open (write s i x v) i) ≤ suc (tally (written s i) (is_open s i))
      own_row =
          rw (upd2-same s.applied i i (suc (s.applied i i)))
          (omega (arith, one-le (is_open (write s i x v) i (suc (written s i))), old_rows i (λ d l p q. (omega (arith, f.clocks.own i)))))

  frame-after : written s i < most_writes → open_count s < most_open → Frame (write s i x v)
  frame-after hw ho =
      frame-kept f rose issues
      (record {
        desks = f.ranges.desks;
        cells = f.ranges.cells;
        written = λ u.
            same_or u i
            (λ e. rw e (omega (arith, here f rose issues, issues.next)))
            (λ e. omega (arith, same f rose issues u u (λ p q. e p), f.ranges.written u));
        few = omega (arith, few-after);
      })
      (record { below = λ j. (clock-after j).below; own = λ j. (clock-after j).own })

  -- what is held at i has had enough of i's own writes
  own-quiet : Quiet s i → Quiet (write s i x v) i
  own-quiet q =
      upd2-some (λ b d z. HeldWaits (write s i x v) i b z) s.opens i (next_number s i) (still_open s.setup.desks (mark (new_write s i x v) i done))
      (λ z e m. let n = still_is s.setup.desks (mark (new_write s i x v) i done) z e in
      let o : upd (new_write s i x v).marks i done i ≡ held = rw (← n) at m in
      absurd (omega (arith, upd_same (new_write s i x v).marks i done)))
      (λ b d z ne e m. rw (upd2-here s.applied i i (suc (s.applied i i)))
      (still s.setup.desks (s.applied i) b z.vector i (not_own b d z e m) ((f.open-write b d z e).issued i) ∙ q b d z e m))
    where
      not_own : (b d : ℕ) (z : Open) → s.opens b d ≡ some z → z.marks i ≡ held → b ≢ i
      not_own b d z e m p =
          let l : d ≤ s.applied i b = omega (arith, (to_be_open f b d e).number.1, ap (λ (j : ℕ). s.applied j b) p) in
          omega (arith, ((f.open-write b d z e).marked i hi).1 l)

pub write-rules : {s : State} → Rules s → (i x v : ℕ) → In s.setup.desks i → In s.setup.cells x → v ≤ most_status
    → written s i < most_writes → open_count s < most_open → Rules (write s i x v)
write-rules {s} r i x v hi hx hv hw ho = record {
  frame = frame-after r.frame i x v hi hx hv hw ho;
  quiet = λ j.
      same_or j i (λ e. rw e (own-quiet r.frame i x v hi hx hv (r.quiet i)))
      (λ e. quiet-kept r.frame (raise s i).clock (issues r.frame i x v hi hx hv) j e (r.quiet j) (λ m. absurd (omega arith)));
}
