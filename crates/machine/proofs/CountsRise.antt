-- What stays as it was where counts only rise; so a beginning, a read and a hold keep the rules.
use Rattle.std.specs.Prelude.{◌≡◌, ◌↔◌, ◌≤◌, ◌<◌}
use Rattle.laws.specs.Kit.{refl, sym, ap, fun_ext, Iff-trans, Bool, true, false, not, some, Option, ℕ, arith}
use Rattle.laws.specs.{Says.{apart}, Sum.{sum, tally, sum-zero}, Update.{upd-all, upd2-all, upd2-some}}
use Rattle.machine.specs.Table.{most_desks, most_cells, most_status, Vec, Cell, blank, set, away, held, done, Open, State, fresh}
use Rattle.machine.specs.{Table.{written}, Steps.{is_none, ready, read_clock, read, mark, hold, is_open, open_count}, Rules.{In, Below}}
use Rattle.machine.specs.Rules.{Issued, Clocks, SetCell, ToBeOpen, OpenWrite, Frame, Rules}
use Rattle.machine.proofs.Ready.{not-both}

-- of one write: "it is marked 1 only if not ready"
abbrev pub HeldWaits : State → ℕ → ℕ → Open → Type 0
HeldWaits s j u w = w.marks j ≡ held → ready s.setup.desks (s.applied j) u w.vector ≡ false

-- the rules for the mark p of the write u.k with vector v at desk j
pub record MarkRules (s : State) (u k : ℕ) (v : Vec) (j p : ℕ) : Type 0 where
  pub small : p ≤ done
  pub flat : 1 ≤ p → In s.setup.desks j
  pub marked : In s.setup.desks j → (p ≡ done) ↔ (k ≤ s.applied j u)
  pub below : p ≡ done → Below v (s.applied j)

pub marks_of_lem : {s : State} {u k : ℕ} {w : Open} → OpenWrite s u k w → (j : ℕ) → MarkRules s u k w.vector j (w.marks j)
marks_of_lem o j = record { small = o.marks_in j; flat = o.marks_flat j; marked = o.marked j; below = o.below j }

pub open_of_lem : {s : State} {u k : ℕ} {w : Open} → In s.setup.cells w.cell → w.status ≤ most_status → w.vector u ≡ k → Issued s w.vector
    → ((j : ℕ) → MarkRules s u k w.vector j (w.marks j)) → OpenWrite s u k w
open_of_lem c v n i m = record {
  cell = c;
  status_in = v;
  number = n;
  issued = i;
  marks_in = λ j. (m j).small;
  marks_flat = λ j. (m j).flat;
  marked = λ j. (m j).marked;
  below = λ j. (m j).below;
}

pub record Grown (s s' : State) : Type 0 where
  pub setup : s'.setup ≡ s.setup
  pub more : (j t : ℕ) → s.applied j t ≤ s'.applied j t

module _ {s s' : State} (g : Grown s s') where
  pub cell_grown : {i x v u : ℕ} {w : Vec} → SetCell s i x v u w → SetCell s' i x v u w
  cell_grown {i} {x} {v} {u} {w} c = record {
    desk = rw g.setup c.desk;
    cell = rw g.setup c.cell;
    status_in = c.status_in;
    writer_in = rw g.setup c.writer_in;
    below = λ t. omega (arith, c.below t, g.more i t);
    first = c.first;
    issued = λ t. omega (arith, c.issued t, g.more t t);
  }

  -- the write a.c is not applied anew at j
  pub mark_grown : {a c j p : ℕ} {v : Vec} → (c ≤ s'.applied j a → c ≤ s.applied j a) → MarkRules s a c v j p → MarkRules s' a c v j p
  mark_grown {a} {c} {j} {p} down m = record {
    small = m.small;
    flat = λ h. rw g.setup (m.flat h);
    marked = λ h. (let b = m.marked (rw g.setup at h) in (λ e. omega (arith, b.0 e, g.more j a), λ l. b.1 (down l)));
    below = λ e t. omega (arith, m.below e t, g.more j t);
  }

  -- nor at any desk
  module _ (a c : ℕ) (down : (j : ℕ) → c ≤ s'.applied j a → c ≤ s.applied j a) where
    up : (j : ℕ) → s.applied j a < c → s'.applied j a < c
    up j l = let n : ¬ (c ≤ s'.applied j a) = (λ h. omega (arith, down j h)) in omega arith

    pub open-grown : {w : Open} → OpenWrite s a c w → OpenWrite s' a c w
    open-grown {w} o =
        open_of_lem (rw g.setup o.cell) o.status_in o.number (λ t. omega (arith, o.issued t, g.more t t)) (λ j. mark_grown (down j) (marks_of_lem o j))

    pub exactly_grown : ToBeOpen s a c ↔ ToBeOpen s' a c
    exactly_grown = (
      (λ o. let l = o.lacks in record {
        writer = rw g.setup o.writer;
        number = (o.number.0, omega (arith, o.number.1, g.more a a));
        lacks = record { desk = l.desk; desk_in = rw g.setup l.desk_in; lower = up l.desk l.lower };
      }),
      (λ o. let l = o.lacks in record {
        writer = rw g.setup at o.writer;
        number = (o.number.0, down a o.number.1);
        lacks = record { desk = l.desk; desk_in = rw g.setup at l.desk_in; lower = omega (arith, l.lower, g.more l.desk a) };
      }),
    )

-- the beginning --

pub fresh-rules : (n m : ℕ) → In most_desks n → In most_cells m → Rules (fresh n m)
unfolding open_count sum
fresh-rules n m hn hm = record {
  frame = record {
    ranges = record { desks = hn; cells = hm; written = λ u. omega arith; few = rw (sum-zero n) (omega arith) };
    counts = record { inside = λ i u h. absurd (omega arith); most = λ i u. omega arith };
    clocks = record { below = λ i t. omega arith; own = λ i. refl };
    cell = λ i x v u w e. absurd (let z : ◌≡◌ {A = ℕ} 0 1 = cc in omega arith);
    open-exactly = λ u k. (λ e. apart true refl (sym e), λ o. absurd (omega (arith, o.number)));
    open-write = λ u k w e. not-both refl e;
  };
  quiet = λ i u k w e. not-both refl e;
}

-- a read --

abbrev pub clocks_are : State → (ℕ → Vec) → State
clocks_are s c = record { setup = s.setup; applied = s.applied; clock = c; cell = s.cell; opens = s.opens }

-- with other clocks, and other open writes where there were some, it keeps the rules but the last
module _ {s : State} (f : Frame s) (c : ℕ → Vec) (o : ℕ → ℕ → Option Open) where
  abbrev changed : State
  changed = record { setup = s.setup; applied = s.applied; clock = c; cell = s.cell; opens = o }

  changed-frame : ((u k : ℕ) → is_open changed u k ≡ is_open s u k) → Clocks changed
      → ((u k : ℕ) (w : Open) → o u k ≡ some w → OpenWrite s u k w) → Frame changed
  unfolding open_count
  changed-frame same h each =
      let g : Grown s changed = record { setup = refl; more = λ j t. omega arith } in
      record {
        ranges = record {
          desks = f.ranges.desks;
          cells = f.ranges.cells;
          written = f.ranges.written;
          few =
              rw (ap (λ (p : ℕ → ℕ → Bool). sum s.setup.desks (λ u. tally (written s u) (p u))) (fun_ext (λ a. fun_ext (same a))))
              f.ranges.few;
        };
        counts = record { inside = f.counts.inside; most = f.counts.most };
        clocks = h;
        cell = λ i x v u w e. cell_grown g (f.cell i x v u w e);
        open-exactly = λ u k. rw (same u k) (Iff-trans (f.open-exactly u k) (exactly_grown g u k (λ j l. l)));
        open-write = λ u k w e. open-grown g u k (λ j l. l) (each u k w e);
      }

-- the clock is within the counts, and knows the desk's own writes
pub record Clock (s : State) (i : ℕ) (c : Vec) : Type 0 where
  pub below : Below c (s.applied i)
  pub own : c i ≡ s.applied i i

read-clock : {s : State} → Frame s → (i x : ℕ) (c : Cell) → s.cell i x ≡ c → Clock s i (read_clock (s.clock i) c)
read-clock {s} f i x blank e = record { below = f.clocks.below i; own = f.clocks.own i }
read-clock {s} f i x (set v u w) e =
    let b = (f.cell i x v u w e).below in
    record { below = λ t. omega (arith, b t, f.clocks.below i t); own = omega (arith, b i, f.clocks.own i) }

pub read-rules : {s : State} → Rules s → (i x : ℕ) → Rules (read s i x)
read-rules {s} r i x = record {
  frame =
      changed-frame r.frame _ s.opens (λ u k. refl) (record { below = λ j. (each j).below; own = λ j. (each j).own })
      r.frame.open-write;
  quiet = r.quiet;
}
  where
    each : (j : ℕ) → Clock s j ((read s i x).clock j)
    each j =
        upd-all s.clock i (read_clock (s.clock i) (s.cell i x)) (Clock s) j
        (λ e. rw e (read-clock r.frame i x (s.cell i x) refl))
        (λ e. record { below = r.frame.clocks.below j; own = r.frame.clocks.own j })

-- a hold --

pub hold-rules : {s : State} → Rules s → (i u k : ℕ) (w : Open) → In s.setup.desks i → s.opens u k ≡ some w → w.marks i ≡ away
    → ready s.setup.desks (s.applied i) u w.vector ≡ false → Rules (hold s i u k w)
hold-rules {s} r i u k w hi e ma nr = record {
  frame =
      changed-frame f s.clock _
      (λ a c. upd2-all s.opens u k (some (mark w i held)) (λ a c z. not (is_none z) ≡ is_open s a c) a c (λ p q. rw (p, q, e))
      (λ ne. refl))
      (record { below = f.clocks.below; own = f.clocks.own })
      (upd2-some (OpenWrite s) s.opens u k (some (mark w i held)) (λ z q. let n : mark w i held ≡ z = cc in rw (← n) this)
      (λ a c z ne q. f.open-write a c z q));
  quiet = λ j.
      upd2-some (λ a c z. HeldWaits s j a z) s.opens u k (some (mark w i held))
      (λ z q. let n : mark w i held ≡ z = cc in rw (← n) (quiet_this j))
      (λ a c z ne q. r.quiet j a c z q);
}
  where
    f : Frame s
    f = r.frame

    o : OpenWrite s u k w
    o = f.open-write u k w e

    this : OpenWrite s u k (mark w i held)
    this =
        open_of_lem o.cell o.status_in o.number o.issued
        (λ j. upd-all w.marks i held (MarkRules s u k w.vector) j
        (λ p. rw p (record {
          small = omega arith;
          flat = λ h. hi;
          marked = λ h. (λ q. absurd (omega arith), λ l. absurd (omega (arith, (o.marked i hi).1 l)));
          below = λ q. absurd (omega arith);
        }))
        (λ p. marks_of_lem o j))

    quiet_this : (j : ℕ) → HeldWaits s j u (mark w i held)
    quiet_this j =
        upd-all w.marks i held (λ j m. m ≡ held → ready s.setup.desks (s.applied j) u w.vector ≡ false) j
        (λ p q. rw p nr)
        (λ p q. r.quiet j u k w e q)
