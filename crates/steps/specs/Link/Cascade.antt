-- The cascade on a desk's counts and the two lent arrays: one write applied, and what is due, are the machine's.
use Rattle.std.specs.Prelude.{◌+◌, ◌-◌, ◌*◌, ◌<◌, ◌≤◌, ◌≡◌, ◌∷◌, ◌++◌, ◌&&◌}
use Rattle.std.specs.Prelude as std
use Rattle.laws.specs.Kit.{ℕ, zero, suc, refl, sym, ap, subst, ◌∙◌, List, [], append_assoc}
use Rattle.laws.specs.Kit.{append-nil, map, Bool, true, false, Option, none, some, arith, add-one, lt-ltb, le-ltb, ne_eqb, length, length-map, get_or}
use Rattle.laws.specs.{Kit.{set, length-set, ltb, eqb, sets}, Loop.{pick, cases, scan, scan-same}, Stores.{sets_append}, Update.{upd, upd2}}
use Rattle.laws.specs.Update.{upd_same, upd_other, upd2-is, same_or}
use Rattle.clock.specs.{Vectors.{places, place, place_at, raised, place-raised}, Readiness.{ready_at, ready-narrow}}
use Rattle.machine.specs.Table as machine
use Rattle.machine.specs.{Table.{Vec, State, most_open, most_writes, done, held, Name as MachineName, name, written}, Steps.{ready}}
use Rattle.machine.specs.Steps.{everywhere, still_open, mark, apply, due_open, due, first_due, Settled, apply_next, settle_by, settle}
use Rattle.machine.specs.Rules.{In, Flat}
use Rattle.machine.proofs.Apply.{to_be_open, apply-written}
use Rattle.machine.proofs.RulesKept.{Midway, ReadyAt, ready-next}
use Rattle.machine.proofs.RulesKept.{apply_midway, left_to_apply, apply-left, left-few}
use Rattle.machine.proofs.Ready.{option_all}
use Rattle.reply.specs.{declared.Name.{Name}, Meaning.{names_of}, Names.{length-names, names-none, names_more}, Unique.{name_for}}
use Rattle.std.proofs.lemmas.List.{map-append}
use Rattle.table.specs.{declared.Cell.{Cell}, declared.Open.{Open}}
use Rattle.table.specs.Value.{desk_cells, all_cells, entries, cell_at, put_cell, cell_at_put, cell_at-other, CellsShape, OpensShape}
use Rattle.table.specs.Value.{shape-put_cell, FullCell, open_at, put_mark, free_entry, shape-put_mark, shape-free_entry}
use Rattle.table.specs.{EntryNames.{named_at, named-is}, Model.{open_m, slot, cells_m, opens_m, cell_put}, Link.OpensModel.{Unique, opens_at}}
use Rattle.table.specs.{Link.OpensModel.{opens-mark, unique-mark, open_m-mark, opens_mark_free, unique_mark_free}, Sound.{AllZero}}

-- b with other counts at desk i, other cells and other open writes
abbrev pub midst : State → ℕ → List ℕ → List Cell → List Open → State
midst b i a cs os = record {
  setup = b.setup;
  applied = upd b.applied i (place a);
  clock = b.clock;
  cell = cells_m cs;
  opens = opens_m os;
}

-- a desk's counts and the two arrays, part of a table that keeps every rule but that a write held at i may be ready
pub record Running (b : State) (n i : ℕ) (a own : List ℕ) (cs : List Cell) (os : List Open) : Type 0 where
  pub count : b.setup.desks ≡ n
  pub mid : Midway (midst b i a cs os) i
  pub desk : In n i
  pub blanks : (s : ℕ) → s < all_cells → (cell_at cs s).writer ≡ 0 → AllZero (cell_at cs s)
  pub unique : Unique os
  pub own_counts : (u : ℕ) → In places u → place own u ≡ written (midst b i a cs os) u
  pub counts_size : length a ≡ places
  pub cells_shape : CellsShape cs
  pub opens_shape : OpensShape os

-- entry e holds u's next write, and it is ready
pub record NextReady (n : ℕ) (a : List ℕ) (os : List Open) (u e : ℕ) : Type 0 where
  pub small : e < entries
  pub holds : named_at os u (suc (place a u)) e ≡ true
  pub is_ready : ready n (place a) u (place (open_at os e).vector) ≡ true

-- one write applied, on the values --

abbrev pub cell_of_write : Open → Cell
cell_of_write o = record { writer = o.writer; status = o.status; vector = o.vector }

-- handed back when all n desks have applied it
abbrev pub closed : ℕ → List Open → ℕ → List Open
closed n l e = pick (everywhere n (open_m (open_at l e))) (free_entry l e) l

pub record AppliedAt (n i e : ℕ) (cs : List Cell) (os : List Open) (cs' : List Cell) (os' : List Open) : Type 0 where
  pub cells_are : cs' ≡ put_cell cs (slot i (open_at os e).cell) (cell_of_write (open_at os e))
  pub opens_are : os' ≡ closed n (put_mark os e (i - 1) done) e

module _ {b : State} {n i : ℕ} {a own : List ℕ} {cs : List Cell} {os : List Open} (r : Running b n i a own cs os) where
  abbrev s : State
  s = midst b i a cs os

  pub small_n : n ≤ places
  small_n = omega (arith, r.count, r.mid.frame.ranges.desks.1)

  pub in_places : (u : ℕ) → In n u → In places u
  in_places u h = (h.0, (let l = small_n in omega (arith, h.1)))

  pub here : (t : ℕ) → s.applied i t ≡ place a t
  here t = ap (λ (v : Vec). v t) (upd_same b.applied i (place a))

  -- what is open has nothing past n in its vector
  pub flat : (u k : ℕ) (w : machine.Open) → opens_m os u k ≡ some w → Flat n w.vector
  flat u k w e t l = rw r.count at (r.mid.frame.counts.inside t t (omega (arith, (r.mid.frame.open-write u k w e).issued t))).0

  pub narrow : (u k : ℕ) (w : machine.Open) → In n u → opens_m os u k ≡ some w → ready places (place a) u w.vector ≡ ready n (place a) u w.vector
  narrow u k w h e = ready-narrow n places (place a) u w.vector (flat u k w e) h.1 small_n

  module _ {u e : ℕ} (d : NextReady n a os u e) where
    abbrev k : ℕ
    k = suc (place a u)

    abbrev w : machine.Open
    w = open_m (open_at os e)

    pub ready_at_lem : ReadyAt s i u k w
    ready_at_lem = record {
      desk = rw r.count r.desk;
      is = opens_at os e u k r.unique d.small d.holds;
      ready = rw (r.count, upd_same b.applied i (place a)) d.is_ready;
    }

    writer_in : In n u
    writer_in = rw r.count at (ready-next r.mid.frame ready_at_lem).writer

    pub cell_in_range : In desk_cells (open_at os e).cell
    cell_in_range =
        let c = (r.mid.frame.open-write u k w ready_at_lem.is).cell in
        (c.0, (omega (arith, c.1, r.mid.frame.ranges.cells.1)))

    writer-is : (open_at os e).writer ≡ u
    writer-is = (named-is (open_at os e) u k d.holds).1

    full : FullCell (cell_of_write (open_at os e))
    full = record { vector = (r.opens_shape.each e d.small).vector }

    pi : In places i
    pi = in_places i r.desk

    counted : upd b.applied i (place (raised a u)) ≡ upd2 s.applied i u (suc (s.applied i u))
    counted =
        upd2-is s.applied i u (suc (s.applied i u)) (upd b.applied i (place (raised a u)))
        (at u ∙ upd_same (place a) u (suc (place a u)) ∙ ap suc (sym (here u)))
        (λ j y ne. same_or j i
        (λ p. rw p (at y ∙ upd_other (place a) u (suc (place a u)) y (ne p) ∙ sym (here y)))
        (λ p. rw (upd_other b.applied i (place (raised a u)) j p, upd_other b.applied i (place a) j p)))
      where
        at : (t : ℕ) → upd b.applied i (place (raised a u)) i t ≡ upd (place a) u (suc (place a u)) t
        at t =
            ap (λ (v : Vec). v t)
            (upd_same b.applied i (place (raised a u)) ∙ place-raised a u writer_in.0 (omega (arith, r.counts_size, (in_places u writer_in).1)))

    module _ {cs' : List Cell} {os' : List Open} (ap' : AppliedAt n i e cs os cs' os') where
      celled : cells_m cs' ≡ upd2 (cells_m cs) i (open_at os e).cell (machine.set (open_at os e).status u (place (open_at os e).vector))
      celled =
          let z : (open_at os e).writer ≡ 0 → ⊥ = (λ q. (omega (arith, writer-is, writer_in.0))) in
          rw ap'.cells_are
          (cell_put cs i (open_at os e).cell (cell_of_write (open_at os e)) pi cell_in_range r.cells_shape.count
          ∙ rw (ne_eqb (open_at os e).writer 0 z, writer-is))

      -- its entry is freed exactly if all desks have applied it
      entry_cases : (P : List Open → Type 0)
          → (everywhere n (mark w i done) ≡ true → P (free_entry (put_mark os e (i - 1) done) e))
          → (everywhere n (mark w i done) ≡ false → P (put_mark os e (i - 1) done)) → P os'
      entry_cases P f g =
          let m = open_m-mark os e u k d.small r.opens_shape.count r.unique d.holds (r.opens_shape.each e d.small) i done pi in
          cases (everywhere n (mark w i done))
          (λ t. rw (ap'.opens_are, m, t) (f t))
          (λ t. rw (ap'.opens_are, m, t) (g t))

      opened : opens_m os' ≡ upd2 (opens_m os) u k (still_open b.setup.desks (mark w i done))
      opened =
          rw r.count (entry_cases (λ (l : List Open). opens_m l ≡ upd2 (opens_m os) u k (still_open n (mark w i done)))
          (λ t. rw (t, still_open) (opens_mark_free os e u k d.small r.opens_shape.count r.unique d.holds i done pi))
          (λ t. rw (t, still_open) (opens-mark os e u k d.small r.opens_shape.count r.unique d.holds (r.opens_shape.each e d.small) i done pi)))

      unique-after : Unique os'
      unique-after =
          entry_cases Unique
          (λ t. unique_mark_free os e u k d.small r.opens_shape.count r.unique d.holds i done pi)
          (λ t. unique-mark os e u k d.small r.opens_shape.count r.unique d.holds i done pi)

      shape-after : OpensShape os'
      shape-after =
          let h = shape-put_mark os e d.small r.opens_shape (i - 1) done in
          entry_cases OpensShape (λ t. shape-free_entry (put_mark os e (i - 1) done) e d.small h) (λ t. h)

      blanks-after : (z : ℕ) → z < all_cells → (cell_at cs' z).writer ≡ 0 → AllZero (cell_at cs' z)
      blanks-after z hz =
          let x = slot i (open_at os e).cell in
          let c = cell_of_write (open_at os e) in
          rw ap'.cells_are
          (same_or z x
          (λ p. let b : x < all_cells = omega (arith, pi.0, pi.1, cell_in_range.0, cell_in_range.1) in
          rw (p, cell_at_put cs x c b r.cells_shape.count) (λ q. absurd (omega (arith, writer-is, writer_in.0))))
          (λ p. rw (cell_at-other cs x c z p) (r.blanks z hz)))

      pub apply-is : midst b i (raised a u) cs' os' ≡ apply s i u k w
      apply-is = λ j. record { setup = b.setup; applied = counted j; clock = b.clock; cell = celled j; opens = opened j }

      pub running-after : Running b n i (raised a u) own cs' os'
      running-after = record {
        count = r.count;
        mid = rw apply-is (apply_midway r.mid ready_at_lem);
        desk = r.desk;
        blanks = blanks-after;
        unique = unique-after;
        own_counts = λ t h. r.own_counts t h ∙ sym (apply-written r.mid.frame ready_at_lem t) ∙ sym (ap (λ (x : State). written x t) apply-is);
        counts_size = length-set a (u - 1) (place a u + 1) ∙ r.counts_size;
        cells_shape = rw ap'.cells_are (shape-put_cell cs (slot i (open_at os e).cell) (cell_of_write (open_at os e)) full r.cells_shape);
        opens_shape = shape-after;
      }

-- what is due, on the values --

abbrev pub due_one : List ℕ → ℕ → ℕ → Option machine.Open → Bool
due_one a i u none = false
due_one a i u (some w) = eqb (w.marks i) held && ready places (place a) u w.vector

-- u has more writes than the desk has applied, and its next is held and ready
unfoldable pub due_in : List ℕ → List ℕ → List Open → ℕ → ℕ → Bool
due_in a own os i u = pick (ltb (place a u) (place own u)) (due_one a i u (opens_m os u (suc (place a u)))) false

-- what the test of one writer yields: the entry, or that nothing is due
pub record DueAt (a own : List ℕ) (os : List Open) (i u e : ℕ) : Type 0 where
  pub is_due : due_in a own os i u ≡ true
  pub small : e < entries
  pub holds : named_at os u (suc (place a u)) e ≡ true
  pub is_ready : ready_at a (open_at os e).vector u ≡ true

abbrev pub DueSays : List ℕ → List ℕ → List Open → ℕ → ℕ → std.Option ℕ → Type 0
DueSays a own os i u (std.Some e) = DueAt a own os i u e
DueSays a own os i u std.None = due_in a own os i u ≡ false

module _ (a own : List ℕ) (os : List Open) (i u : ℕ) where
  pub due-at : (r : std.Option ℕ) (e : ℕ) → DueSays a own os i u r → r ≡ std.Some e → DueAt a own os i u e
  due-at r e f q = rw q at f

  pub due-not : (r : std.Option ℕ) → DueSays a own os i u r → r ≡ std.None → due_in a own os i u ≡ false
  due-not r f q = rw q at f

  pub due_late : place own u ≤ place a u → due_in a own os i u ≡ false
  unfolding due_in
  due_late l = rw (le-ltb (place a u) (place own u) l)

  pub due-none : opens_m os u (suc (place a u)) ≡ none → due_in a own os i u ≡ false
  unfolding due_in
  due-none e = rw e (cases (ltb (place a u) (place own u)) (λ t. rw t) (λ t. rw t))

  pub due-some : (w : machine.Open) → place a u < place own u → opens_m os u (suc (place a u)) ≡ some w
      → due_in a own os i u ≡ (eqb (w.marks i) held && ready places (place a) u w.vector)
  unfolding due_in
  due-some w l e = rw (lt-ltb (place a u) (place own u) l, e)

  -- by the entry's mark, as the code reads it
  pub due-held : (e m : ℕ) → 1 ≤ i → place a u < place own u → Unique os → e < entries → named_at os u (suc (place a u)) e ≡ true → m ≡ get_or (open_at os e).marks (i - 1) 0
      → due_in a own os i u ≡ (eqb m held && ready_at a (open_at os e).vector u)
  due-held e m hi l q h t p =
      due-some (open_m (open_at os e)) l (opens_at os e u (suc (place a u)) q h t)
      ∙ ap (λ (x : ℕ). eqb x held && ready_at a (open_at os e).vector u) (place_at (open_at os e).marks i hi ∙ sym p)

module _ {b : State} {n i : ℕ} {a own : List ℕ} {cs : List Cell} {os : List Open} (r : Running b n i a own cs os) where
  due-is : (u : ℕ) → In n u → due_in a own os i u ≡ due (midst b i a cs os) i u
  due-is u h =
      rw (here r u) (option_all (λ o. due_in a own os i u ≡ due_open (midst b i a cs os) i u o) (opens_m os u (suc (place a u)))
      (due-none a own os i u)
      (λ w e. let f = to_be_open r.mid.frame u (suc (place a u)) e in
      let l : place a u < place own u = omega (arith, f.number.1, r.own_counts u (in_places r u h)) in
      due-some a own os i u w l e
      ∙ ap (λ (x : Bool). eqb (w.marks i) held && x) (narrow r u (suc (place a u)) w h e
      ∙ rw (r.count, upd_same b.applied i (place a)))))

  pub first-is : scan (due_in a own os i) some none n 1 ≡ first_due (midst b i a cs os) i
  unfolding first_due
  first-is =
      scan-same (due_in a own os i) (due (midst b i a cs os) i) some none n 1 (λ k l h. due-is k (l, omega arith))
      ∙ ap (λ (x : ℕ). scan (due (midst b i a cs os) i) some none x 1) (sym r.count)

  pub next_of : {u e : ℕ} → In n u → DueAt a own os i u e → NextReady n a os u e
  next_of {u} {e} h d = record {
    small = d.small;
    holds = d.holds;
    is_ready =
        sym (narrow r u (suc (place a u)) (open_m (open_at os e)) h (opens_at os e u (suc (place a u)) r.unique d.small d.holds))
        ∙ d.is_ready;
  }

-- the names so far --

-- name j of the array beside the answer
pub record NamePut (names : List Name) (j u k : ℕ) (names' : List Name) : Type 0 where
  pub is : names' ≡ set names j record { writer = u; number = k }
  pub size : length names ≡ most_open

-- the array holds the names so far and is else as it came
abbrev pub NamesSoFar : List Name → ℕ → List Name → Type 0
NamesSoFar names₀ j names = names ≡ sets names₀ 0 (map name_for (names_of j names))

pub holds-none : (names : List Name) → NamesSoFar names 0 names
holds-none names = rw (names-none names)

module _ {names names' : List Name} {j u k : ℕ} (h : j < most_open) (p : NamePut names j u k names') where
  pub more-names : names_of (j + 1) names' ≡ names_of j names ++ (name u k ∷ [])
  more-names = rw p.is (names_more names j record { writer = u; number = k } h (omega (arith, p.size)))

  pub holds_more : (names₀ : List Name) → NamesSoFar names₀ j names → NamesSoFar names₀ (j + 1) names'
  holds_more names₀ q =
      let l = map name_for (names_of j names) in
      let z : 0 + length l ≡ j = omega (arith, length-map (names_of j names) name_for, length-names j names (omega arith)) in
      sym (rw more-names (ap (sets names₀ 0) (map-append name_for (names_of j names) (name u k ∷ []))
      ∙ sets_append l (name_for (name u k) ∷ []) names₀ 0
      ∙ rw (z, ← q) (rw p.is)))

-- the cascade --

-- the machine's cascade from here on, behind the names so far
abbrev pub behind : List MachineName → Settled → Settled
behind l r = record { names = l ++ r.names; state = r.state }

-- u's next write w is applied, and then all that becomes ready, in at most f turns
abbrev pub from : ℕ → State → ℕ → ℕ → machine.Open → Settled
from f s i u w = apply_next (λ s'. settle f s' i) s i u (some w)

settle-none : (f : ℕ) (s : State) (i : ℕ) → first_due s i ≡ none → settle f s i ≡ record { names = []; state = s }
unfolding settle
settle-none zero s i e = refl
settle-none (suc f) s i e = rw e

settle-some : (f : ℕ) (s : State) (i u : ℕ) (w : machine.Open) → first_due s i ≡ some u → s.opens u (suc (s.applied i u)) ≡ some w
    → settle (suc f) s i ≡ from f s i u w
unfolding settle
settle-some f s i u w e o = rw (e, settle_by, o)

-- what all turns give, whole, is the names so far and what follows here: entry e, a write of u, is applied next
pub record CascadeGoing (whole : Settled) (b : State) (n i : ℕ) (a own : List ℕ) (cs : List Cell) (os : List Open) (names₀ names : List Name) (len u e : ℕ) : Type 0 where
  pub now : Running b n i a own cs os
  pub next : NextReady n a os u e
  pub room : len + left_to_apply (midst b i a cs os) i ≤ most_open
  pub holds : NamesSoFar names₀ len names
  pub same : whole ≡ behind (names_of len names) (from (most_open - len) (midst b i a cs os) i u (open_m (open_at os e)))

pub record Safe (n i : ℕ) (a : List ℕ) (os : List Open) (len u e : ℕ) : Type 0 where
  pub count : n ≤ places
  pub desk : In places i
  pub writer : In places u
  pub small : e < entries
  pub cell : In desk_cells (open_at os e).cell
  pub number : get_or a (u - 1) 0 < most_writes
  pub room : len < most_open
  pub size : length a ≡ places

-- the same once it is applied, before the search
pub record Gone (whole : Settled) (b : State) (n i : ℕ) (a own : List ℕ) (cs : List Cell) (os : List Open) (names₀ names : List Name) (len : ℕ) : Type 0 where
  pub now : Running b n i a own cs os
  pub room : len + left_to_apply (midst b i a cs os) i ≤ most_open
  pub holds : NamesSoFar names₀ len names
  pub same : whole ≡ behind (names_of len names) (settle (suc (most_open - len)) (midst b i a cs os) i)

-- the end
pub record Ended (whole : Settled) (b : State) (n i : ℕ) (a own : List ℕ) (cs : List Cell) (os : List Open) (names₀ names : List Name) (len : ℕ) : Type 0 where
  pub now : Running b n i a own cs os
  pub few : len ≤ most_open
  pub holds : NamesSoFar names₀ len names
  pub same : whole ≡ record { names = names_of len names; state = midst b i a cs os }

pub going-starts : {b : State} {n i : ℕ} {a own : List ℕ} {cs : List Cell} {os : List Open} {u e : ℕ} (names : List Name) → Running b n i a own cs os → NextReady n a os u e
    → CascadeGoing (from most_open (midst b i a cs os) i u (open_m (open_at os e))) b n i a own cs os names names 0 u e
going-starts {b} {n} {i} {a} {own} {cs} {os} names r d = record {
  now = r;
  next = d;
  room = omega (arith, left-few r.mid.frame i (rw r.count r.desk), r.mid.frame.ranges.few);
  holds = holds-none names;
  same = rw (names-none names);
}

module _ {whole : Settled} {b : State} {n i : ℕ} {a own : List ℕ} {cs : List Cell} {os : List Open} {names₀ names : List Name} {len u e : ℕ}
    (g : CascadeGoing whole b n i a own cs os names₀ names len u e) where
  going-room : len < most_open
  going-room = omega (arith, g.room, apply-left g.now.mid.frame (ready_at_lem g.now g.next))

  going-writer : In n u
  going-writer = writer_in g.now g.next

  -- its number is no larger than the largest
  going-number : place a u < most_writes
  going-number =
      let f = g.now.mid.frame in
      omega (arith, (ready-next f (ready_at_lem g.now g.next)).known, f.ranges.written u)

  -- what a turn of the code needs
  pub going_safe : Safe n i a os len u e
  going_safe =
      let h = in_places g.now u going-writer in
      record {
        count = small_n g.now;
        desk = in_places g.now i g.now.desk;
        writer = h;
        small = g.next.small;
        cell = cell_in_range g.now g.next;
        number = omega (arith, place_at a u h.0, going-number);
        room = going-room;
        size = g.now.counts_size;
      }

  -- a turn
  pub going-applied : {cs' : List Cell} {os' : List Open} {names' : List Name} → AppliedAt n i e cs os cs' os' → NamePut names len u (place a u + 1) names'
      → Gone whole b n i (raised a u) own cs' os' names₀ names' (len + 1)
  going-applied {cs'} {os'} {names'} t p =
      let is = apply-is g.now g.next t in
      let l = apply-left g.now.mid.frame (ready_at_lem g.now g.next) in
      let f : suc (most_open - (len + 1)) ≡ most_open - len = omega (arith, going-room) in
      record {
        now = running-after g.now g.next t;
        room = rw is (omega (arith, g.room));
        holds = holds_more going-room p names₀ g.holds;
        same =
            g.same
            ∙ sym (rw (f, is, more-names going-room p, add-one (place a u), append_assoc, here g.now u));
      }

  -- as the code stores the count
  pub going-turn : {cs' : List Cell} {os' : List Open} {names' : List Name} {v : ℕ} → v ≡ u → AppliedAt n i e cs os cs' os' → NamePut names len v (get_or a (u - 1) 0 + 1) names'
      → Gone whole b n i (set a (u - 1) (get_or a (u - 1) 0 + 1)) own cs' os' names₀ names' (len + 1)
  going-turn {cs'} {os'} {names'} {v} q t p =
      subst (λ (x : ℕ). NamePut names len u (x + 1) names' → Gone whole b n i (set a (u - 1) (x + 1)) own cs' os' names₀ names' (len + 1))
      (place_at a u going-writer.0) (going-applied t) (rw q at p)

module _ {whole : Settled} {b : State} {n i : ℕ} {a own : List ℕ} {cs : List Cell} {os : List Open} {names₀ names : List Name} {len : ℕ}
    (g : Gone whole b n i a own cs os names₀ names len) where
  -- nothing is due
  pub gone_ends : scan (due_in a own os i) some none n 1 ≡ none → Ended whole b n i a own cs os names₀ names len
  gone_ends e =
      record {
        now = g.now;
        few = omega (arith, g.room);
        holds = g.holds;
        same =
            g.same
            ∙ ap (behind (names_of len names)) (settle-none (suc (most_open - len)) (midst b i a cs os) i (sym (first-is g.now) ∙ e))
            ∙ rw append-nil;
      }

  -- the search's entry is next
  pub gone_on : {u e : ℕ} → In n u → scan (due_in a own os i) some none n 1 ≡ some u → DueAt a own os i u e
      → CascadeGoing whole b n i a own cs os names₀ names len u e
  gone_on {u} {e} h f d =
      let x = next_of g.now h d in
      record {
        now = g.now;
        next = x;
        room = g.room;
        holds = g.holds;
        same =
            g.same
            ∙ ap (behind (names_of len names)) (settle-some (most_open - len) (midst b i a cs os) i u (open_m (open_at os e))
            (sym (first-is g.now) ∙ f)
            (rw (here g.now u) (ready_at_lem g.now x).is));
      }

-- what the cascade's code needs and does, for every state that the values are a part of --

abbrev pub CascadeStarts : (n i u e : ℕ) (a own : List ℕ) (cs : List Cell) (os : List Open) → Type 0
CascadeStarts n i u e a own cs os = (b : State) × Running b n i a own cs os × NextReady n a os u e

abbrev pub CascadeDoes : (n i u e : ℕ) (a own : List ℕ) (cs : List Cell) (os : List Open) (names : List Name) (a' : List ℕ) (len : ℕ) (cs' : List Cell) (os' : List Open) (names' : List Name) → Type 0
CascadeDoes n i u e a own cs os names a' len cs' os' names' =
    (b : State) → Running b n i a own cs os → NextReady n a os u e
    → Ended (from most_open (midst b i a cs os) i u (open_m (open_at os e))) b n i a' own cs' os' names names' len
