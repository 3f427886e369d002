-- The small steps keep the table traced: read, write (its first half), receive, apply, hold.
use Rattle.std.specs.Prelude.{◌≡◌, ◌≢◌, ◌⊎◌, ◌↔◌, ◌≤◌}
use Rattle.laws.specs.Kit.{refl, sym, ◌∙◌, ap, subst, subst₂, inl, inr, Iff-trans, Iff-symm, List, some, ℕ, suc}
use Rattle.laws.specs.{Kit.{arith, dec_le, length, eq-eqb, ne_eqb}, Update.{same_or, upd_same, upd_other, upd-all, upd2-all}, Says.{clash}}
use Rattle.machine.specs.{Table.{Vec, Name, name, Cell, blank, set, done, held, Open, State}, Answer.{shown, shown_of}}
use Rattle.machine.specs.Steps.{read_clock, read, shown_at, still_open, mark, apply, hold, next_number, next_vector, raise}
use Rattle.machine.specs.{Rules.{Below}, History.{Event, read_at, write_at, receive_at, apply_at, desk_list, written_as, after_write}}
use Rattle.machine.specs.History.{latest, At, a_read, a_write, Precedes, shown_by}
use Rattle.machine.specs.Demand3.{WriteAt, Has, UpTo}
use Rattle.machine.proofs.Order.{add}
use Rattle.machine.proofs.Order.{at_one, HistoryOrdered, NewEvent, not_op, ordered-add, forward, at_old, at_new, write_old}
use Rattle.machine.proofs.Order.{upto-then, upto_old, knows_other, by_desk, by_show, LastUp, itself, through, upto-last}
use Rattle.machine.proofs.Entries.{written-some, written-found, has_keep, latest_keep, has-apply, has-applied, latest-apply}
use Rattle.machine.proofs.Entries.{mem_old}
use Rattle.machine.proofs.HistoryKeeps.{NewEntry, story-add, all-written, not_listed}
use Rattle.machine.proofs.TableTraced.{Origin, Traced, origin_write, origin_old, own-known, clock-own, onward, backward}
use Rattle.machine.proofs.TableTraced.{op-traced, other-traced}
use Rattle.machine.proofs.Ready.{still_is}

-- Read --

abbrev pub read_of : State → ℕ → ℕ → Event
read_of s i x = read_at i x (shown_at s i x)

module _ {s : State} {h : List Event} (r : Traced s h) (i x : ℕ) (low : Below (read_clock (s.clock i) (s.cell i x)) (s.applied i)) where
  -- the write that the cell shows
  cell-write : (v' u' : ℕ) (w : Vec) (q : s.cell i x ≡ set v' u' w) (v u k : ℕ) → shown v' u' (w u') ≡ shown v u k → WriteAt h (r.cell i x v' u' w q).place u k
  cell-write v' u' w q v u k z = subst₂ (WriteAt h (r.cell i x v' u' w q).place) (cc) (cc) (origin_write (r.cell i x v' u' w q))

  read-source : (c : Cell) → s.cell i x ≡ c → (v u k : ℕ) → shown_of c ≡ shown v u k → (p : ℕ) × WriteAt h p u k
  read-source blank q v u k z = clash (cc)
  read-source (set v' u' w) q v u k z = ((r.cell i x v' u' w q).place, cell-write v' u' w q v u k z)

  read-new : NewEvent h (read_of s i x)
  read-new = record {
    source = λ j y v u k q. read-source (s.cell i x) refl v u k (cc);
    next = λ u y v k q. clash (cc);
  }

  read-ordered : HistoryOrdered (add h (read_of s i x))
  read-ordered = ordered-add r.story.ordered read-new

  read-to : (c : Cell) → s.cell i x ≡ c → (t j : ℕ) → 1 ≤ j → j ≤ read_clock (s.clock i) c t → UpTo (add h (read_of s i x)) (length h) t j
  read-to blank q t j one le = onward r (read_of s i x) i a_read t j one le
  read-to (set v u w) q t j one le =
      let e = read_of s i x in
      elim (dec_le j (s.clock i t)) [
        | yes a ↦ onward r e i a_read t j one a
        | no a ↦ (let g = r.cell i x v u w q in
            let z : At (add h e) (length h) (read_at i x (shown v u (w u))) =
            subst (λ (c : Cell). At (add h e) (length h) (read_at i x (shown_of c))) q (at_new h e) in
            upto-then (upto_old h e ((g.tells t j one).0 (omega arith))) (shown_by (at_old h e g.place g.at) z))
      ]

  -- the clock after the read has at least the clock before, and the vector of what was shown
  clock-low : (c : Cell) (t : ℕ) → s.clock i t ≤ read_clock (s.clock i) c t
  clock-low blank t = omega arith
  clock-low (set v u w) t = omega arith

  shown-low : (c : Cell) → s.cell i x ≡ c → (q y v u k t j : ℕ) → At h q (write_at u y v k) → shown_of c ≡ shown v u k → 1 ≤ j → UpTo h q t j → j ≤ read_clock (s.clock i) c t
  shown-low blank z q y v u k t j a d one b = clash (cc)
  shown-low (set v' u' w) z q y v u k t j a d one b =
      let g = r.cell i x v' u' w z in
      let p : q ≡ g.place = r.story.ordered.once q g.place u k (record { cell = y; status = v; at = a }) (cell-write v' u' w z v u k d) in
      let le = (g.tells t j one).1 (subst (λ (p : ℕ). UpTo h p t j) p b) in
      omega arith

  read-tells : (t j : ℕ) → 1 ≤ j → (j ≤ read_clock (s.clock i) (s.cell i x) t) ↔ UpTo (add h (read_of s i x)) (length h) t j
  read-tells t j one = (
    read-to (s.cell i x) refl t j one,
    λ b. elim (upto-last h (read_of s i x) read-ordered b) [
      | itself y v q ↦ clash (cc)
      | through q b l ↦ elim l [
        | by_show i' u y v k a z ↦ shown-low (s.cell i x) refl q y v u k t j a (cc) one b
        | by_desk i' f a op op' ↦ omega (arith, backward r (read_of s i x) i i' q f a_read a op op' t j one b, clock-low (s.cell i x) t)
      ]
    ],
  )

  read-entry : NewEntry h (read_of s i x)
  read-entry = record {
    new = read-new;
    written = λ j u k q. clash (cc);
    unlisted = λ j u k q. clash (cc);
    latest = λ j y v q.
        let ei : i ≡ j = cc in
        let ey : x ≡ y = cc in
        let ev : shown_at s i x ≡ v = cc in
        rw (← ei, ← ey, ← ev) (r.shows i x);
    read_after = λ i' y v q p t j w c.
        let ei : i ≡ i' = cc in
        let one = (own-known r w).0 in
        let b : UpTo (add h (read_of s i x)) (length h) t j = record { place = p; write = write_old h (read_of s i x) w; order = inr c } in
        let le = (read-tells t j one).1 b in
        rw (← ei) ((r.counts i t j).1 (one, omega (arith, low t)));
    apply_after = λ j u k q. clash (cc);
  }

  pub traced-read : Traced (read s i x) (add h (read_of s i x))
  traced-read =
      op-traced r (read_of s i x) read-entry (λ j w q. clash (cc)) i (read_clock (s.clock i) (s.cell i x)) a_read read-tells

-- Write, its first half: accepted, not yet applied --

abbrev pub write_of : State → ℕ → ℕ → ℕ → Event
write_of s i x v = write_at i x v (next_number s i)

module _ {s : State} {h : List Event} (r : Traced s h) (i x v : ℕ) where
  write_new : NewEvent h (write_of s i x v)
  write_new = record {
    source = λ j y w u k q. clash (cc);
    next = λ u y w k q.
        let ei : i ≡ u = cc in
        let ek : next_number s i ≡ k = cc in
        sym ek ∙ ap suc (clock-own r i) ∙ rw ei;
  }

  write-ordered : HistoryOrdered (add h (write_of s i x v))
  write-ordered = ordered-add r.story.ordered write_new

  next_low : (t : ℕ) → s.clock i t ≤ next_vector s i t
  next_low t = upd-all (s.clock i) i (next_number s i) (λ t b. s.clock i t ≤ b) t (λ z. rw z (omega arith)) (λ z. omega arith)

  write-tells : (t j : ℕ) → 1 ≤ j → (j ≤ next_vector s i t) ↔ UpTo (add h (write_of s i x v)) (length h) t j
  write-tells t j one = (λ le. to le (dec_le j (s.clock i t)), λ b. from (upto-last h (write_of s i x v) write-ordered b))
    where
      e : Event
      e = write_of s i x v

      to : j ≤ next_vector s i t → Dec (j ≤ s.clock i t) → UpTo (add h e) (length h) t j
      to le (yes a) = onward r e i a_write t j one a
      to le (no a) = same_or t i
          (λ z.
          let le' : j ≤ next_number s i = rw (z, upd_same (s.clock i) i (next_number s i)) at le in
          let a' : ¬ (j ≤ s.clock i i) = rw z at a in
          let ej : j ≡ next_number s i = omega arith in
          record { place = length h; write = record { cell = x; status = v; at = rw (z, ej) (at_new h e) }; order = inl refl })
          (λ z. absurd (a (rw (upd_other (s.clock i) i (next_number s i) t z) at le)))

      from : LastUp h e t j → j ≤ next_vector s i t
      from (itself y w q) =
          let ei : i ≡ t = cc in
          let ej : next_number s i ≡ j = cc in
          rw (← ei, ← ej, upd_same (s.clock i) i (next_number s i)) (omega arith)
      from (through q b (by_show i' u y w k a z)) = clash (cc)
      from (through q b (by_desk i' f a op op')) =
          let le = backward r e i i' q f a_write a op op' t j one b in
          omega (arith, next_low t)

  pub traced-raise : Traced (raise s i) (add h (write_of s i x v))
  traced-raise =
      op-traced r (write_of s i x v) (not_listed write_new (λ j w q. clash (cc)) (λ j y w q. clash (cc))) (λ j w q. clash (cc)) i
      (next_vector s i) a_write write-tells

  pub new_origin : Origin (add h (write_of s i x v)) i (next_number s i) x v (next_vector s i)
  new_origin = record { place = length h; at = at_new h (write_of s i x v); tells = write-tells }

-- Receive --

pub traced_receive : {s : State} {h : List Event} → Traced s h → (i : ℕ) (w : Name) → Traced s (add h (receive_at i w))
traced_receive {s} {h} r i w =
    other-traced r (receive_at i w) (not_listed (not_op (λ j op. elim op [ ])) (λ j v q. clash (cc)) (λ j y v q. clash (cc)))
    (λ j v q. clash (cc)) (λ j op. elim op [ ])

-- Apply --

-- u.k is the writer's next at i, and its causes are applied there
pub record Due (s : State) (i u k : ℕ) (w : Vec) : Type 0 where
  pub number : w u ≡ k
  pub next : suc (s.applied i u) ≡ k
  pub rest : (t : ℕ) → t ≢ u → w t ≤ s.applied i t

module _ {s : State} {h : List Event} (r : Traced s h) (i u k : ℕ) (w : Open) (g : Origin h u k w.cell w.status w.vector) (d : Due s i u k w.vector) where
  -- what precedes u.k is applied at i
  caused : (q p t j : ℕ) → WriteAt h q u k → WriteAt h p t j → Precedes h p q → Has (desk_list i h) t j
  caused q p t j b a c =
      let o = r.story.ordered in
      let one = (own-known r a).0 in
      let z : q ≡ g.place = o.once q g.place u k b (origin_write g) in
      let le : j ≤ w.vector t = (g.tells t j one).1 (record { place = p; write = a; order = inr (rw z at c) }) in
      same_or t u
      (λ y.
      let ne : j ≢ k = (λ x. let a' : WriteAt h p u k = rw (y, x) at a in let l = o.once p q u k a' b in let f = forward o c in omega arith) in
      let le' : j ≤ w.vector u = rw y at le in
      (r.counts i t j).1 (one, rw y (omega (arith, d.number, d.next, ne))))
      (λ y. (r.counts i t j).1 (one, omega (arith, d.rest t y)))

  apply-entry : NewEntry h (apply_at i (name u k))
  apply-entry = record {
    new = not_op (λ j op. elim op [ ]);
    written = λ j u' k' q. let z : name u k ≡ name u' k' = cc in (g.place, subst (λ (n : Name). WriteAt h g.place n.writer n.number) z (origin_write g));
    unlisted = λ i' u' k' q m.
        let ei : i ≡ i' = cc in
        let z : name u k ≡ name u' k' = cc in
        let m' : Has (desk_list i h) u k = rw ei (subst (λ (n : Name). Has (desk_list i' h) n.writer n.number) (sym z) m) in
        let le = ((r.counts i u k).0 m').1 in
        omega (arith, d.next);
    latest = λ j y v q. clash (cc);
    read_after = λ j y v q. clash (cc);
    apply_after = λ i' u' k' q q' p t j b a c.
        let z : name u' k' ≡ name u k = cc in
        let ei : i' ≡ i = cc in
        let b' : WriteAt h q' u k = subst (λ (n : Name). WriteAt h q' n.writer n.number) z b in
        rw ei (caused q' p t j b' a c);
  }

  apply-ordered : HistoryOrdered (add h (apply_at i (name u k)))
  apply-ordered = ordered-add r.story.ordered apply-entry.new

  apply-opens : (u' k' : ℕ) (w' : Open) → (apply s i u k w).opens u' k' ≡ some w' → Origin (add h (apply_at i (name u k))) u' k' w'.cell w'.status w'.vector
  apply-opens u' k' =
      upd2-all s.opens u k (still_open s.setup.desks (mark w i done))
      (λ u' k' o. (w' : Open) → o ≡ some w' → Origin (add h (apply_at i (name u k))) u' k' w'.cell w'.status w'.vector) u' k'
      (λ eu ek w' q. rw (eu, ek, ← still_is s.setup.desks (mark w i done) w' q) (origin_old (apply_at i (name u k)) apply-ordered g))
      (λ _ w' q. origin_old (apply_at i (name u k)) apply-ordered (r.opens u' k' w' q))

  apply-cell : (i' x v u' : ℕ) (w' : Vec) → (apply s i u k w).cell i' x ≡ set v u' w' → Origin (add h (apply_at i (name u k))) u' (w' u') x v w'
  apply-cell i' x =
      upd2-all s.cell i w.cell (set w.status u w.vector)
      (λ i' x c. (v u' : ℕ) (w' : Vec) → c ≡ set v u' w' → Origin (add h (apply_at i (name u k))) u' (w' u') x v w') i' x
      (λ _ ex v u' w' q.
      let ev : w.status ≡ v = cc in
      let eu : u ≡ u' = cc in
      let ew : w.vector ≡ w' = cc in
      rw (ex, ← ev, ← eu, ← ew, d.number) (origin_old (apply_at i (name u k)) apply-ordered g))
      (λ _ v u' w' q. origin_old (apply_at i (name u k)) apply-ordered (r.cell i' x v u' w' q))

  apply-counts : (i' t j : ℕ) → Has (desk_list i' (add h (apply_at i (name u k)))) t j ↔ ((1 ≤ j) × (j ≤ (apply s i u k w).applied i' t))
  apply-counts i' t j =
      upd2-all s.applied i u (suc (s.applied i u))
      (λ i' t a. Has (desk_list i' (add h (apply_at i (name u k)))) t j ↔ ((1 ≤ j) × (j ≤ a))) i' t
      (λ ei et. rw (ei, et) (λ m. here (has-apply i h (name u k) (name u j) m), λ b. back b (dec_le j (s.applied i u))))
      (λ ne. same_or i' i
      (λ ei. Iff-trans (λ m. there ei ne (has-apply i h (name u k) (name t j) (rw ei at m)), λ m. mem_old i' h (apply_at i (name u k)) m) (r.counts i' t j))
      (λ ei. Iff-trans (has_keep i' h (apply_at i (name u k)) (λ n q. ei (cc)) (name t j)) (r.counts i' t j)))
    where
      here : Has (desk_list i h) u j ⊎ (name u k ≡ name u j) → (1 ≤ j) × (j ≤ suc (s.applied i u))
      here (inl m) = let c = (r.counts i u j).0 m in (c.0, omega arith)
      here (inr q) = let z : k ≡ j = ap (λ (n : Name). n.number) q in (omega (arith, d.next), omega (arith, d.next))

      back : (1 ≤ j) × (j ≤ suc (s.applied i u)) → Dec (j ≤ s.applied i u) → Has (desk_list i (add h (apply_at i (name u k)))) u j
      back b (yes le) = mem_old i h (apply_at i (name u k)) ((r.counts i u j).1 (b.0, le))
      back b (no gt) = let z : j ≡ k = omega (arith, d.next, b.1) in rw z (has-applied i h (name u k))

      there : i' ≡ i → (i' ≡ i → t ≡ u → ⊥) → Has (desk_list i h) t j ⊎ (name u k ≡ name t j) → Has (desk_list i' h) t j
      there ei ne (inl m) = rw ei m
      there ei ne (inr q) = absurd (ne ei (sym (ap (λ (n : Name). n.writer) q)))

  written_is : written_as h (name u k) ≡ some (record { cell = w.cell; status = w.status })
  written_is =
      let a = written-some h g.place u w.cell w.status k g.at in
      let b = written-found h u k a.0 a.1 in
      let z : b.0 ≡ g.place = r.story.ordered.once b.0 g.place u k (record { cell = a.0.cell; status = a.0.status; at = b.1 }) (origin_write g) in
      let q : write_at u a.0.cell a.0.status k ≡ write_at u w.cell w.status k = at_one h g.place (rw z at b.1) g.at in
      let qc : a.0.cell ≡ w.cell = cc in
      let qs : a.0.status ≡ w.status = cc in
      a.1 ∙ (λ i. some (record { cell = qc i; status = qs i }))

  apply-shows : (i' x : ℕ) → shown_of ((apply s i u k w).cell i' x) ≡ latest (add h (apply_at i (name u k))) x (desk_list i' (add h (apply_at i (name u k))))
  apply-shows i' x =
      upd2-all s.cell i w.cell (set w.status u w.vector)
      (λ i' x c. shown_of c ≡ latest (add h (apply_at i (name u k))) x (desk_list i' (add h (apply_at i (name u k))))) i' x
      (λ ei ex. rw ei (sym (after x ∙ rw (eq-eqb w.cell x (sym ex), after_write, d.number))))
      (λ ne. same_or i' i
      (λ ei. rw ei (r.shows i x ∙ sym (after x ∙ rw (ne_eqb w.cell x (λ q. ne ei (sym q)), after_write))))
      (λ ei. r.shows i' x ∙ sym (latest_keep i' h (apply_at i (name u k)) (λ n q. ei (cc)) x (all-written r.story i' (desk_list i' h) (λ b m. m)))))
    where
      after : (x : ℕ) → latest (add h (apply_at i (name u k))) x (desk_list i (add h (apply_at i (name u k))))
          ≡ after_write x (latest h x (desk_list i h)) (name u k) (some (record { cell = w.cell; status = w.status }))
      after x = latest-apply i h (name u k) x (record { cell = w.cell; status = w.status }) (all-written r.story i (desk_list i h) (λ b m. m)) written_is

  pub traced-apply : Traced (apply s i u k w) (add h (apply_at i (name u k)))
  traced-apply = record {
    story = story-add h (apply_at i (name u k)) r.story apply-entry;
    clock = λ j t m one. Iff-trans (r.clock j t m one) (Iff-symm (knows_other h (apply_at i (name u k)) apply-ordered (λ op. elim op [ ])));
    opens = apply-opens;
    cell = apply-cell;
    counts = apply-counts;
    shows = apply-shows;
  }

-- Hold --

pub traced-hold : {s : State} {h : List Event} → Traced s h → (i u k : ℕ) (w : Open) → s.opens u k ≡ some w → Traced (hold s i u k w) h
traced-hold {s} {h} r i u k w q = record {
  story = r.story;
  clock = r.clock;
  opens = λ u' k'. upd2-all s.opens u k (some (mark w i held)) (λ u' k' o. (w' : Open) → o ≡ some w' → Origin h u' k' w'.cell w'.status w'.vector) u' k'
      (λ eu ek w' z. let z' : mark w i held ≡ w' = cc in rw (eu, ek, ← z') (r.opens u k w q))
      (λ _ w' z. r.opens u' k' w' z);
  cell = r.cell;
  counts = r.counts;
  shows = r.shows;
}
