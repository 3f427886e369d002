-- The causal order of a history, and what one more event does to it.
use Rattle.std.specs.Prelude.{◌≡◌, ◌⊎◌, ◌↔◌, ◌∷◌, ◌++◌, ◌≤◌, ◌<◌}
use Rattle.laws.specs.Kit.{refl, sym, ap, subst, inl, inr, true, false, List, [], ℕ, suc, arith, dec_le}
use Rattle.laws.specs.{Kit.{eq-eqb, ne_eqb, eqb, length}, Ends.{AtEnd, before, last, at-inside, at_before, at_end, at-either, inside}}
use Rattle.laws.specs.{Ends.{outside, cut_end, by_parts}, Count.{count, count_end}, Says.{clash}, Update.{same_or}}
use Rattle.machine.specs.{Answer.{shown}, Rules.{In}, History.{Event, read_at, write_at, receive_at, apply_at, write_passes, writes_of}}
use Rattle.machine.specs.History.{At, OpOf, a_read, a_write, Precedes, same_desk, shown_by, chained}
use Rattle.machine.specs.Demand3.{WriteAt, UpTo, NumberedInOrder}

-- one more event
abbrev pub add : List Event → Event → List Event
add h e = h ++ e ∷ []

-- of a history: what a read shows was written before, no name is written twice, numbers count from 1
pub record HistoryOrdered (h : List Event) : Type 0 where
  pub source : (q i x v u k : ℕ) → At h q (read_at i x (shown v u k)) → (p : ℕ) × (p < q) × WriteAt h p u k
  pub once : (p q u k : ℕ) → WriteAt h p u k → WriteAt h q u k → p ≡ q
  pub numbered : NumberedInOrder h

pub at_one : (h : List Event) (p : ℕ) {e f : Event} → At h p e → At h p f → e ≡ f
at_one h p a b = cc

-- an operation has one desk
pub one-desk : {i j : ℕ} {e : Event} → OpOf i e → OpOf j e → j ≡ i
one-desk a_read a_read = refl
one-desk a_write a_write = refl

pub forward : {h : List Event} {p q : ℕ} → HistoryOrdered h → Precedes h p q → p < q
forward o (same_desk a b x y lt) = lt
forward {p = p} {q = q} o (shown_by {i = i} {u = u} {x = x} {v = v} {k = k} a b) =
    let r = o.source q i x v u k b in
    let z : p ≡ r.0 = o.once p r.0 u k (record { cell = x; status = v; at = a }) r.2 in
    omega (arith, r.1)
forward o (chained c d) = let y = forward o c in let z = forward o d in omega arith

pub upto-then : {h : List Event} {q r t j : ℕ} → UpTo h q t j → Precedes h q r → UpTo h r t j
upto-then b c = record { place = b.place; write = b.write; order = elim b.order [ inl e ↦ inr (rw e c) | inr d ↦ inr (chained d c) ] }

-- t.j precedes or is an operation of the desk i
pub record Knows (h : List Event) (i t j : ℕ) : Type 0 where
  pub place : ℕ
  pub event : Event
  pub at : At h place event
  pub op : OpOf i event
  pub upto : UpTo h place t j

-- the operation at q precedes the new event e at once
pub data Link (h : List Event) (e : Event) (q : ℕ) : Type 0 where
  by_desk : (i : ℕ) (f : Event) → At h q f → OpOf i f → OpOf i e → Link h e q
  by_show : (i u x v k : ℕ) → At h q (write_at u x v k) → e ≡ read_at i x (shown v u k) → Link h e q

-- what precedes e goes through an operation that does so at once
pub record LastLink (h : List Event) (e : Event) (p : ℕ) : Type 0 where
  pub place : ℕ
  pub order : (p ≡ place) ⊎ Precedes h p place
  pub link : Link h e place

-- t.j is the new event e, or precedes or is an operation that precedes e at once
pub data LastUp (h : List Event) (e : Event) (t j : ℕ) : Type 0 where
  itself : (x v : ℕ) → e ≡ write_at t x v j → LastUp h e t j
  through : (q : ℕ) → UpTo h q t j → Link h e q → LastUp h e t j

module _ (h : List Event) (e : Event) where
  pub at_old : (p : ℕ) {f : Event} → At h p f → At (add h e) p f
  at_old p {f} a = at_before h e p f a

  pub at_new : At (add h e) (length h) e
  at_new = at_end h e

  pub at_less : (p : ℕ) {f : Event} → At (add h e) p f → p < length h → At h p f
  at_less p {f} a lt = elim (at-either h e p f a) [ before b ↦ b | last q r ↦ absurd (omega arith) ]

  pub at_last : (p : ℕ) {f : Event} → At (add h e) p f → p ≡ length h → f ≡ e
  at_last p a q = at_one (add h e) (length h) (rw q at a) at_new

  pub write_old : {p u k : ℕ} → WriteAt h p u k → WriteAt (add h e) p u k
  write_old {p} w = record { cell = w.cell; status = w.status; at = at_old p w.at }

  pub write_less : {p u k : ℕ} → WriteAt (add h e) p u k → p < length h → WriteAt h p u k
  write_less {p} w lt = record { cell = w.cell; status = w.status; at = at_less p w.at lt }

  pub prec_old : {p q : ℕ} → Precedes h p q → Precedes (add h e) p q
  prec_old {p} {q} (same_desk a b x y lt) = same_desk (at_old p a) (at_old q b) x y lt
  prec_old {p} {q} (shown_by a b) = shown_by (at_old p a) (at_old q b)
  prec_old (chained c d) = chained (prec_old c) (prec_old d)

  pub upto_old : {q t j : ℕ} → UpTo h q t j → UpTo (add h e) q t j
  upto_old b =
      record { place = b.place; write = write_old b.write; order = elim b.order [ inl z ↦ inl z | inr c ↦ inr (prec_old c) ] }

  module _ (o : HistoryOrdered (add h e)) where
    pub prec_less : {p q : ℕ} → Precedes (add h e) p q → q < length h → Precedes h p q
    prec_less {p} {q} (same_desk a b x y lt) k = same_desk (at_less p a (omega arith)) (at_less q b k) x y lt
    prec_less {p} {q} (shown_by a b) k = let lt = forward o (shown_by a b) in shown_by (at_less p a (omega arith)) (at_less q b k)
    prec_less (chained c d) k = let lt = forward o d in chained (prec_less c (omega arith)) (prec_less d k)

    pub upto_less : {q t j : ℕ} → UpTo (add h e) q t j → q < length h → UpTo h q t j
    upto_less b k = elim b.order [
      | inl z ↦ record { place = b.place; write = write_less b.write (omega arith); order = inl z }
      | inr c ↦ let lt = forward o c in
          record { place = b.place; write = write_less b.write (omega arith); order = inr (prec_less c k) }
    ]

    pub prec_last : {p q : ℕ} → Precedes (add h e) p q → q ≡ length h → LastLink h e p
    prec_last {p} {q} (same_desk {i = i} {e = f} a b x y lt) z =
        record { place = p; order = inl refl; link = by_desk i f (at_less p a (omega arith)) x (subst (OpOf i) (at_last q b z) y) }
    prec_last {p} {q} (shown_by {i = i} {u = u} {x = x} {v = v} {k = k} a b) z =
        let lt = forward o (shown_by a b) in
        record { place = p; order = inl refl; link = by_show i u x v k (at_less p a (omega arith)) (sym (at_last q b z)) }
    prec_last {p} (chained {q = r} c d) z =
        let lt = forward o d in
        let s = prec_last d z in
        let b = prec_less c (omega arith) in
        let a : Precedes h p s.place = elim s.order [ inl y ↦ subst (λ (q : ℕ). Precedes h p q) y b | inr d ↦ chained b d ] in
        record { place = s.place; order = inr a; link = s.link }

    -- what precedes or is the new event
    pub upto-last : {t j : ℕ} → UpTo (add h e) (length h) t j → LastUp h e t j
    upto-last b = elim b.order [
      | inl z ↦ itself b.write.cell b.write.status (sym (at_last b.place b.write.at z))
      | inr c ↦ let l = prec_last c refl in through l.place
          (record { place = b.place; write = write_less b.write (forward o c); order = l.order }) l.link
    ]

    -- what a desk knows that did the new operation, and what the others know
    pub knows_new : {i t j : ℕ} → OpOf i e → Knows (add h e) i t j ↔ UpTo (add h e) (length h) t j
    knows_new {i} {t} {j} op = (
      λ k. elim (at-either h e k.place k.event k.at) [
        | before a ↦ upto-then k.upto (same_desk k.at at_new k.op op (at-inside h k.place k.event a))
        | last z y ↦ subst (λ (q : ℕ). UpTo (add h e) q t j) z k.upto
      ],
      λ b. record { place = length h; event = e; at = at_new; op = op; upto = b },
    )

    pub knows_other : {i t j : ℕ} → (OpOf i e → ⊥) → Knows (add h e) i t j ↔ Knows h i t j
    knows_other {i} {t} {j} op = (
      λ k. elim (at-either h e k.place k.event k.at) [
        | before a ↦
            record { place = k.place; event = k.event; at = a; op = k.op; upto = upto_less k.upto (at-inside h _ _ a) }
        | last _ z ↦ absurd (op (subst (OpOf i) (sym z) k.op))
      ],
      λ k. record { place = k.place; event = k.event; at = at_old k.place k.at; op = k.op; upto = upto_old k.upto },
    )

-- the numbers of a desk's writes --

-- a write of u, or no write of u
data WriteCase (u : ℕ) (e : Event) : Type 0 where
  its_write : (x v k : ℕ) → e ≡ write_at u x v k → WriteCase u e
  other : write_passes (λ t k. eqb t u) e ≡ false → WriteCase u e

write_case : (u : ℕ) (e : Event) → WriteCase u e
write_case u (read_at i x v) = other refl
write_case u (write_at t x v k) = same_or t u (λ z. its_write x v k (ap (λ (t : ℕ). write_at t x v k) z)) (λ z. other (ne_eqb t u z))
write_case u (receive_at i w) = other refl
write_case u (apply_at i w) = other refl

pub writes_more : (u : ℕ) (h : List Event) (x v k : ℕ) → writes_of u (add h (write_at u x v k)) ≡ suc (writes_of u h)
writes_more u h x v k =
    let c = count_end (write_passes (λ t k. eqb t u)) h (write_at u x v k) in
    let z : eqb u u ≡ true = eq-eqb u u refl in
    omega (arith, rw z at c)

pub writes-same : (u : ℕ) (h : List Event) (e : Event) → write_passes (λ t k. eqb t u) e ≡ false → writes_of u (add h e) ≡ writes_of u h
writes-same u h e n = let c = count_end (write_passes (λ t k. eqb t u)) h e in omega (arith, rw n at c)

-- they are 1 to how many there are
module _ {h : List Event} (o : NumberedInOrder h) (u k : ℕ) where
  pub number_in : {p : ℕ} → WriteAt h p u k → In (writes_of u h) k
  unfolding count
  number_in {p} w = by_parts (λ l. (p : ℕ) → WriteAt l p u k → In (writes_of u l) k) h (λ p w. let a = w.at in clash (cc)) more p w
    where
      more : (earlier : List Event) (e : Event) (later : List Event) → h ≡ earlier ++ e ∷ later → ((p : ℕ) → WriteAt earlier p u k → In (writes_of u earlier) k)
          → (p : ℕ) → WriteAt (add earlier e) p u k → In (writes_of u (add earlier e)) k
      more earlier e later z ih p w = go (at-either earlier e p (write_at u w.cell w.status k) w.at) (write_case u e)
        where
          go : AtEnd earlier e p (write_at u w.cell w.status k) → WriteCase u e → In (writes_of u (add earlier e)) k
          go (before a) (other n) = rw (writes-same u earlier e n) (ih p (record { cell = w.cell; status = w.status; at = a }))
          go (before a) (its_write x v j y) =
              let b = ih p (record { cell = w.cell; status = w.status; at = a }) in
              rw (y, writes_more u earlier x v j) (b.0, omega (arith, b.1))
          go (last _ y) _ =
              let n = o u w.cell w.status k earlier later (rw y at z) in
              rw (y, writes_more u earlier w.cell w.status k) (omega arith)

  pub number-written : In (writes_of u h) k → (p : ℕ) × WriteAt h p u k
  unfolding count
  number-written = by_parts (λ l. In (writes_of u l) k → (p : ℕ) × WriteAt l p u k) h (λ b. absurd (omega arith)) more
    where
      more : (earlier : List Event) (e : Event) (later : List Event) → h ≡ earlier ++ e ∷ later → (In (writes_of u earlier) k → (p : ℕ) × WriteAt earlier p u k)
          → In (writes_of u (add earlier e)) k → (p : ℕ) × WriteAt (add earlier e) p u k
      more earlier e later z ih b = go (write_case u e) (dec_le k (writes_of u earlier))
        where
          old : In (writes_of u earlier) k → (p : ℕ) × WriteAt (add earlier e) p u k
          old b = let r = ih b in (r.0, write_old earlier e r.1)

          go : WriteCase u e → Dec (k ≤ writes_of u earlier) → (p : ℕ) × WriteAt (add earlier e) p u k
          go (other n) _ = old (rw (writes-same u earlier e n) at b)
          go (its_write x v j y) (yes le) = old (b.0, le)
          go (its_write x v j y) (no gt) =
              let n = o u x v j earlier later (rw y at z) in
              let m = writes_more u earlier x v j in
              let b' : In (writes_of u (add earlier (write_at u x v j))) k = rw y at b in
              let kj : j ≡ k = omega (arith, b'.1) in
              (length earlier, record { cell = x; status = v; at = rw (y, kj) (at_new earlier (write_at u x v k)) })

-- what a new event has to keep
pub record NewEvent (h : List Event) (e : Event) : Type 0 where
  pub source : (i x v u k : ℕ) → e ≡ read_at i x (shown v u k) → (p : ℕ) × WriteAt h p u k
  pub next : (u x v k : ℕ) → e ≡ write_at u x v k → k ≡ suc (writes_of u h)

pub not_op : {h : List Event} {e : Event} → ((i : ℕ) → OpOf i e → ⊥) → NewEvent h e
not_op n = record {
  source = λ i x v u k q. absurd (n i (subst (OpOf i) (sym q) a_read));
  next = λ u x v k q. absurd (n u (subst (OpOf u) (sym q) a_write));
}

pub ordered-add : {h : List Event} {e : Event} → HistoryOrdered h → NewEvent h e → HistoryOrdered (add h e)
ordered-add {h} {e} o n = record {
  source = λ q i x v u k a. elim (at-either h e q (read_at i x (shown v u k)) a) [
    | before a ↦ (let r = o.source q i x v u k a in (r.0, r.1, write_old h e r.2))
    | last z w ↦ (let r = n.source i x v u k w in (r.0, (let lt = at-inside h r.0 _ r.1.at in omega arith), write_old h e r.1))
  ];
  once = λ p q u k a b. once' p q u k a b (at-either h e p (write_at u a.cell a.status k) a.at) (at-either h e q (write_at u b.cell b.status k) b.at);
  numbered = λ u x v k earlier later q. elim (cut_end h e earlier (write_at u x v k) later q) [
    | inside later z ↦ o.numbered u x v k earlier later z
    | outside z y ↦ rw (← z) (n.next u x v k y)
  ];
}
  where
    -- a new write's number is above those of the writes before it
    unwritten : (u x v k p : ℕ) → e ≡ write_at u x v k → WriteAt h p u k → ⊥
    unwritten u x v k p y w = let a = n.next u x v k y in let b = number_in o.numbered u k w in omega arith

    once' : (p q u k : ℕ) (a : WriteAt (add h e) p u k) (b : WriteAt (add h e) q u k) → AtEnd h e p (write_at u a.cell a.status k)
        → AtEnd h e q (write_at u b.cell b.status k) → p ≡ q
    once' p q u k a b (before x) (before y) = o.once p q u k (record { cell = a.cell; status = a.status; at = x }) (record { cell = b.cell; status = b.status; at = y })
    once' p q u k a b (before x) (last z y) = absurd (unwritten u b.cell b.status k p y (record { cell = a.cell; status = a.status; at = x }))
    once' p q u k a b (last z x) (before y) = absurd (unwritten u a.cell a.status k q x (record { cell = b.cell; status = b.status; at = y }))
    once' p q u k a b (last z x) (last z' y) = omega arith
