-- The table against its history, and the small steps: an operation, a receipt, a write applied, a write held.
use Rattle.std.specs.Prelude.{◌≡◌, ◌↔◌, ◌≤◌}
use Rattle.laws.specs.{Kit.{refl, sym, ◌∙◌, subst, inl, Iff-trans, Iff-symm, List, some, ℕ, arith, length}, Ends.{at-inside}}
use Rattle.laws.specs.Update.{upd, upd-all, same_or}
use Rattle.machine.specs.{Table.{Vec, Name, name, set, Open, State}, Answer.{shown_of}, History.{Event, write_at, apply_at, desk_list}}
use Rattle.machine.specs.History.{latest, writes_of, At, OpOf, a_write, same_desk}
use Rattle.machine.specs.Demand3.{WriteAt, Has, UpTo}
use Rattle.machine.proofs.Order.{add}
use Rattle.machine.proofs.Order.{one-desk, HistoryOrdered, ordered-add, at_old, at_new, upto-then, upto_old, upto_less}
use Rattle.machine.proofs.Order.{number_in, number-written, Knows, knows_new, knows_other}
use Rattle.machine.proofs.Entries.{has_keep, latest_keep}
use Rattle.machine.proofs.HistoryKeeps.{Story, NewEntry, story-add, write-inside}
use Rattle.machine.proofs.HistoryKeeps.{all-written}
use Rattle.machine.proofs.CountsRise.{clocks_are}

-- cell, status and vector of u.k come from the write in the history; the vector tells the order
pub record Origin (h : List Event) (u k x v : ℕ) (w : Vec) : Type 0 where
  pub place : ℕ
  pub at : At h place (write_at u x v k)
  pub tells : (t j : ℕ) → 1 ≤ j → (j ≤ w t) ↔ UpTo h place t j

-- the table against the history: clocks and vectors tell the order, counts and cells are those of the desks' lists
pub record Traced (s : State) (h : List Event) : Type 0 where
  pub story : Story h
  pub clock : (i t j : ℕ) → 1 ≤ j → (j ≤ s.clock i t) ↔ Knows h i t j
  pub opens : (u k : ℕ) (w : Open) → s.opens u k ≡ some w → Origin h u k w.cell w.status w.vector
  pub cell : (i x v u : ℕ) (w : Vec) → s.cell i x ≡ set v u w → Origin h u (w u) x v w
  pub counts : (i t j : ℕ) → Has (desk_list i h) t j ↔ ((1 ≤ j) × (j ≤ s.applied i t))
  pub shows : (i x : ℕ) → shown_of (s.cell i x) ≡ latest h x (desk_list i h)

pub origin_write : {h : List Event} {u k x v : ℕ} {w : Vec} (o : Origin h u k x v w) → WriteAt h o.place u k
origin_write {x = x} {v = v} o = record { cell = x; status = v; at = o.at }

pub origin_old : {h : List Event} (e : Event) {u k x v : ℕ} {w : Vec} → HistoryOrdered (add h e) → Origin h u k x v w → Origin (add h e) u k x v w
origin_old {h} e o g =
    let lt = write-inside (origin_write g) in
    record {
      place = g.place;
      at = at_old h e g.place g.at;
      tells = λ t j one. Iff-trans (g.tells t j one) (λ b. upto_old h e b, λ b. upto_less h e o b lt);
    }

-- each write that a desk made is known there
pub own-known : {s : State} {h : List Event} → Traced s h → {p u k : ℕ} → WriteAt h p u k → (1 ≤ k) × (k ≤ s.clock u u)
own-known {s} {h} r {p} {u} {k} w =
    let one = (number_in r.story.ordered.numbered u k w).0 in
    (one, (r.clock u u k one).1 (record { place = p; event = write_at u w.cell w.status k; at = w.at; op = a_write; upto = record { place = p; write = w; order = inl refl } }))

-- a clock counts, at its own place, the writes that its desk has made
pub clock-own : {s : State} {h : List Event} → Traced s h → (u : ℕ) → s.clock u u ≡ writes_of u h
clock-own {s} {h} r u =
    let low : 1 ≤ s.clock u u → s.clock u u ≤ writes_of u h =
    (λ z. (number_in r.story.ordered.numbered u (s.clock u u) ((r.clock u u (s.clock u u) z).0 (omega arith)).upto.write).1) in
    let high : 1 ≤ writes_of u h → writes_of u h ≤ s.clock u u =
    (λ z. (own-known r (number-written r.story.ordered.numbered u (writes_of u h) (z, omega arith)).1).1) in
    same_or (s.clock u u) 0 (λ a. same_or (writes_of u h) 0 (λ b. omega arith) (λ b. omega (arith, high (omega arith))))
    (λ a. let l = low (omega arith) in omega (arith, high (omega arith)))

-- what a desk's clock counts is before its next operation
pub onward : {s : State} {h : List Event} → Traced s h → (e : Event) (i : ℕ) → OpOf i e → (t j : ℕ) → 1 ≤ j → j ≤ s.clock i t → UpTo (add h e) (length h) t j
onward {s} {h} r e i op t j one le =
    let k = (r.clock i t j one).0 le in
    upto-then (upto_old h e k.upto) (same_desk (at_old h e k.place k.at) (at_new h e) k.op op (at-inside h k.place k.event k.at))

-- and what is before an earlier operation of the desk, its clock counts
pub backward : {s : State} {h : List Event} → Traced s h → (e : Event) (i d q : ℕ) (f : Event) → OpOf i e → At h q f → OpOf d f → OpOf d e
    → (t j : ℕ) → 1 ≤ j → UpTo h q t j → j ≤ s.clock i t
backward r e i d q f op a of oe t j one b =
    (r.clock i t j one).1 (record { place = q; event = f; at = a; op = subst (λ (d : ℕ). OpOf d f) (one-desk op oe) of; upto = b })

-- an event that applies nothing: it changes clocks only --

module _ {s : State} {h : List Event} (r : Traced s h) (e : Event) (n : NewEntry h e) (idle : (i : ℕ) (w : Name) → e ≡ apply_at i w → ⊥) where
  o : HistoryOrdered (add h e)
  o = ordered-add r.story.ordered n.new

  clock-traced : (c : ℕ → Vec) → ((i t j : ℕ) → 1 ≤ j → (j ≤ c i t) ↔ Knows (add h e) i t j) → Traced (clocks_are s c) (add h e)
  clock-traced c knows = record {
    story = story-add h e r.story n;
    clock = knows;
    opens = λ u k w q. origin_old e o (r.opens u k w q);
    cell = λ i x v u w q. origin_old e o (r.cell i x v u w q);
    counts = λ i t j. Iff-trans (has_keep i h e (idle i) (name t j)) (r.counts i t j);
    shows = λ i x. r.shows i x ∙ sym (latest_keep i h e (idle i) x (all-written r.story i (desk_list i h) (λ b m. m)));
  }

  -- a desk that did not do e knows what it knew
  knows_same : (i t j : ℕ) → 1 ≤ j → (OpOf i e → ⊥) → (j ≤ s.clock i t) ↔ Knows (add h e) i t j
  knows_same i t j one op = Iff-trans (r.clock i t j one) (Iff-symm (knows_other h e o op))

  -- an operation of the desk i, after which its clock is c
  pub op-traced : (i : ℕ) (c : Vec) → OpOf i e → ((t j : ℕ) → 1 ≤ j → (j ≤ c t) ↔ UpTo (add h e) (length h) t j)
      → Traced (clocks_are s (upd s.clock i c)) (add h e)
  op-traced i c op tells =
      clock-traced (upd s.clock i c) (λ i' t j one. upd-all s.clock i c (λ i' c'. (j ≤ c' t) ↔ Knows (add h e) i' t j) i'
      (λ z. rw z (Iff-trans (tells t j one) (Iff-symm (knows_new h e o op))))
      (λ z. knows_same i' t j one (λ op'. z (one-desk op op'))))

  -- an event that is no operation
  pub other-traced : ((i : ℕ) → OpOf i e → ⊥) → Traced s (add h e)
  other-traced no-op = clock-traced s.clock (λ i t j one. knows_same i t j one (no-op i))
