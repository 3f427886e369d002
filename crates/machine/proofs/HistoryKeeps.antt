-- What every history keeps, of itself: each read shows the latest, causes come first. One more event keeps it.
use Rattle.std.specs.Prelude.{◌≡◌, ◌∷◌, ◌++◌, ◌<◌}
use Rattle.laws.specs.Kit.{refl, sym, ◌∙◌, subst, List, Memᴰ, Memᴰ-head, Memᴰ-append_left, Memᴰ-append_right, ℕ}
use Rattle.laws.specs.{Kit.{arith, length}, Ends.{before, last, at-inside, at-either}, Says.{clash}}
use Rattle.machine.specs.{Table.{name, Name}, Answer.{Shown, unset}, History.{Event, read_at, write_at, apply_at, Entry, own_read}}
use Rattle.machine.specs.{History.{applied, desk_list, latest, At, Precedes}, Demand3.{WriteAt, OpAt, of_read, of_write, Has}}
use Rattle.machine.specs.Demand3.{ListsAccepted, ListsOnce, ReadsLatest, CausesFirst}
use Rattle.machine.proofs.Order.{add, HistoryOrdered, NewEvent}
use Rattle.machine.proofs.Order.{ordered-add, forward, at_less, write_old, write_less, prec_less}
use Rattle.machine.proofs.Entries.{OwnEntry}
use Rattle.machine.proofs.Entries.{reads, applies, DeskCut, in_old, in_new, desk_cut, applied_cases, read_listed, listed_inside}
use Rattle.machine.proofs.Entries.{AllWritten, written-some, latest_stable}

-- what a history keeps
pub record Story (h : List Event) : Type 0 where
  pub ordered : HistoryOrdered h
  pub written : ListsAccepted h
  pub once : ListsOnce h
  pub latest : ReadsLatest h
  pub causes : CausesFirst h

-- what a new event has to keep
pub record NewEntry (h : List Event) (e : Event) : Type 0 where
  pub new : NewEvent h e
  pub written : (i u k : ℕ) → e ≡ apply_at i (name u k) → (q : ℕ) × WriteAt h q u k
  pub unlisted : (i u k : ℕ) → e ≡ apply_at i (name u k) → Has (desk_list i h) u k → ⊥
  pub latest : (i x : ℕ) (v : Shown) → e ≡ read_at i x v → v ≡ latest h x (desk_list i h)
  pub read_after : (i x : ℕ) (v : Shown) → e ≡ read_at i x v → (p t j : ℕ) → WriteAt h p t j → Precedes (add h e) p (length h) → Has (desk_list i h) t j
  pub apply_after : (i u k : ℕ) → e ≡ apply_at i (name u k) → (q p t j : ℕ) → WriteAt h q u k → WriteAt h p t j → Precedes h p q → Has (desk_list i h) t j

-- an event that no desk lists
pub not_listed : {h : List Event} {e : Event} → NewEvent h e → ((i : ℕ) (w : Name) → e ≡ apply_at i w → ⊥)
    → ((i x : ℕ) (v : Shown) → e ≡ read_at i x v → ⊥) → NewEntry h e
not_listed n a r = record {
  new = n;
  written = λ i u k q. absurd (a i (name u k) q);
  unlisted = λ i u k q. absurd (a i (name u k) q);
  latest = λ i x v q. absurd (r i x v q);
  read_after = λ i x v q. absurd (r i x v q);
  apply_after = λ i u k q. absurd (a i (name u k) q);
}

-- a write stands inside the history
pub write-inside : {h : List Event} {p u k : ℕ} → WriteAt h p u k → p < length h
write-inside {h} {p} {u} {k} w = at-inside h p (write_at u w.cell w.status k) w.at

-- the names in a part of a desk's list are those of accepted writes
pub all-written : {h : List Event} → Story h → (i : ℕ) (l : List Entry) → ((b : Entry) → Memᴰ b l → Memᴰ b (desk_list i h)) → AllWritten h l
all-written {h} s i l f w m =
    let r = s.written i w.writer w.number (f (applied w) m) in
    written-some h r.0 w.writer r.1.cell r.1.status w.number r.1.at

module _ (h : List Event) (e : Event) (s : Story h) (n : NewEntry h e) where
  ordered' : HistoryOrdered (add h e)
  ordered' = ordered-add s.ordered n.new

  -- a part of the desk's list shows what it showed
  stable : (i x : ℕ) (l : List Entry) → ((b : Entry) → Memᴰ b l → Memᴰ b (desk_list i h)) → latest (add h e) x l ≡ latest h x l
  stable i x l f = latest_stable h e x unset l (all-written s i l f)

  written' : ListsAccepted (add h e)
  written' i u k m = let r = applied_cases i h e m (s.written i u k) (n.written i u k) in (r.0, write_old h e r.1)

  once' : ListsOnce (add h e)
  once' i u k earlier later q m = elim (desk_cut i h e earlier (applied (name u k)) later q) [
    | in_old l z ↦ s.once i u k earlier l z m
    | in_new z o ↦ elim o [ reads x v _ y ↦ clash (cc) | applies w a y ↦ n.unlisted i u k (cc) (rw z m) ]
  ]

  latest' : ReadsLatest (add h e)
  latest' i p x v earlier later q = go (desk_cut i h e earlier (own_read p x v) later q)
    where
      go : DeskCut i h e earlier (own_read p x v) → v ≡ latest (add h e) x earlier
      go (in_old m z) = s.latest i p x v earlier m z ∙ sym (stable i x earlier (λ b a. rw z (Memᴰ-append_left (own_read p x v ∷ m) a)))
      go (in_new z (applies w _ y)) = clash (cc)
      go (in_new z (reads x' v' a y)) =
          let a' : e ≡ read_at i x v = cc in
          let r : v ≡ latest h x (desk_list i h) = n.latest i x v a' in
          (rw z at r) ∙ sym (stable i x earlier (λ b m. rw z m))

  -- where an entry's operation stands
  data OpCut (i q : ℕ) (earlier : List Entry) (b : Entry) : Type 0 where
    op_old : (later : List Entry) → desk_list i h ≡ earlier ++ b ∷ later → OpAt h q b → q < length h → OpCut i q earlier b
    op_read : (x : ℕ) (v : Shown) → desk_list i h ≡ earlier → e ≡ read_at i x v → q ≡ length h → OpCut i q earlier b
    op_write : (u k : ℕ) → desk_list i h ≡ earlier → e ≡ apply_at i (name u k) → WriteAt h q u k → OpCut i q earlier b

  cut_old : (i q : ℕ) (earlier : List Entry) (b : Entry) (later : List Entry) → desk_list i h ≡ earlier ++ b ∷ later → Memᴰ b (desk_list i h) → OpAt (add h e) q b → OpCut i q earlier b
  cut_old i q earlier b later z m (of_read {x} {v}) = op_old later z of_read (listed_inside i h q x v m)
  cut_old i q earlier b later z m (of_write {u} {k} w) =
      let r = s.written i u k m in
      let y : q ≡ r.0 = ordered'.once q r.0 u k w (write_old h e r.1) in
      let w' : WriteAt h q u k = subst (λ (p : ℕ). WriteAt h p u k) (sym y) r.1 in
      op_old later z (of_write w') (write-inside w')

  cut_last : (i q : ℕ) (earlier : List Entry) (b : Entry) → desk_list i h ≡ earlier → OwnEntry i (length h) e b → OpAt (add h e) q b → OpCut i q earlier b
  cut_last i q earlier b z (reads x v a y) of_read = op_read x v z a (cc)
  cut_last i q earlier b z (reads x v a y) (of_write w) = clash (cc)
  cut_last i q earlier b z (applies w a y) of_read = clash (cc)
  cut_last i q earlier b z (applies w a y) (of_write {u} {k} c) =
      let a' : e ≡ apply_at i (name u k) = cc in
      op_write u k z a' (elim (at-either h e q (write_at u c.cell c.status k)
      c.at) [ before d ↦ record { cell = c.cell; status = c.status; at = d } | last _ d ↦ clash (cc) ])

  op_cut : (i q : ℕ) (earlier : List Entry) (b : Entry) (later : List Entry) → desk_list i (add h e) ≡ earlier ++ b ∷ later → OpAt (add h e) q b → OpCut i q earlier b
  op_cut i q earlier b later eq o = elim (desk_cut i h e earlier b later eq) [
    | in_old m z ↦ cut_old i q earlier b m z (rw z (Memᴰ-append_right earlier (Memᴰ-head refl))) o
    | in_new z y ↦ cut_last i q earlier b z y o
  ]

  causes-writes : (i : ℕ) (b : Entry) (earlier later : List Entry) → desk_list i (add h e) ≡ earlier ++ b ∷ later
      → (q : ℕ) → OpAt (add h e) q b → (p t j : ℕ) → WriteAt (add h e) p t j → Precedes (add h e) p q → Has earlier t j
  causes-writes i b earlier later eq q o p t j w c = go (op_cut i q earlier b later eq o)
    where
      lt : p < q
      lt = forward ordered' c

      go : OpCut i q earlier b → Has earlier t j
      go (op_old m z o' k) = s.causes.writes i b earlier m z q o' p t j (write_less h e w (omega (arith, lt))) (prec_less h e ordered' c k)
      go (op_read x v z a y) = rw z at (n.read_after i x v a p t j (write_less h e w (omega (arith, lt))) (rw y at c))
      go (op_write u k z a w') =
          let l = write-inside w' in
          rw z at (n.apply_after i u k a q p t j w' (write_less h e w (omega (arith, lt))) (prec_less h e ordered' c l))

  causes-reads : (i : ℕ) (b : Entry) (earlier later : List Entry) → desk_list i (add h e) ≡ earlier ++ b ∷ later
      → (q : ℕ) → OpAt (add h e) q b → (p x : ℕ) (v : Shown) → At (add h e) p (read_at i x v) → Precedes (add h e) p q → Memᴰ (own_read p x v) earlier
  causes-reads i b earlier later eq q o p x v w c = go (op_cut i q earlier b later eq o)
    where
      lt : p < q
      lt = forward ordered' c

      -- every own read so far
      listed : desk_list i h ≡ earlier → p < length h → Memᴰ (own_read p x v) earlier
      listed z l = rw z at (read_listed i h p x v (at_less h e p w l))

      go : OpCut i q earlier b → Memᴰ (own_read p x v) earlier
      go (op_old m z o' k) = s.causes.reads i b earlier m z q o' p x v (at_less h e p w (omega (arith, lt))) (prec_less h e ordered' c k)
      go (op_read y v z a d) = listed z (omega (arith, lt))
      go (op_write u k z a w') = let l = write-inside w' in listed z (omega (arith, lt))

  pub story-add : Story (add h e)
  story-add = record { ordered = ordered'; written = written'; once = once'; latest = latest'; causes = record { writes = causes-writes; reads = causes-reads } }
