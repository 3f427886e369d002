-- The marks of open writes against the receipts of the history.
use Rattle.std.specs.Prelude.{◌≡◌}
use Rattle.laws.specs.{Kit.{sym, ap, subst, List, Option, some, ℕ, length}, Ends.{before, last, at-either}}
use Rattle.laws.specs.{Update.{upd2, upd-all, upd2-all}, Says.{clash}}
use Rattle.machine.specs.{Table.{Name, name, away, Open}, Steps.{mark}, History.{Event, receive_at, apply_at, desk_list, At}}
use Rattle.machine.specs.Demand3.{WriteAt, Has, Received, its_own, delivered}
use Rattle.machine.proofs.Order.{add, at_old, at_new, write_old}
use Rattle.machine.proofs.Entries.{applied_cases}

-- the mark m of u.k at i: away exactly if it was not received
pub record Mark (h : List Event) (i u k m : ℕ) : Type 0 where
  pub not_yet : m ≡ away → Received h i u k → ⊥
  pub came : (m ≡ away → ⊥) → Received h i u k

pub record Marked (opens : ℕ → ℕ → Option Open) (h : List Event) : Type 0 where
  pub sent : (p i u k : ℕ) → At h p (receive_at i (name u k)) → (q : ℕ) × WriteAt h q u k
  pub got : (i u k : ℕ) → Has (desk_list i h) u k → Received h i u k
  pub marks : (u k : ℕ) (w : Open) → opens u k ≡ some w → (i : ℕ) → Mark h i u k (w.marks i)

module _ (h : List Event) (e : Event) where
  pub received_old : {i u k : ℕ} → Received h i u k → Received (add h e) i u k
  received_old (its_own q) = its_own q
  received_old (delivered p a) = delivered p (at_old h e p a)

  pub received_less : {i u k : ℕ} → (e ≡ receive_at i (name u k) → ⊥) → Received (add h e) i u k → Received h i u k
  received_less n (its_own q) = its_own q
  received_less {i} {u} {k} n (delivered p a) =
      elim (at-either h e p (receive_at i (name u k)) a) [ before b ↦ delivered p b | last _ q ↦ absurd (n q) ]

  mark-same : {i u k m : ℕ} → (e ≡ receive_at i (name u k) → ⊥) → Mark h i u k m → Mark (add h e) i u k m
  mark-same n r = record { not_yet = λ z a. r.not_yet z (received_less n a); came = λ z. received_old (r.came z) }

  -- a new receipt is of an accepted write; what is applied was received
  more-sent : {opens : ℕ → ℕ → Option Open} → Marked opens h → ((i u k : ℕ) → e ≡ receive_at i (name u k) → (q : ℕ) × WriteAt h q u k)
      → (p i u k : ℕ) → At (add h e) p (receive_at i (name u k)) → (q : ℕ) × WriteAt (add h e) q u k
  more-sent r f p i u k a =
      let z : (q : ℕ) × WriteAt h q u k = elim (at-either h e p
      (receive_at i (name u k)) a) [ before b ↦ r.sent p i u k b | last _ q ↦ f i u k q ] in
      (z.0, write_old h e z.1)

  more-got : {opens : ℕ → ℕ → Option Open} → Marked opens h → ((i u k : ℕ) → e ≡ apply_at i (name u k) → Received h i u k)
      → (i u k : ℕ) → Has (desk_list i (add h e)) u k → Received (add h e) i u k
  more-got r f i u k m = received_old (applied_cases i h e m (r.got i u k) (f i u k))

  -- an event that is no receipt
  pub marked-add : {opens : ℕ → ℕ → Option Open} → Marked opens h → ((i u k : ℕ) → e ≡ receive_at i (name u k) → ⊥)
      → ((i u k : ℕ) → e ≡ apply_at i (name u k) → Received h i u k) → Marked opens (add h e)
  marked-add r n f = record {
    sent = more-sent r (λ i u k q. absurd (n i u k q));
    got = more-got r f;
    marks = λ u k w q i. mark-same (n i u k) (r.marks u k w q i);
  }

-- u.k, received at i, is marked there
module _ {opens : ℕ → ℕ → Option Open} {h : List Event} (i u k m : ℕ) (w : Open) (got : Received h i u k) (ne : m ≡ away → ⊥)
    (o : Option Open) (is : (w' : Open) → o ≡ some w' → mark w i m ≡ w') where
  pub marks_put : ((u' k' : ℕ) (w' : Open) → (u' ≡ u → k' ≡ k → ⊥) → opens u' k' ≡ some w' → (j : ℕ) → Mark h j u' k' (w'.marks j))
      → ((j : ℕ) → (j ≡ i → ⊥) → Mark h j u k (w.marks j))
      → (u' k' : ℕ) (w' : Open) → upd2 opens u k o u' k' ≡ some w' → (j : ℕ) → Mark h j u' k' (w'.marks j)
  marks_put others these u' k' =
      upd2-all opens u k o (λ u' k' o. (w' : Open) → o ≡ some w' → (j : ℕ) → Mark h j u' k' (w'.marks j)) u' k'
      (λ eu ek w' q j. rw (eu, ek, ← is w' q) (upd-all w.marks i m (λ j m. Mark h j u k m) j
      (λ z. record { not_yet = λ y _. ne y; came = λ _. rw z got }) (these j)))
      (λ n w' q j. others u' k' w' n q j)

  pub marked_put : Marked opens h → opens u k ≡ some w → Marked (upd2 opens u k o) h
  marked_put r q = record { sent = r.sent; got = r.got; marks = marks_put (λ u' k' w' _ z. r.marks u' k' w' z) (λ j _. r.marks u k w q j) }

-- u.k is received at i, and marked there
pub marked_receive : {opens : ℕ → ℕ → Option Open} {h : List Event} (i u k m : ℕ) (w : Open) → (m ≡ away → ⊥)
    → (o : Option Open) → ((w' : Open) → o ≡ some w' → mark w i m ≡ w')
    → Marked opens h → opens u k ≡ some w → (q : ℕ) → WriteAt h q u k → Marked (upd2 opens u k o) (add h (receive_at i (name u k)))
marked_receive {opens} {h} i u k m w ne o is r q p a = record {
  sent = more-sent h e r (λ i' u' k' z. let y : name u k ≡ name u' k' = cc in (p, subst (λ (n : Name). WriteAt h p n.writer n.number) y a));
  got = more-got h e r (λ i' u' k' z. clash (cc));
  marks = marks_put i u k m w (delivered (length h) (at_new h e)) ne o is
      (λ u' k' w' n z j. mark-same h e (λ y. let d : name u k ≡ name u' k' = cc in n (ap (λ (n : Name). n.writer) (sym d)) (ap (λ (n : Name). n.number) (sym d))) (r.marks u' k' w' z j))
      (λ j n. mark-same h e (λ y. n (cc)) (r.marks u k w q j));
}
  where
    e : Event
    e = receive_at i (name u k)
