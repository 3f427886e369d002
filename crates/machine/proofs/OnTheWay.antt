-- What is on its way to each desk: a write sends it, a receipt takes it, nothing else touches it.
use Rattle.std.specs.Prelude.{◌≡◌, ◌≢◌}
use Rattle.laws.specs.{Kit.{refl, sym, ap, ◌∙◌, fun_ext, true, false, Option, none, some, ℕ, arith, eq-eqb, ne_eqb}, Loop.{cases}}
use Rattle.laws.specs.Update.{upd, upd2, same_or, upd_same, upd-is}
use Rattle.machine.specs.{Table.{away, held, done, Open, State, fresh}, Steps.{within, still_open, mark, apply, hold, next_number}}
use Rattle.machine.specs.{Steps.{new_write, write}, Rules.{In}, Paper.{Message, sent, message_of, marked_of, desk}, PaperRuns.{Ways}}
use Rattle.machine.specs.PaperRuns.{send, take, ways_of, initially, system}
use Rattle.machine.specs.Within.{says-within}
use Rattle.machine.proofs.Desks.{marked_at, marked-is}
use Rattle.machine.proofs.Desks.{marked-not, marked-here, marked-there, applied-here, applied-there, marked-kept, marked-set}

-- what is on its way in a table of n desks with these open writes
abbrev among : ℕ → (ℕ → ℕ → Option Open) → Ways
among n f j = elim (within n j) [ true ↦ marked_at away j f | false ↦ λ u k. none ]

-- with nothing open nothing is on its way
pub ways-fresh : (n m : ℕ) → system (fresh n m) ≡ initially
ways-fresh n m = ap (λ (w : Ways). record { process = initially.process; ways = w }) (fun_ext (λ j. cases (within n j) (λ e. rw (e, ways_of)) (λ e. rw (e, ways_of))))

-- to a desk of the table, and past it
among_in : (n : ℕ) (f : ℕ → ℕ → Option Open) (j : ℕ) → In n j → among n f j ≡ marked_at away j f
among_in n f j h = rw ((says-within n j).from h, among)

among_past : (n : ℕ) (f : ℕ → ℕ → Option Open) (j : ℕ) → within n j ≡ false → among n f j ≡ (λ u k. none)
among_past n f j h = rw (h, among)

module _ (n i : ℕ) (m : Message) (w : Ways) (j : ℕ) where
  send-to : In n j → j ≢ i → send n i m w j ≡ upd2 (w j) i (m.Write_co i) (some m)
  send-to h ne = rw ((says-within n j).from h, ne_eqb j i ne, send)

  send_past : within n j ≡ false → send n i m w j ≡ w j
  send_past e = rw (e, send)

  send_self : In n j → j ≡ i → send n i m w j ≡ w j
  send_self h e = rw ((says-within n j).from h, eq-eqb j i e, send)

module _ (n : ℕ) (f : ℕ → ℕ → Option Open) where
  -- the entry u.k becomes o: not away from i any more, and to nothing that matters elsewhere
  ways-taken : (i u k : ℕ) (o : Option Open) → In n i → marked_of away i u o ≡ none
      → ((j : ℕ) → In n j → j ≢ i → marked_of away j u o ≡ marked_of away j u (f u k))
      → among n (upd2 f u k o) ≡ upd (among n f) i (upd2 (among n f i) u k none)
  ways-taken i u k o hi here there =
      upd-is (among n f) i (upd2 (among n f i) u k none) (among n (upd2 f u k o))
      (among_in n (upd2 f u k o) i hi ∙ sym (marked-set away f u k o i (among n f i) none here (λ v l ne. ap (λ (q : ℕ → ℕ → Option Message). q v l) (among_in n f i hi))))
      (λ j ne. cases (within n j)
      (λ e. let h = (says-within n j).to e in among_in n (upd2 f u k o) j h ∙ marked-kept away f u k o j (there j h ne) ∙ sym (among_in n f j h))
      (λ e. among_past n (upd2 f u k o) j e ∙ sym (among_past n f j e)))

  -- the entry u.k becomes o, to nothing that matters at any desk
  ways-kept : (u k : ℕ) (o : Option Open) → ((j : ℕ) → In n j → marked_of away j u o ≡ marked_of away j u (f u k)) → among n (upd2 f u k o) ≡ among n f
  ways-kept u k o there =
      fun_ext (λ j. cases (within n j)
      (λ e. let h = (says-within n j).to e in among_in n (upd2 f u k o) j h ∙ marked-kept away f u k o j (there j h) ∙ sym (among_in n f j h))
      (λ e. among_past n (upd2 f u k o) j e ∙ sym (among_past n f j e)))

  -- nothing at i.k becomes o: away from each other desk, as m
  ways-sent : (i k : ℕ) (m : Message) (o : Option Open) → f i k ≡ none → m.Write_co i ≡ k → marked_of away i i o ≡ none
      → ((j : ℕ) → In n j → j ≢ i → marked_of away j i o ≡ some m)
      → among n (upd2 f i k o) ≡ send n i m (among n f)
  ways-sent i k m o new number here there =
      fun_ext (λ j. cases (within n j) (λ e. inside j ((says-within n j).to e))
      (λ e. among_past n (upd2 f i k o) j e ∙ sym (send_past n i m (among n f) j e ∙ among_past n f j e)))
    where
      inside : (j : ℕ) → In n j → among n (upd2 f i k o) j ≡ send n i m (among n f) j
      inside j h =
          same_or j i
          (λ q. among_in n (upd2 f i k o) j h ∙ marked-kept away f i k o j (rw (q, new) here) ∙ sym (send_self n i m (among n f) j h q ∙ among_in n f j h))
          (λ q. among_in n (upd2 f i k o) j h
          ∙ sym (send-to n i m (among n f) j h q ∙ rw number
          (marked-set away f i k o j (among n f j) (some m) (there j h q) (λ v l ne. ap (λ (g : ℕ → ℕ → Option Message). g v l) (among_in n f j h)))))

-- The effects on a table --

module _ (s : State) (i u k : ℕ) (w : Open) (hi : In s.setup.desks i) (is : s.opens u k ≡ some w) (number : w.vector u ≡ k) where
  pub hold-takes : ways_of (hold s i u k w) ≡ take i u (message_of u w) (ways_of s)
  hold-takes =
      rw number (ways-taken s.setup.desks s.opens i u k (some (mark w i held)) hi (marked-here away i u w held (λ e. omega (arith, e)))
      (λ j h ne. marked-there away i u w held j ne ∙ ap (marked_of away j u) (sym is)))

  pub apply-takes : ways_of (apply s i u k w) ≡ take i u (message_of u w) (ways_of s)
  apply-takes =
      rw number (ways-taken s.setup.desks s.opens i u k (still_open s.setup.desks (mark w i done)) hi (applied-here s.setup.desks away i u w (omega arith))
      (λ j h ne. applied-there s.setup.desks away i u w (omega arith) j (λ e. h) ne ∙ ap (marked_of away j u) (sym is)))

  -- not received is on its way
  pub on_its_way : w.marks i ≡ away → ways_of s i u ((message_of u w).Write_co u) ≡ some (message_of u w)
  on_its_way a =
      rw number (ap (λ (g : ℕ → ℕ → Option Message). g u k) (among_in s.setup.desks s.opens i hi) ∙ ap (marked_of away i u) is ∙ marked-is away i u w a)

  -- held is not
  pub held_off : w.marks i ≡ held → ways_of (apply s i u k w) ≡ ways_of s
  held_off a =
      ways-kept s.setup.desks s.opens u k (still_open s.setup.desks (mark w i done)) (λ j h.
      same_or j i
      (λ e. rw e (applied-here s.setup.desks away i u w (omega arith) ∙ sym (ap (marked_of away i u) is ∙ marked-not away i u w (λ z. omega (arith, a, z)))))
      (λ ne. applied-there s.setup.desks away i u w (omega arith) j (λ e. h) ne ∙ ap (marked_of away j u) (sym is)))

pub write-sends : (s : State) (i x v : ℕ) → s.opens i (next_number s i) ≡ none
    → ways_of (write s i x v) ≡ send s.setup.desks i (sent i x (record { status = v; writer = i }) (desk s i)) (ways_of s)
write-sends s i x v new =
    ways-sent s.setup.desks s.opens i (next_number s i) (message_of i w) (still_open s.setup.desks (mark w i done)) new (upd_same (s.clock i) i _)
    (applied-here s.setup.desks away i i w (omega arith))
    (λ j h ne. applied-there s.setup.desks away i i w (omega arith) j (λ e. h) ne ∙ marked-is away j i w refl)
  where
    w : Open
    w = new_write s i x v

pub nothing-under : (s : State) (u k j : ℕ) → s.opens u k ≡ none → ways_of s j u k ≡ none
nothing-under s u k j e =
    cases (within s.setup.desks j) (λ t. rw (t, ways_of) (ap (marked_of away j u) e)) (λ f. rw (f, ways_of))
