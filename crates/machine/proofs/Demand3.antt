-- Demand 3, of every schedule with saves and reloads anywhere.
use Rattle.std.specs.Prelude.{◌≡◌, ◌≢◌, ◌↔◌, ◌∷◌, ◌≤◌, ◌<◌}
use Rattle.laws.specs.Kit.{sym, ◌∙◌, ap, inl, inr, Iff-trans, true, List, Memᴰ-append_left, some, ℕ, suc}
use Rattle.laws.specs.{Kit.{arith}, Ends.{cut_at}, Update.{same_or}, Says.{apart}}
use Rattle.machine.specs.{Table.{most_desks, most_cells, Vec, name, away, held, done, Open, State, fresh, mark_of}, Steps.{fails}}
use Rattle.machine.specs.{Steps.{failing, is_none, ready}, Rules.{In, Rules}, History.{Event, write_at, applied, desk_list, Act, run}}
use Rattle.machine.specs.{History.{history}, Demand3.{WriteAt, of_write, Has, Missing, CauseMissing, Received}}
use Rattle.machine.specs.Demand3.{HeldIffCauseMissing, UpTo, Demand3}
use Rattle.machine.proofs.RulesKept.{fresh-rules, one_place, done-counted}
use Rattle.machine.proofs.Order.{at_one, HistoryOrdered, forward}
use Rattle.machine.proofs.TableTraced.{Origin, origin_write}
use Rattle.machine.proofs.StepsTraced.{Observed, observed_fresh}
use Rattle.machine.proofs.RunsTraced.{rules-kept, observed_run}
use Rattle.machine.proofs.NamesObserved.{write_in, names_observed, open-observed}
use Rattle.machine.proofs.Ready.{option_cases, failing-at}
use Rattle.machine.proofs.Ready.{fails-lacks, not-applied}

module _ {s : State} {h : List Event} (r : Rules s) (b : Observed s h) where
  ordered : HistoryOrdered h
  ordered = b.traced.story.ordered

  applied_observed : (i u k q : ℕ) → In s.setup.desks i → WriteAt h q u k → (mark_of s i u k ≡ done) ↔ Has (desk_list i h) u k
  applied_observed i u k q hi w =
      let c = write_in r b.traced w in
      Iff-trans (done-counted r.frame i u k hi c.0 c.1) (λ le. (b.traced.counts i u k).1 (c.1.0, le), λ m. ((b.traced.counts i u k).0 m).1)

  unreceived : (i u k q : ℕ) → In s.setup.desks i → WriteAt h q u k → (mark_of s i u k ≡ away) ↔ (Received h i u k → ⊥)
  unreceived i u k q hi w =
      option_cases (s.opens u k)
      (λ e. let d : mark_of s i u k ≡ done = rw e in
      (λ z. absurd (omega arith), λ n. absurd (n (b.marked.got i u k ((applied_observed i u k q hi w).0 d)))))
      (λ x e. let m = b.marked.marks u k x e i in
      let d : mark_of s i u k ≡ x.marks i = rw e in
      (λ z. m.not_yet (sym d ∙ z), λ n. d ∙ same_or (x.marks i) away (λ z. z) (λ z. absurd (n (m.came z)))))

  -- the vector of u.k, wherever u.k stands
  pub tells_at : {u k x v q : ℕ} {w : Vec} → Origin h u k x v w → WriteAt h q u k → (t j : ℕ) → 1 ≤ j → (j ≤ w t) ↔ UpTo h q t j
  tells_at {u} {k} {q = q} g a t j one = rw (ordered.once q g.place u k a (origin_write g)) (g.tells t j one)

  -- what a write counts that its desk has yet to apply
  lacked : (i u k q t j : ℕ) → WriteAt h q u k → UpTo h q t j → (t ≡ u → j ≡ k → ⊥) → s.applied i t < j → Missing h i q t j
  lacked i u k q t j w c ne lt = elim c.order [
    | inl z ↦ (let e : write_at t c.write.cell c.write.status j ≡ write_at u w.cell w.status k =
        at_one h q (rw z at c.write.at) w.at in
        absurd (ne (cc) (cc)))
    | inr p ↦ (let un : Has (desk_list i h) t j → ⊥ = (λ m. omega (arith, ((b.traced.counts i t j).0 m).1)) in
        record { place = c.place; write = c.write; precedes = p; unapplied = un })
  ]

  -- of an open write that is not applied there: the next write of a desk whose place fails
  pub fails-missing : (i u k q : ℕ) (x : Open) → In s.setup.desks i → WriteAt h q u k → s.opens u k ≡ some x → x.marks i ≢ done
      → (t : ℕ) → fails (s.applied i) u x.vector t ≡ true → Missing h i q t (suc (s.applied i t))
  fails-missing i u k q x hi w e ne t f =
      let o = r.frame.open-write u k x e in
      let l = fails-lacks (s.applied i) u x.vector (not-applied o i hi ne) t f in
      lacked i u k q t (suc (s.applied i t)) w ((tells_at (b.traced.opens u k x e) w t (suc (s.applied i t)) (omega arith)).0 l.0) (λ p z. l.1 p (z ∙ sym o.number)) (omega arith)

  held-lacks : (i u k q : ℕ) (x : Open) → In s.setup.desks i → WriteAt h q u k → s.opens u k ≡ some x → x.marks i ≡ held → CauseMissing h i q
  held-lacks i u k q x hi w e m =
      option_cases (failing s.setup.desks (s.applied i) u x.vector)
      (λ f. apart (ready s.setup.desks (s.applied i) u x.vector) (ap is_none f) (r.quiet i u k x e m))
      (λ z f. let g = failing-at s.setup.desks (s.applied i) u x.vector z f in
      record { writer = z.writer; number = suc (s.applied i z.writer); cause = fails-missing i u k q x hi w e (λ d. omega arith) z.writer g.there })

  held_iff : HeldIffCauseMissing s h
  held_iff i u k q hi w got = (to, from)
    where
      to : mark_of s i u k ≡ held → CauseMissing h i q
      to z =
          option_cases (s.opens u k) (λ e. let d : mark_of s i u k ≡ done = rw e in absurd (omega arith))
          (λ x e. let d : mark_of s i u k ≡ x.marks i = rw e in held-lacks i u k q x hi w e (sym d ∙ z))

      from : CauseMissing h i q → mark_of s i u k ≡ held
      from c = let n = write_in r b.traced w in elim (one_place r i u k hi n.0 n.1) [
        | inl z ↦ absurd ((unreceived i u k q hi w).0 z got)
        | inr o ↦ elim o [
          | inl z ↦ z
          | inr z ↦ (let p = cut_at ((applied_observed i u k q hi w).0 z) in
              let m = b.traced.story.causes.writes i (applied (name u k)) p.earlier p.later p.is q (of_write w) c.cause.place c.writer c.number c.cause.write c.cause.precedes in
              absurd (c.cause.unapplied (rw p.is (Memᴰ-append_left (applied (name u k) ∷ p.later) m))))
        ]
      ]

  pub demand_of : Demand3 s h
  demand_of = record {
    lists_accepted = b.traced.story.written;
    lists_once = b.traced.story.once;
    order_forward = λ p q c. forward ordered c;
    reads_latest = b.traced.story.latest;
    causes_first = b.traced.story.causes;
    held_iff_cause_missing = held_iff;
    places_observed = record { unreceived = unreceived; applied = applied_observed };
    vector_tells_order = record {
      of_open = λ u k q w e a. tells_at (b.traced.opens u k w e) a;
      of_cell = λ i x v u q w e a. tells_at (b.traced.cell i x v u w e) a;
    };
    names_observed = names_observed r b.traced;
    open-observed = open-observed r b.traced;
  }

-- a reload gives back every table that keeps the rules
module _ (reload : State → State) (same : (s : State) → Rules s → reload s ≡ s) where
  pub run-rules : (n m : ℕ) → In most_desks n → In most_cells m → (l : List Act) → Rules (run reload (fresh n m) l)
  run-rules n m hn hm l = rules-kept reload same (fresh-rules n m hn hm) l

  pub demand_3 : (n m : ℕ) → In most_desks n → In most_cells m → (l : List Act) → Demand3 (run reload (fresh n m) l) (history reload (fresh n m) l)
  demand_3 n m hn hm l = demand_of (run-rules n m hn hm l) (observed_run reload same (fresh-rules n m hn hm) (observed_fresh n m) l)
