-- What a held answer names, of every schedule with saves and reloads anywhere.
use Rattle.std.specs.Prelude.{◌≡◌, ◌≢◌, ◌∷◌, ◌++◌, ◌≤◌, ◌<◌}
use Rattle.laws.specs.Kit.{refl, sym, ap, subst, ◌∙◌, inl, inr, false, Option, List, [], some, ℕ, suc, arith}
use Rattle.laws.specs.{Says.{clash}, Update.{same_or, upd2-other, upd2-all}}
use Rattle.machine.specs.{Table.{most_desks, most_cells, Name, name, held, Open, State, fresh, mark_in, mark_of}, Answer.{holds}}
use Rattle.machine.specs.{Steps.{fails, failing, is_none, mark, hold, Deliver, Step, step}, Refusals.{Accepted}, Rules.{In, Rules}}
use Rattle.machine.specs.{History.{Event, desk_list, chained, Act, take_step, save_and_load, run, history}, Demand3.{WriteAt, Has}}
use Rattle.machine.specs.Demand3.{Missing}
use Rattle.machine.specs.HoldNames.{FirstMissing, Sendable, HoldNames}
use Rattle.machine.proofs.Order.{forward}
use Rattle.machine.proofs.Ready.{passes-own, passes-rest, ready_at_lem, failing-at}
use Rattle.machine.proofs.NamesObserved.{write_in}
use Rattle.machine.proofs.RulesKept.{fresh-rules, step-keeps-rules, one_place, done-counted}
use Rattle.machine.proofs.TableTraced.{origin_write}
use Rattle.machine.proofs.Refusals.{accepted-effect, accepted-exactly}
use Rattle.machine.proofs.Cases.{Delivery, deliver_cases, step_keeps}
use Rattle.machine.proofs.StepsTraced.{Observed, observed_fresh}
use Rattle.machine.proofs.RunsTraced.{rules-kept, observed_run}
use Rattle.machine.proofs.PaperRuns.{run-append}
use Rattle.machine.proofs.Demand3.{tells_at, fails-missing}

-- a write held beside another is held for what it would be alone
beside-hold : (s : State) (i u k t j : ℕ) {z z' : Name} → (t ≡ u → j ≡ k → ⊥) → (step s (Deliver i u k)).answer ≡ holds z
    → (step (step s (Deliver i u k)).state (Deliver i t j)).answer ≡ holds z' → (step s (Deliver i t j)).answer ≡ holds z'
beside-hold s i u k t j {z} {z'} ne =
    deliver_cases s i u k (λ o. o.answer ≡ holds z → (step o.state (Deliver i t j)).answer ≡ holds z' → (step s (Deliver i t j)).answer ≡ holds z')
    (λ r e. clash (cc))
    (λ x d _ f e. deliver_cases (hold s i u k x) i t j (λ o. o.answer ≡ holds z' → (step s (Deliver i t j)).answer ≡ holds z') (λ r e. clash (cc))
    (λ y d' z'' f' e'. let same : s.opens t j ≡ some y = sym (upd2-other s.opens u k (some (mark x i held)) t j ne) ∙ d'.is in
    rw (accepted-effect s (Deliver i t j) ((d'.desk, d'.writer), (d'.other, (d'.number, (rw same d'.is_away, tt)))), same, f') e')
    (λ y d' f' e'. clash (cc)))
    (λ x d f e. clash (cc))

module _ {s : State} {h : List Event} (r : Rules s) (b : Observed s h) where
  -- a write does not wait for itself
  not_itself : {i q t j u k : ℕ} → Missing h i q t j → WriteAt h q u k → t ≡ u → j ≡ k → ⊥
  not_itself {q = q} {u = u} {k = k} m w p c =
      let o = b.traced.story.ordered in
      let same : m.place ≡ q = o.once m.place q u k (rw (p, c) at m.write) w in
      omega (arith, forward o m.precedes)

  -- where a place passes, no write of that desk is missing
  passes_none : (i u k q : ℕ) (x : Open) → WriteAt h q u k → s.opens u k ≡ some x → (t j : ℕ) → fails (s.applied i) u x.vector t ≡ false → Missing h i q t j → ⊥
  passes_none i u k q x w e t j f m = m.unapplied ((b.traced.counts i t j).1 (n.1.0, enough))
    where
      n : In s.setup.desks t × In (s.applied t t) j
      n = write_in r b.traced m.write

      counted : j ≤ x.vector t
      counted = (tells_at r b (b.traced.opens u k x e) w t j n.1.0).1 (record { place = m.place; write = m.write; order = inr m.precedes })

      enough : j ≤ s.applied i t
      enough =
          same_or t u
          (λ p. let v : suc (s.applied i t) ≡ x.vector t = passes-own (s.applied i) t x.vector (rw (← p) at f) in
          let n : x.vector t ≡ k = ap x.vector p ∙ (r.frame.open-write u k x e).number in
          let d : j ≢ k = not_itself m w p in
          omega (arith, counted))
          (λ p. omega (arith, counted, passes-rest (s.applied i) u x.vector t p f))

  named-first : {i u k : ℕ} {x : Open} {z : Name} → Delivery s i u k x → failing s.setup.desks (s.applied i) u x.vector ≡ some z
      → (q : ℕ) → WriteAt h q u k → FirstMissing h i q z
  named-first {i} {u} {k} {x} {z} d e q w =
      let g = failing-at s.setup.desks (s.applied i) u x.vector z e in
      record {
        missing = rw g.number (fails-missing r b i u k q x d.desk w d.is (λ m. omega (arith, d.is_away)) z.writer g.there);
        earlier = λ j one lt. (b.traced.counts i z.writer j).1 (one, omega (arith, g.number));
        below = λ t j lt m. passes_none i u k q x w d.is t j (g.below t (write_in r b.traced m.write).0.0 lt) m;
      }

  -- there is one such write at most
  first_one : (i q : ℕ) (z z' : Name) → FirstMissing h i q z → FirstMissing h i q z' → z ≡ z'
  first_one i q z z' f f' = ap (λ (t : ℕ). name t z.number) desks ∙ ap (name z'.writer) numbers
    where
      desks : z.writer ≡ z'.writer
      desks =
          let low : ¬ (z.writer < z'.writer) = (λ l. f'.below z.writer z.number l f.missing) in
          let high : ¬ (z'.writer < z.writer) = (λ l. f.below z'.writer z'.number l f'.missing) in
          omega arith

      numbers : z.number ≡ z'.number
      numbers =
          let one = (write_in r b.traced f.missing.write).1.0 in
          let one' = (write_in r b.traced f'.missing.write).1.0 in
          let low : ¬ (z.number < z'.number) = (λ l. f.missing.unapplied (rw desks (f'.earlier z.number one l))) in
          let high : ¬ (z'.number < z.number) = (λ l. f'.missing.unapplied (rw (← desks) (f.earlier z'.number one' l))) in
          omega arith

  -- what t.j itself lacks, the write that waits for it lacks too
  larger : (i p q : ℕ) (z z' : Name) → FirstMissing h i q z → WriteAt h p z.writer z.number → FirstMissing h i p z' → z.writer < z'.writer
  larger i p q z z' f w f' =
      let low : ¬ (z'.writer < z.writer) = (λ l. f.below z'.writer z'.number l lacks) in
      let other : z'.writer ≢ z.writer = (λ d. itself (first_one i q z' z (record { missing = lacks; earlier = f'.earlier; below = λ t j l. f.below t j (rw d at l) }) f)) in
      omega arith
    where
      lacks : Missing h i q z'.writer z'.number
      lacks =
          let same : f.missing.place ≡ p = b.traced.story.ordered.once f.missing.place p z.writer z.number f.missing.write w in
          let m = f'.missing in
          record { place = m.place; write = m.write; precedes = chained m.precedes (rw same at f.missing.precedes); unapplied = m.unapplied }

      itself : z' ≡ z → ⊥
      itself e = not_itself f'.missing w (ap (λ (x : Name). x.writer) e) (ap (λ (x : Name). x.number) e)

  sendable : {i u k : ℕ} {x : Open} {z : Name} → Delivery s i u k x → failing s.setup.desks (s.applied i) u x.vector ≡ some z → Sendable (hold s i u k x) i z
  sendable {i} {u} {k} {x} {z} d f =
      let g = b.traced.opens u k x d.is in
      let m = (named-first d f g.place (origin_write g)).missing in
      let n = write_in r b.traced m.write in
      let lacks : ¬ (z.number ≤ s.applied i z.writer) = (λ l. m.unapplied ((b.traced.counts i z.writer z.number).1 (n.1.0, l))) in
      let other : i ≢ z.writer = (λ e. lacks (rw e n.1.1)) in
      let same : mark_of (hold s i u k x) i z.writer z.number ≡ mark_of s i z.writer z.number =
      ap (λ (o : Option Open). mark_in o i) (upd2-other s.opens u k (some (mark x i held)) z.writer z.number (not_itself m (origin_write g))) in
      elim (one_place r i z.writer z.number d.desk n.0 n.1) [
        | inl e ↦ inr ((accepted-exactly (hold s i u k x) (Deliver i z.writer z.number)).1 ((d.desk, n.0), (other, (n.1, (same ∙ e, tt)))))
        | inr o ↦ elim o [
          | inl e ↦ inl (same ∙ e)
          | inr e ↦ absurd (lacks ((done-counted r.frame i z.writer z.number d.desk n.0 n.1).0 e))
        ]
      ]

  pub hold_names_of : HoldNames s h
  hold_names_of = record { named = named; exactly = exactly; sent_next = sent_next; upwards = upwards }
    where
      sent_next : (i u k : ℕ) (z : Name) → (step s (Deliver i u k)).answer ≡ holds z → Sendable (step s (Deliver i u k)).state i z
      sent_next i u k z =
          deliver_cases s i u k (λ o. o.answer ≡ holds z → Sendable o.state i z) (λ r e. clash (cc))
          (λ x d z' f e. let same : z' ≡ z = cc in sendable d (rw same at f))
          (λ x d f e. clash (cc))

      named : (i u k : ℕ) (z : Name) → (step s (Deliver i u k)).answer ≡ holds z → (q : ℕ) × WriteAt h q u k × FirstMissing h i q z
      named i u k z =
          deliver_cases s i u k (λ o. o.answer ≡ holds z → (q : ℕ) × WriteAt h q u k × FirstMissing h i q z) (λ r e. clash (cc))
          (λ x d z' f e. let same : z' ≡ z = cc in
          let g = b.traced.opens u k x d.is in
          (g.place, origin_write g, named-first d (rw same at f) g.place (origin_write g)))
          (λ x d f e. clash (cc))

      upwards : (i u k : ℕ) (z z' : Name) → (step s (Deliver i u k)).answer ≡ holds z
          → (step (step s (Deliver i u k)).state (Deliver i z.writer z.number)).answer ≡ holds z' → z.writer < z'.writer
      upwards i u k z z' e e' =
          let n = named i u k z e in
          let n' = named i z.writer z.number z' (beside-hold s i u k z.writer z.number (not_itself n.2.missing n.1) e e') in
          larger i n'.0 n.0 z z' n.2 n'.1 n'.2

      exactly : (i u k q : ℕ) (z : Name) → Accepted (step s (Deliver i u k)).answer → WriteAt h q u k → FirstMissing h i q z
          → (step s (Deliver i u k)).answer ≡ holds z
      exactly i u k q z a w m =
          deliver_cases s i u k (λ o. Accepted o.answer → o.answer ≡ holds z) (λ r a. absurd (a r refl))
          (λ x d z' f a. ap holds (first_one i q z' z (named-first d f q w) m))
          (λ x d f a. let p = write_in r b.traced m.missing.write in
          absurd (passes_none i u k q x w d.is z.writer z.number (ready_at_lem s.setup.desks (s.applied i) u x.vector (ap is_none f) z.writer p.0) m.missing))
          a

-- a count never goes down
step_grows : (s : State) (a : Step) (i t : ℕ) → s.applied i t ≤ (step s a).state.applied i t
step_grows s a i t =
    step_keeps (λ z. s.applied i t ≤ z.applied i t) (λ z c o e. e)
    (λ z j u k w e. upd2-all z.applied j u (suc (z.applied j u)) (λ c d n. s.applied c d ≤ z.applied c d → s.applied c d ≤ n) i t
    (λ p q l. let same : z.applied i t ≡ z.applied j u = rw (p, q) in omega arith) (λ _ l. l) e)
    s start a
  where
    start : s.applied i t ≤ s.applied i t
    start = omega arith

-- a reload gives back every table that keeps the rules
module _ (reload : State → State) (same : (s : State) → Rules s → reload s ≡ s) where
  run_grows : {s : State} → Rules s → (l : List Act) (i t : ℕ) → s.applied i t ≤ (run reload s l).applied i t
  unfolding run
  run_grows r [] i t = omega arith
  run_grows {s} r (take_step a ∷ l) i t = omega (arith, step_grows s a i t, run_grows {s = (step s a).state} (step-keeps-rules r a) l i t)
  run_grows {s} r (save_and_load ∷ l) i t = subst (λ (x : State). s.applied i t ≤ (run reload x l).applied i t) (sym (same s r)) (run_grows r l i t)

  module _ (n m : ℕ) (hn : In most_desks n) (hm : In most_cells m) where
    rules : (l : List Act) → Rules (run reload (fresh n m) l)
    rules l = rules-kept reload same (fresh-rules n m hn hm) l

    observed : (l : List Act) → Observed (run reload (fresh n m) l) (history reload (fresh n m) l)
    observed l = observed_run reload same (fresh-rules n m hn hm) (observed_fresh n m) l

    pub hold-names : (l : List Act) → HoldNames (run reload (fresh n m) l) (history reload (fresh n m) l)
    hold-names l = hold_names_of (rules l) (observed l)

    -- after t.j is applied at i, `H t.j` is never the answer there again
    pub named-no-more : (l more : List Act) (i : ℕ) (z : Name) → Has (desk_list i (history reload (fresh n m) l)) z.writer z.number
        → (u k : ℕ) → (step (run reload (fresh n m) (l ++ more)) (Deliver i u k)).answer ≢ holds z
    named-no-more l more i z has u k e =
        let c = ((observed l).traced.counts i z.writer z.number).0 has in
        let g = rw (← run-append reload same (fresh n m) l more) at (run_grows (rules l) more i z.writer) in
        ((hold-names (l ++ more)).named i u k z e).2.missing.unapplied
        (((observed (l ++ more)).traced.counts i z.writer z.number).1 (c.0, omega (arith, c.1)))
