-- A schedule of the machine, with saves and reloads, is a run of the paper's n processes and the messages between them.
use Rattle.std.specs.Prelude.{◌≡◌, ◌∷◌, ◌++◌, ◌≤◌, ◌<◌}
use Rattle.laws.specs.Kit.{refl, sym, ap, subst, ◌∙◌, not, List, map, [], Option, none, some, some-injective, ℕ, suc}
use Rattle.laws.specs.{Kit.{arith, dec_le}, Says.{apart}, Update.{upd, same_or, upd_same, upd_other, upd-is, upd2-all, upd2-same}}
use Rattle.laws.specs.Update.{upd2-other}
use Rattle.machine.specs.Table.{most_desks, most_cells, most_open, Name, name, held, Open, Setup, State, fresh, written}
use Rattle.machine.specs.{Answer.{wrote}, Steps.{Out, is_none, is_open, failing, apply, hold, next_number, write, settle, Step, Read}}
use Rattle.machine.specs.{Steps.{Write, Deliver, Trip, step}, Rules.{In, Frame, Rules}, Refusals.{Accepted}, Paper.{Message, Process}}
use Rattle.machine.specs.Paper.{start, sent, Action, a_write, a_read, a_receipt, a_thread, Does, ProcessRuns, ends, then, message_of}
use Rattle.machine.specs.{Paper.{desk, actions_of, receipt_of}, History.{Act, take_step, save_and_load, run}, PaperRuns.{Ways, System}}
use Rattle.machine.specs.PaperRuns.{take, Carries, sends, takes, none_by_read, none_by_thread, Deed, deed, Acts, acts, SystemRun}
use Rattle.machine.specs.PaperRuns.{over, and_then, ways_of, system, deeds_of, deeds, RunsAsPaper, SentIn, Receives, ReceivedIsSent}
use Rattle.machine.proofs.CountsRise.{Grown}
use Rattle.machine.proofs.Apply.{to_be_open, apply-written}
use Rattle.machine.proofs.RulesKept.{Midway, ReadyAt}
use Rattle.machine.proofs.RulesKept.{fresh-rules, step-keeps-rules, settle-all, delivered-at, delivered_midway}
use Rattle.machine.proofs.Refusals.{accepted-exactly, step_cases}
use Rattle.machine.proofs.Cases.{Delivery, deliver_cases, reads_keep}
use Rattle.machine.proofs.Cases.{step_keeps, setup_stays}
use Rattle.machine.proofs.Paper.{Moves, trip_reads_lem, new-number, read_moves}
use Rattle.machine.proofs.Paper.{write_moves, hold_moves, apply_moves, message-kept, message-sent}
use Rattle.machine.proofs.OnTheWay.{ways-fresh, hold-takes, apply-takes, on_its_way, held_off, write-sends, nothing-under}
use Rattle.machine.proofs.RunsTraced.{rules-kept}
use Rattle.machine.proofs.Ready.{option_all, option_cases, not-both}

pub desk-starts : (n m i : ℕ) → desk (fresh n m) i ≡ start
desk-starts n m i = refl

-- What one process does, the system does --

run_on : {n : ℕ} {c d e : System} {k l : List Deed} → SystemRun n c k d → SystemRun n d l e → SystemRun n c (k ++ l) e
run_on over r = r
run_on (and_then a q) r = and_then a (run_on q r)

module _ (n i : ℕ) (hi : In n i) (f : ℕ → Process) where
  -- p at i, the others at f
  abbrev at : Ways → Process → System
  at w p = record { process = upd f i p; ways = w }

  again : (p q : Process) → upd (upd f i p) i q ≡ upd f i q
  again p q = upd-is f i q (upd (upd f i p) i q) (upd_same (upd f i p) i q) (λ j ne. upd_other (upd f i p) i q j ne ∙ upd_other f i p j ne)

  one : {w w' : Ways} {p q : Process} {a : Action} → Does n i p a q → Carries n i p w a w' → Acts n (at w p) (deed i a) (at w' q)
  one {w} {w'} {p} {q} {a} d c =
      subst (λ (g : ℕ → Process). Acts n (at w p) (deed i a) (record { process = g; ways = w' })) (again p q)
      (acts hi (subst (λ (z : Process). Does n i z a q) (sym (upd_same f i p)) d) (subst (λ (z : Process). Carries n i z w a w') (sym (upd_same f i p)) c))

  -- actions that leave the messages
  abbrev Leave : List Action → Type 0
  Leave [] = Unit {0}
  Leave (a ∷ l) = ((p : Process) (w : Ways) → Carries n i p w a w) × Leave l

  quietly : {w : Ways} {p q : Process} {l : List Action} → ProcessRuns n i p l q → Leave l → SystemRun n (at w p) (map (deed i) l) (at w q)
  quietly ends u = over
  quietly {w} {p} (then {a = a} d r) u = and_then (one d (u.0 p w)) (quietly r u.1)

  reads_leave : (xs : List ℕ) → Leave (map a_read xs)
  reads_leave [] = tt
  reads_leave (x ∷ xs) = ((λ p w. none_by_read), reads_leave xs)

  threads_leave : (l : List Name) → Leave (map a_thread l)
  threads_leave [] = tt
  threads_leave (x ∷ l) = ((λ p w. none_by_thread), threads_leave l)

  first : {w w' : Ways} {p q : Process} {a : Action} {l : List Action} → ProcessRuns n i p (a ∷ l) q → Carries n i p w a w' → Leave l
      → SystemRun n (at w p) (map (deed i) (a ∷ l)) (at w' q)
  first (then d r) c u = and_then (one d c) (quietly r u)

-- between two tables
module _ {s : State} {i : ℕ} (hi : In s.setup.desks i) {l : List Action} {s' : State} (m : Moves s i l s') where
  between : {ds : List Deed} → SystemRun s.setup.desks (at s.setup.desks i hi (desk s) (ways_of s) (desk s i)) ds (at s.setup.desks i hi (desk s) (ways_of s') (desk s' i))
      → SystemRun s.setup.desks (system s) ds (system s')
  between {ds} r =
      subst (λ (f : ℕ → Process). SystemRun s.setup.desks (record { process = f; ways = ways_of s }) ds (system s'))
      (sym (upd-is (desk s) i (desk s i) (desk s) refl (λ j ne. refl)))
      (subst (λ (f : ℕ → Process). SystemRun s.setup.desks (at s.setup.desks i hi (desk s) (ways_of s) (desk s i)) ds (record { process = f; ways = ways_of s' }))
      (sym (upd-is (desk s) i (desk s' i) (desk s') refl m.others)) r)

  by_leaving : Leave s.setup.desks i hi (desk s) l → ways_of s' ≡ ways_of s → SystemRun s.setup.desks (system s) (map (deed i) l) (system s')
  by_leaving u e = between (rw e (quietly s.setup.desks i hi (desk s) m.runs u))

by_first : {s : State} {i : ℕ} (hi : In s.setup.desks i) {a : Action} {l : List Action} {s' : State} → Moves s i (a ∷ l) s'
    → Carries s.setup.desks i (desk s i) (ways_of s) a (ways_of s') → Leave s.setup.desks i hi (desk s) l → SystemRun s.setup.desks (system s) (map (deed i) (a ∷ l)) (system s')
by_first {s} {i} hi m c u = between hi m (first s.setup.desks i hi (desk s) m.runs c u)

-- what each application of a held write keeps, the cascade keeps
module _ (i : ℕ) (P : State → Type 0) (h : (s : State) (u k : ℕ) (w : Open) → Midway s i → ReadyAt s i u k w → w.marks i ≡ held → P s → P (apply s i u k w)) where
  cascade_keeps : (f : ℕ) {s : State} → Midway s i → In s.setup.desks i → P s → P (settle f s i).state
  cascade_keeps =
      settle-all (λ f s r. P s → P r.state) (λ s m p. p) (λ f s m e p. p)
      (λ f s u m d r t p. t (h s u (suc (s.applied i u)) d.entry m d.at d.is_held p))

-- the messages
settle-ways : (f : ℕ) {s : State} {i : ℕ} → Midway s i → In s.setup.desks i → ways_of (settle f s i).state ≡ ways_of s
settle-ways f {s} {i} m hi =
    cascade_keeps i (λ s'. ways_of s' ≡ ways_of s)
    (λ s' u k w m' r h e. held_off s' i u k w r.desk r.is (m'.frame.open-write u k w r.is).number h ∙ e) f m hi refl

-- One step --

-- an outcome as what the system does
abbrev AsPaper : State → Step → Out → Type 0
AsPaper s a o = SystemRun s.setup.desks (system s) (deeds_of s a o.answer) (system o.state)

module _ {s : State} (r : Rules s) where
  of_write : (i x v : ℕ) → In s.setup.desks i → SystemRun s.setup.desks (system s) (deed i (a_write x (record { status = v; writer = i })) ∷ []) (system (write s i x v))
  of_write i x v hi =
      let new = new-number i r.frame in
      by_first hi (write_moves r i x v)
      (subst (λ (w : Ways). Carries s.setup.desks i (desk s i) (ways_of s) (a_write x (record { status = v; writer = i })) w) (sym (write-sends s i x v new))
      (sends (λ j. rw upd_same (nothing-under s i (next_number s i) j new))))
      tt

  module _ {i u k : ℕ} {w : Open} (d : Delivery s i u k w) where
    abbrev Receipt : List Action → State → Type 0
    Receipt l s' = SystemRun s.setup.desks (system s) (map (deed i) (receipt_of u (s.opens u k) l)) (system s')

    of_receipt : {l : List Action} {s' : State} → Moves s i (a_receipt u (message_of u w) ∷ l) s' → ways_of s' ≡ take i u (message_of u w) (ways_of s)
        → Leave s.setup.desks i d.desk (desk s) l → Receipt l s'
    of_receipt {l} {s'} m e u' =
        subst (λ (o : Option Open). SystemRun s.setup.desks (system s) (map (deed i) (receipt_of u o l)) (system s')) (sym d.is)
        (by_first d.desk m
        (subst (λ (z : Ways). Carries s.setup.desks i (desk s i) (ways_of s) (a_receipt u (message_of u w)) z) (sym e)
        (takes (on_its_way s i u k w d.desk d.is (r.frame.open-write u k w d.is).number d.is_away)))
        u')

    of_hold : Receipt [] (hold s i u k w)
    of_hold = of_receipt (hold_moves r d) (hold-takes s i u k w d.desk d.is (r.frame.open-write u k w d.is).number) tt

    of_apply : failing s.setup.desks (s.applied i) u w.vector ≡ none
        → Receipt (a_thread (name u k) ∷ map a_thread (settle most_open (apply s i u k w) i).names) (settle most_open (apply s i u k w) i).state
    of_apply e =
        of_receipt (apply_moves r d e)
        (settle-ways most_open (delivered_midway r d e) d.desk
        ∙ apply-takes s i u k w d.desk d.is (r.frame.open-write u k w d.is).number)
        (threads_leave s.setup.desks i d.desk (desk s) (name u k ∷ (settle most_open (apply s i u k w) i).names))

  of_step : (a : Step) → AsPaper s a (step s a)
  of_step (Read i x) =
      step_cases s (Read i x) (AsPaper s (Read i x)) (λ r. over)
      (λ h. by_leaving h.0 (read_moves s i x) (reads_leave s.setup.desks i h.0 (desk s) (x ∷ [])) refl)
  of_step (Write i x v) = step_cases s (Write i x v) (AsPaper s (Write i x v)) (λ r. over) (λ h. of_write i x v h.0)
  of_step (Deliver i u k) = deliver_cases s i u k (AsPaper s (Deliver i u k)) (λ r. over) (λ w d t e. of_hold d) (λ w d e. of_apply d e)
  of_step (Trip i xs) =
      step_cases s (Trip i xs) (AsPaper s (Trip i xs)) (λ r. over)
      (λ h. by_leaving h.0 (trip_reads_lem i xs s) (reads_leave s.setup.desks i h.0 (desk s) xs) (reads_keep (λ s'. ways_of s' ≡ ways_of s) i (λ s' x e. e) xs s refl))

-- Schedules --

-- counts only rise, and the setup stays
step_grown : (s : State) (a : Step) → Grown s (step s a).state
step_grown s =
    step_keeps (Grown s) (λ z c o g. record { setup = g.setup; more = g.more })
    (λ z i u k w g. record {
      setup = g.setup;
      more = λ j t. upd2-all z.applied i u (suc (z.applied i u)) (λ j t c. s.applied j t ≤ c) j t
          (λ p q. rw (p, q) (omega (arith, g.more i u))) (λ n. g.more j t);
    })
    s (record { setup = refl; more = λ j t. omega arith })

module _ (reload : State → State) (same : (s : State) → Rules s → reload s ≡ s) where
  runs_on : {s : State} → Rules s → (l : List Act) → SystemRun s.setup.desks (system s) (deeds reload s l) (system (run reload s l))
  unfolding run deeds
  runs_on r [] = over
  runs_on {s} r (take_step a ∷ l) =
      run_on (of_step r a) (subst (λ (z : Setup). SystemRun z.desks (system (step s a).state) (deeds reload (step s a).state l) (system (run reload (step s a).state l))) (setup_stays s a) (runs_on {s = (step s a).state} (step-keeps-rules r a) l))
  runs_on {s} r (save_and_load ∷ l) = rw (same s r) (runs_on r l)

  pub runs_as_paper : (n m : ℕ) → In most_desks n → In most_cells m → (l : List Act) → RunsAsPaper reload n m l
  runs_as_paper n m hn hm l =
      subst (λ (c : System). SystemRun n c (deeds reload (fresh n m) l) (system (run reload (fresh n m) l))) (ways-fresh n m) (runs_on (fresh-rules n m hn hm) l)

-- What is received was sent --

-- an accepted write that is applied everywhere is not open again
never_again : {s s' : State} → Frame s → Frame s' → Grown s s' → (u k : ℕ) → In (written s u) k → s.opens u k ≡ none → s'.opens u k ≡ none
never_again {s} {s'} f f' g u k h e =
    option_all (λ o. o ≡ none) (s'.opens u k) (λ q. refl)
    (λ w q. let t = to_be_open f' u k q in
    let l = t.lacks in
    let still = (f.open-exactly u k).1 (record {
      writer = subst (λ (z : Setup). In z.desks u) g.setup t.writer;
      number = h;
      lacks = record {
        desk = l.desk;
        desk_in = subst (λ (z : Setup). In z.desks l.desk) g.setup l.desk_in;
        lower = omega (arith, l.lower, g.more l.desk u);
      };
    }) in
    apart (is_open s u k) still (ap (λ (o : Option Open). not (is_none o)) e))

-- u.k was written, and if it is open it has the message m
record CarriesOn (u k : ℕ) (m : Message) (s : State) : Type 0 where
  number : In (written s u) k
  message : (w : Open) → s.opens u k ≡ some w → message_of u w ≡ m

step_carries : {u k : ℕ} {m : Message} {s : State} → Rules s → (a : Step) → CarriesOn u k m s → CarriesOn u k m (step s a).state
step_carries {u} {k} {m} {s} r a c = record {
  number = (c.number.0, omega (arith, c.number, (step_grown s a).more u u));
  message = λ w e. option_cases (s.opens u k)
      (λ q. not-both (never_again r.frame (step-keeps-rules r a).frame (step_grown s a) u k c.number q) e)
      (λ w₀ q. message-kept r a u k w₀ w q e ∙ c.message w₀ q);
}

-- the write that is answered u.k
write_carries : {s : State} → Rules s → (u x v k : ℕ) → 2 ≤ s.setup.desks → (step s (Write u x v)).answer ≡ wrote (name u k)
    → CarriesOn u k (sent u x (record { status = v; writer = u }) (desk s u)) (step s (Write u x v)).state
write_carries {s} r u x v k two e =
    let o = message-sent s u x v k two e in
    record {
      number = (to_be_open (step-keeps-rules r (Write u x v)).frame u k o.is).number;
      message = λ w q. ap (message_of u) (some-injective w o.entry (sym q ∙ o.is)) ∙ o.message;
    }

-- an accepted delivery receives it
deliver_receives : (s : State) (i u k : ℕ) (m : Message) → CarriesOn u k m s → Accepted (step s (Deliver i u k)).answer
    → Receives u m (actions_of s (Deliver i u k) (step s (Deliver i u k)).answer)
deliver_receives s i u k m c =
    deliver_cases s i u k (λ o. Accepted o.answer → Receives u m (actions_of s (Deliver i u k) o.answer)) (λ r a. absurd (a r refl))
    (λ w d t f a. receives w d.is [])
    (λ w d f a. receives w d.is (map a_thread (name u k ∷ (settle most_open (apply s i u k w) i).names)))
  where
    receives : (w : Open) → s.opens u k ≡ some w → (rest : List Action) → Receives u m (receipt_of u (s.opens u k) rest)
    receives w e rest =
        record { rest = rest; is = ap (λ (o : Option Open). receipt_of u o rest) e ∙ ap (λ (z : Message). a_receipt u z ∷ rest) (c.message w e) }

-- what a step that raises u's own count to k is
data Wrote (s : State) (u k : ℕ) : Step → Type 0 where
  wrote_as : {x v : ℕ} → (step s (Write u x v)).answer ≡ wrote (name u k) → Wrote s u k (Write u x v)

-- no other step does
written-kept : {s : State} → Rules s → (i u k t : ℕ) → written (step s (Deliver i u k)).state t ≡ written s t
written-kept {s} r i u k t =
    deliver_cases s i u k (λ o. written o.state t ≡ written s t) (λ r. refl) (λ w d t e. refl)
    (λ w d e.
    cascade_keeps i (λ s'. written s' t ≡ written s t) (λ s' u k w m y h e. apply-written m.frame y t ∙ e) most_open
    (delivered_midway r d e) d.desk
    (apply-written r.frame (delivered-at r d e) t))

wrote-step : {s : State} → Rules s → (u k : ℕ) (a : Step) → written s u < k → k ≤ written (step s a).state u → Wrote s u k a
wrote-step {s} r u k (Read i x) low high =
    absurd (step_cases s (Read i x) (λ o. k ≤ written o.state u → ⊥) (λ r h. omega (arith, low, h)) (λ g h. omega (arith, low, h)) high)
wrote-step {s} r u k (Deliver i t j) low high = absurd (omega (arith, low, high, written-kept r i t j u))
wrote-step {s} r u k (Trip i xs) low high =
    absurd (step_cases s (Trip i xs) (λ o. k ≤ written o.state u → ⊥) (λ r h. omega (arith, low, h))
    (λ g h. (let e = reads_keep (λ s'. written s' u ≡ written s u) i (λ s' x e. e) xs s refl in omega (arith, low, h, e))) high)
wrote-step {s} r u k (Write i x v) low high =
    same_or u i
    (λ e. subst (λ (j : ℕ). Wrote s u k (Write j x v)) e (wrote_as (own (subst (λ (j : ℕ). k ≤ written (step s (Write j x v)).state u) (sym e) high))))
    (λ ne. absurd (step_cases s (Write i x v) (λ o. k ≤ written o.state u → ⊥) (λ r h. omega (arith, low, h))
    (λ g h. (let e = upd2-other s.applied i i (suc (s.applied i i)) u u (λ p q. ne p) in omega (arith, low, h, e))) high))
  where
    own : k ≤ written (step s (Write u x v)).state u → (step s (Write u x v)).answer ≡ wrote (name u k)
    own =
        step_cases s (Write u x v) (λ o. k ≤ written o.state u → o.answer ≡ wrote (name u k)) (λ r h. absurd (omega (arith, low, h)))
        (λ g h.
        let c = r.frame.clocks.own u in
        let e = upd2-same s.applied u u (suc (s.applied u u)) in
        let next : next_number s u ≡ k = omega (arith, low, h, c, e) in
        ap (λ (n : ℕ). wrote (name u n)) next)

module _ (reload : State → State) (same : (s : State) → Rules s → reload s ≡ s) where
  pub run-append : (s : State) (k l : List Act) → run reload s (k ++ l) ≡ run reload (run reload s k) l
  unfolding run
  run-append s [] l = refl
  run-append s (take_step a ∷ k) l = run-append (step s a).state k l
  run-append s (save_and_load ∷ k) l = run-append (reload s) k l

  run_carries : {u k : ℕ} {m : Message} {s : State} → Rules s → (l : List Act) → CarriesOn u k m s → CarriesOn u k m (run reload s l)
  unfolding run
  run_carries r [] c = c
  run_carries {s = s} r (take_step a ∷ l) c = run_carries {s = (step s a).state} (step-keeps-rules r a) l (step_carries r a c)
  run_carries {s = s} r (save_and_load ∷ l) c = rw (same s r) (run_carries r l c)

  run-setup : {s : State} → Rules s → (l : List Act) → (run reload s l).setup ≡ s.setup
  unfolding run
  run-setup r [] = refl
  run-setup {s} r (take_step a ∷ l) = run-setup {s = (step s a).state} (step-keeps-rules r a) l ∙ setup_stays s a
  run-setup {s} r (save_and_load ∷ l) = ap (λ (z : State). (run reload z l).setup) (same s r) ∙ run-setup r l

  run-desks : {s : State} → Rules s → (l : List Act) → (run reload s l).setup.desks ≡ s.setup.desks
  run-desks r l = ap (λ (z : Setup). z.desks) (run-setup r l)

  -- the write, and all that comes after it
  sent_carries : {s : State} → Rules s → (l : List Act) (u k : ℕ) (m : Message) → 2 ≤ s.setup.desks → SentIn reload s l u k m → CarriesOn u k m (run reload s l)
  unfolding run
  sent_carries {s} r l u k m two d =
      let r' = rules-kept reload same r d.before in
      let a = Write u d.cell d.status in
      rw (d.is, run-append s d.before (take_step a ∷ d.after), ← d.message)
      (run_carries (step-keeps-rules r' a) d.after (write_carries r' u d.cell d.status k (omega (arith, two, run-desks r d.before)) d.answered))

  -- what was sent from s' on was sent from s, if the act b leads there
  later : {s s' : State} {l : List Act} {u k : ℕ} (b : Act) → ((l : List Act) → run reload s (b ∷ l) ≡ run reload s' l)
      → (m : Message) × SentIn reload s' l u k m → (m : Message) × SentIn reload s (b ∷ l) u k m
  later b e (m, d) = (
    m,
    record {
      before = b ∷ d.before;
      cell = d.cell;
      status = d.status;
      after = d.after;
      is = ap (◌∷◌ b) d.is;
      answered = rw (e d.before) d.answered;
      message = rw (e d.before) d.message;
    },
  )

  -- some write of the schedule is answered u.k
  finds : {s : State} → Rules s → (u k : ℕ) (l : List Act) → written s u < k → k ≤ written (run reload s l) u → (m : Message) × SentIn reload s l u k m
  unfolding run
  finds r u k [] low high = absurd (omega (arith, low, high))
  finds {s} r u k (save_and_load ∷ l) low high = later save_and_load (λ l. refl) (finds (rw (same s r) r) u k l (rw (same s r) low) high)
  finds {s} r u k (take_step a ∷ l) low high = by (finds {s = (step s a).state} (step-keeps-rules r a) u k l) (dec_le k (written (step s a).state u))
    where
      here : (a : Step) → Wrote s u k a → (m : Message) × SentIn reload s (take_step a ∷ l) u k m
      here a (wrote_as {x} {v} e) = (
        sent u x (record { status = v; writer = u }) (desk s u),
        record { before = []; cell = x; status = v; after = l; is = refl; answered = e; message = refl },
      )

      by : (written (step s a).state u < k → k ≤ written (run reload (step s a).state l) u → (m : Message) × SentIn reload (step s a).state l u k m)
          → Dec (k ≤ written (step s a).state u) → (m : Message) × SentIn reload s (take_step a ∷ l) u k m
      by again (yes h) = here a (wrote-step r u k a low h)
      by again (no h) = later (take_step a) (λ l. refl) (again (omega arith) high)

  pub received-is-sent : (n m : ℕ) → In most_desks n → In most_cells m → (l : List Act) (i u k : ℕ)
      → Accepted (step (run reload (fresh n m) l) (Deliver i u k)).answer → ReceivedIsSent reload (fresh n m) l i u k
  received-is-sent n m hn hm l i u k ok =
      let rows = (accepted-exactly (run reload (fresh n m) l) (Deliver i u k)).0 ok in
      let r = fresh-rules n m hn hm in
      let same-desks = run-desks r l in
      record {
        was_sent = finds r u k l rows.1.1.0.0 rows.1.1.0.1;
        received = λ q d.
            deliver_receives (run reload (fresh n m) l) i u k q
            (sent_carries r l u k q (omega (arith, same-desks, rows.0.0, rows.0.1, rows.1.0)) d) ok;
      }
