-- Every accepted step is a run of the paper's atomic actions at its desk, after which no waiting thread is enabled anywhere.
use Rattle.std.specs.Prelude.{◌≡◌, ◌≢◌, ◌∷◌, ◌≤◌}
use Rattle.laws.specs.Kit.{refl, sym, ap, subst, ◌∙◌, true, List, map, [], Option, none, some, ℕ, arith}
use Rattle.laws.specs.{Update.{upd2, same_or, upd_other, upd2-same, upd2-other, upd2-all}, Says.{clash}}
use Rattle.machine.specs.Table.{most_open, Name, name, Cell, blank, set, held, done, Open, Setup, State}
use Rattle.machine.specs.{Answer.{shown_of, shows, wrote}, Steps.{Out, failing, read, everywhere, mark, apply, hold, next_number}}
use Rattle.machine.specs.Steps.{new_write, raise, write, Settled, settle, reads, Step, Read, Write, Deliver, Trip, step}
use Rattle.machine.specs.{Rules.{In, Frame, Rules}, Refusals.{Accepted}, Paper.{Message, Process, READ, sent, returned, a_write}}
use Rattle.machine.specs.Paper.{a_read, a_receipt, a_thread, Action, Does, does_write, does_read, does_receipt, does_thread}
use Rattle.machine.specs.Paper.{ProcessRuns, ends, then, Idle, vector_of, value_of, message_of, waiting_of, desk, receipt_of, actions_of}
use Rattle.machine.specs.Paper.{actor, PaperRun, KeepsMessage, OpenAs, shown_returned}
use Rattle.machine.proofs.RulesKept.{Midway, ReadyAt, ready-next}
use Rattle.machine.proofs.RulesKept.{step-keeps-rules, settle-all, delivered-at, delivered_midway}
use Rattle.machine.proofs.Refusals.{step_cases}
use Rattle.machine.proofs.Cases.{Delivery, deliver_cases, still_cases, settle-keeps, reads_keep}
use Rattle.machine.proofs.Cases.{setup_stays}
use Rattle.machine.proofs.Desks.{Waiting, waiting_at, set_all, marked-is, quiet-idle, read_here}
use Rattle.machine.proofs.Desks.{read-there, receipt-here, hold-there, resume-here, apply-there, write-here, write-there}
use Rattle.machine.proofs.Ready.{option_cases, done-everywhere, not-both}

-- a waiting message that is ready goes on, whatever else waits
thread : {s : State} {i u k : ℕ} {w : Open} → Frame s → ReadyAt s i u k w → (q : Waiting)
    → ((v l : ℕ) → (v ≡ u → l ≡ k → ⊥) → q v l ≡ waiting_at i s.opens v l) → q u k ≡ some (message_of u w)
    → Does s.setup.desks i (set_all q (desk s i)) (a_thread (name u k)) (desk (apply s i u k w) i)
thread {s} {i} {u} {k} {w} f r q same e =
    let next = ready-next f r in
    let number = (f.open-write u k w r.is).number in
    subst (λ (p : Process). Does s.setup.desks i (set_all q (desk s i)) (a_thread (name u k)) p)
    (resume-here s i u k w q number same)
    (does_thread (message_of u w) e (record { others = λ t h ne. next.rest t ne; own = next.next ∙ sym number }))

reads_as : (s : State) (i x : ℕ) → Does s.setup.desks i (desk s i) (a_read x) (desk (read s i x) i)
reads_as s i x = subst (λ (p : Process). Does s.setup.desks i (desk s i) (a_read x) p) (read_here s i x) does_read

-- from s to s': actions at i, nothing elsewhere
pub record Moves (s : State) (i : ℕ) (l : List Action) (s' : State) : Type 0 where
  pub runs : ProcessRuns s.setup.desks i (desk s i) l (desk s' i)
  pub others : (j : ℕ) → j ≢ i → desk s' j ≡ desk s j

-- one application, then the rest
apply-then : {s : State} {i u k : ℕ} {w : Open} {l : List Action} {s' : State} → Frame s → ReadyAt s i u k w → w.marks i ≡ held
    → Moves (apply s i u k w) i l s' → Moves s i (a_thread (name u k) ∷ l) s'
apply-then {s} {i} {u} {k} {w} f r h m =
    record {
      runs = then (thread f r (waiting_at i s.opens) (λ v l n. refl) (ap (waiting_of i u) r.is ∙ marked-is held i u w h)) m.runs;
      others = λ j ne. m.others j ne ∙ apply-there s i u k w (f.open-write u k w r.is).marks_flat j ne (ap (waiting_of j u) (sym r.is));
    }

stays : {s : State} {i : ℕ} → Moves s i [] s
stays = record { runs = ends; others = λ j ne. refl }

abbrev pub Cascades : State → ℕ → Settled → Type 0
Cascades s i r = Moves s i (map a_thread r.names) r.state

pub cascade : (f : ℕ) {s : State} {i : ℕ} → Midway s i → In s.setup.desks i → Cascades s i (settle f s i)
cascade f {i = i} m hi =
    settle-all (λ f s r. Cascades s i r) (λ s m. stays) (λ f s m e. stays)
    (λ f s u m d r t. apply-then m.frame d.at d.is_held t) f m hi

-- Read and trip --

pub read_moves : (s : State) (i x : ℕ) → Moves s i (a_read x ∷ []) (read s i x)
read_moves s i x = record { runs = then (reads_as s i x) ends; others = read-there s i x }

pub trip_reads_lem : (i : ℕ) (xs : List ℕ) (s : State) → Moves s i (map a_read xs) (reads s i xs).state
unfolding reads
trip_reads_lem i [] s = stays
trip_reads_lem i (x ∷ xs) s =
    let m = trip_reads_lem i xs (read s i x) in
    record {
      runs = then (reads_as s i x) m.runs;
      others = λ j ne. m.others j ne ∙ read-there s i x j ne;
    }

-- The steps --

-- the next number of i is not open yet
pub new-number : {s : State} (i : ℕ) → Frame s → s.opens i (next_number s i) ≡ none
new-number {s} i f =
    option_cases (s.opens i (next_number s i)) (λ e. e)
    (λ w e. let t = (f.open-exactly i (next_number s i)).0 (rw e) in absurd (omega (arith, t.number.1, f.clocks.own i)))

-- an outcome that, if accepted, is its actions
abbrev IsRun : State → Step → Out → Type 0
IsRun s a o = Accepted o.answer → Moves s (actor a) (actions_of s a o.answer) o.state

module _ {s : State} (r : Rules s) where
  pub write_moves : (i x v : ℕ) → Moves s i (a_write x (record { status = v; writer = i }) ∷ []) (write s i x v)
  write_moves i x v =
      let new = new-number i r.frame in
      record {
        runs = then (subst (λ (p : Process). Does s.setup.desks i (desk s i) (a_write x (record { status = v; writer = i })) p) (write-here s i x v new) does_write) ends;
        others = write-there s i x v new;
      }

  module _ {i u k : ℕ} {w : Open} (d : Delivery s i u k w) where
    of_open : {l : List Action} {s' : State} → Moves s i (a_receipt u (message_of u w) ∷ l) s' → Moves s i (receipt_of u (s.opens u k) l) s'
    of_open {l} {s'} m = subst (λ (o : Option Open). Moves s i (receipt_of u o l) s') (sym d.is) m

    pub hold_moves : Moves s i (a_receipt u (message_of u w) ∷ []) (hold s i u k w)
    hold_moves =
        record {
          runs = then (subst (λ (p : Process). Does s.setup.desks i (desk s i) (a_receipt u (message_of u w)) p) (receipt-here s i u k w (r.frame.open-write u k w d.is).number) does_receipt) ends;
          others = hold-there s i u k w d.is;
        }

    pub apply_moves : failing s.setup.desks (s.applied i) u w.vector ≡ none
        → Moves s i (a_receipt u (message_of u w) ∷ a_thread (name u k) ∷ map a_thread (settle most_open (apply s i u k w) i).names) (settle most_open (apply s i u k w) i).state
    apply_moves e =
        let o = r.frame.open-write u k w d.is in
        let at = delivered-at r d e in
        let rest = cascade most_open (delivered_midway r d e) d.desk in
        record {
          runs =
              then does_receipt
              (then (thread r.frame at (upd2 (waiting_at i s.opens) u (w.vector u) (some (message_of u w)))
              (λ v l n. upd2-other (waiting_at i s.opens) u (w.vector u) _ v l (λ p q. n p (q ∙ o.number)))
              (rw o.number (upd2-same (waiting_at i s.opens) u k (some (message_of u w)))))
              rest.runs);
          others = λ j ne. rest.others j ne ∙ apply-there s i u k w o.marks_flat j ne (ap (waiting_of j u) (sym d.is));
        }

  moves : (a : Step) → IsRun s a (step s a)
  moves (Read i x) =
      step_cases s (Read i x) (IsRun s (Read i x)) (λ r a. absurd (a r refl))
      (λ h a. read_moves s i x)
  moves (Write i x v) = step_cases s (Write i x v) (IsRun s (Write i x v)) (λ r a. absurd (a r refl)) (λ h a. write_moves i x v)
  moves (Deliver i u k) =
      deliver_cases s i u k (IsRun s (Deliver i u k)) (λ r a. absurd (a r refl)) (λ w d t e a. of_open d (hold_moves d)) (λ w d e a. of_open d (apply_moves d e))
  moves (Trip i xs) = step_cases s (Trip i xs) (IsRun s (Trip i xs)) (λ r a. absurd (a r refl)) (λ h a. trip_reads_lem i xs s)

-- the effects at the desk are the actions; with the rules after them, nothing enabled waits
pub paper_run : {s : State} → Rules s → (a : Step) → Accepted (step s a).answer → PaperRun s a (step s a)
paper_run {s} r a ok =
    let m = moves r a ok in
    let after = step-keeps-rules r a in
    record {
      runs = m.runs;
      others = m.others;
      idle = λ j. subst (λ (z : Setup). Idle z.desks (desk (step s a).state j)) (setup_stays s a) (quiet-idle (step s a).state j (after.quiet j));
    }

-- Messages --

keeps_self : (u : ℕ) (o : Option Open) → KeepsMessage u o o
keeps_self u o w w' e e' = let same : w' ≡ w = cc in ap (message_of u) same

keeps-mark : (u i p : ℕ) {o : Option Open} {w : Open} → KeepsMessage u o (some w) → KeepsMessage u o (some (mark w i p))
keeps-mark u i p {o} {w} h w₀ w' e e' = let same : w' ≡ mark w i p = cc in ap (message_of u) same ∙ h w₀ w e refl

module _ (s₀ : State) where
  -- every open write of s₀ that is open in s
  abbrev KeepsAll : State → Type 0
  KeepsAll s = (u k : ℕ) → KeepsMessage u (s₀.opens u k) (s.opens u k)

  one-keeps : (s : State) (u k : ℕ) (o : Option Open) → KeepsMessage u (s₀.opens u k) o → KeepsAll s
      → (v l : ℕ) → KeepsMessage v (s₀.opens v l) (upd2 s.opens u k o v l)
  one-keeps s u k o h f v l = upd2-all s.opens u k o (λ v l o. KeepsMessage v (s₀.opens v l) o) v l (λ p q. rw (p, q) h) (λ n. f v l)

  apply-keeps : (i : ℕ) (s : State) (u k : ℕ) (w : Open) → KeepsMessage u (s₀.opens u k) (some w) → KeepsAll s → KeepsAll (apply s i u k w)
  apply-keeps i s u k w h f =
      one-keeps s u k _
      (still_cases (KeepsMessage u (s₀.opens u k)) s.setup.desks (mark w i done) (λ t w w' e e'. not-both refl e')
      (λ t. keeps-mark u i done h)) f

pub message-kept : {s : State} → Rules s → (a : Step) (u k : ℕ) → KeepsMessage u (s.opens u k) ((step s a).state.opens u k)
message-kept {s} r a = by a
  where
    same : KeepsAll s s
    same u k = keeps_self u (s.opens u k)

    is : (s' : State) (u k : ℕ) (w : Open) → s'.opens u k ≡ some w → KeepsAll s s' → KeepsMessage u (s.opens u k) (some w)
    is s' u k w e f = subst (KeepsMessage u (s.opens u k)) e (f u k)

    by : (a : Step) → KeepsAll s (step s a).state
    by (Read i x) = step_cases s (Read i x) (λ o. KeepsAll s o.state) (λ r. same) (λ h. same)
    by (Write i x v) =
        step_cases s (Write i x v) (λ o. KeepsAll s o.state) (λ r. same)
        (λ h. apply-keeps s i (raise s i) i (next_number s i) (new_write s i x v) (λ w w' e e'. not-both (new-number i r.frame) e) same)
    by (Deliver i u k) =
        deliver_cases s i u k (λ o. KeepsAll s o.state) (λ r. same)
        (λ w d t e. one-keeps s s u k (some (mark w i held)) (keeps-mark u i held (is s u k w d.is same)) same)
        (λ w d e. settle-keeps (KeepsAll s) i (λ s' u k w e f. apply-keeps s i s' u k w (is s' u k w e f) f) most_open (apply s i u k w)
        (apply-keeps s i s u k w (is s u k w d.is same) same))
    by (Trip i xs) = step_cases s (Trip i xs) (λ o. KeepsAll s o.state) (λ r. same) (λ h. reads_keep (KeepsAll s) i (λ s' x f. f) xs s same)

-- where there is another desk, a new write is not yet applied everywhere
pub new_somewhere : (s : State) (i x v : ℕ) → 2 ≤ s.setup.desks → everywhere s.setup.desks (mark (new_write s i x v) i done) ≡ true → ⊥
new_somewhere s i x v two e = same_or i 1 (λ p. lacks 2 (omega arith) (λ q. omega arith)) (λ p. lacks 1 (omega arith) (λ q. p (sym q)))
  where
    lacks : (t : ℕ) → In s.setup.desks t → t ≢ i → ⊥
    lacks t h ne =
        let d = done-everywhere s.setup.desks (mark (new_write s i x v) i done) e t h in
        omega (arith, upd_other (new_write s i x v).marks i done t ne)

-- where there is a desk to send it to, the new open write has the message that figure 4, line 2 sends
pub message-sent : (s : State) (i x v k : ℕ) → 2 ≤ s.setup.desks → (step s (Write i x v)).answer ≡ wrote (name i k)
    → OpenAs i (sent i x (record { status = v; writer = i }) (desk s i)) ((step s (Write i x v)).state.opens i k)
message-sent s i x v k two =
    step_cases s (Write i x v) (λ o. o.answer ≡ wrote (name i k) → OpenAs i m (o.state.opens i k))
    (λ r e. clash (cc))
    (λ h e. (
    let same : name i (next_number s i) ≡ name i k = cc in
    rw (← ap (λ (n : Name). n.number) same, upd2-same)
    (still_cases (OpenAs i m) s.setup.desks (mark (new_write s i x v) i done) (λ e. absurd (new_somewhere s i x v two e))
    (λ e. record { entry = mark (new_write s i x v) i done; is = refl; message = refl }))))
  where
    m : Message
    m = sent i x (record { status = v; writer = i }) (desk s i)

-- the answer of a read is what figure 5, line 2 returns
pub read_returns : (s : State) (i x : ℕ) → Accepted (step s (Read i x)).answer
    → (step s (Read i x)).answer ≡ (let p : Process = READ x (desk s i) in shows (shown_returned (returned x p) (p.LastWriteOn x)))
read_returns s i x =
    step_cases s (Read i x) (λ o. Accepted o.answer → o.answer ≡ shows (shown_returned (value_of (s.cell i x)) (vector_of (s.cell i x))))
    (λ r a. absurd (a r refl))
    (λ h a. ap shows (of_cell (s.cell i x)))
  where
    of_cell : (c : Cell) → shown_of c ≡ shown_returned (value_of c) (vector_of c)
    of_cell blank = refl
    of_cell (set v u w) = refl
