-- The table against its history, through every step and every schedule with saves and reloads.
use Rattle.std.specs.Prelude.{◌≡◌, ◌∷◌, ◌++◌}
use Rattle.laws.specs.Kit.{refl, List, map, append-nil, append_assoc, Memᴰ, Memᴰ-head, Memᴰ-tail, [], ℕ, suc}
use Rattle.machine.specs.{Table.{most_open, name, State}, Answer.{Refusal, refused}, Steps.{Out, refuse, settle, reads, Step, Read}}
use Rattle.machine.specs.{Steps.{Write, Deliver, Trip, step}, Rules.{In, Rules}, History.{Event, apply_at, trip_reads, events_of, Act}}
use Rattle.machine.specs.History.{take_step, save_and_load, run, history}
use Rattle.machine.proofs.RulesKept.{Midway, read-rules, settle-all}
use Rattle.machine.proofs.RulesKept.{delivered-at, delivered_midway, step-keeps-rules}
use Rattle.machine.proofs.Refusals.{accepted-effect, step_cases}
use Rattle.machine.proofs.Cases.{deliver_cases}
use Rattle.machine.proofs.Order.{add}
use Rattle.machine.proofs.StepsTraced.{Observed, observed_read, observed_write, observed_hold, observed_deliver, observed_apply}

-- the cascade --

pub observed_settle : (f : ℕ) {s : State} {h : List Event} {i : ℕ} → Midway s i → In s.setup.desks i → Observed s h
    → Observed (settle f s i).state (h ++ map (apply_at i) (settle f s i).names)
observed_settle f {s} {h} {i} m hi =
    settle-all (λ f s r. (h : List Event) → Observed s h → Observed r.state (h ++ map (apply_at i) r.names))
    (λ s m h b. rw (append-nil h) b) (λ f s m e h b. rw (append-nil h) b)
    (λ f s u m d r t h b. rw append_assoc at (t (add h (apply_at i (name u (suc (s.applied i u)))))
    (observed_apply m.frame b d.at d.is_held))) f m hi h

-- the steps --

-- a step's answer and state, against the history so far
record Fine (s : State) (h : List Event) (a : Step) (o : Out) : Type 0 where
  fine : Observed o.state (h ++ events_of s a o.answer)

refused-nothing : (s : State) (a : Step) (r : Refusal) → events_of s a (refused r) ≡ []
refused-nothing s (Read i x) r = refl
refused-nothing s (Write i x v) r = refl
refused-nothing s (Deliver i u k) r = refl
refused-nothing s (Trip i xs) r = refl

-- a trip's reads
observed_reads : (i : ℕ) (xs : List ℕ) {s : State} {h : List Event} → Rules s → Observed s h → In s.setup.desks i
    → ((x : ℕ) → Memᴰ x xs → In s.setup.cells x) → Observed (reads s i xs).state (h ++ trip_reads s i xs)
unfolding reads trip_reads
observed_reads i [] {s} {h} r b hi hx = rw (append-nil h) b
observed_reads i (x ∷ xs) {s} {h} r b hi hx =
    rw (accepted-effect s (Read i x) (hi, (hx x (Memᴰ-head refl), tt)))
    (rw append_assoc at (observed_reads i xs (read-rules r i x) (observed_read r b i x) hi (λ y m. hx y (Memᴰ-tail m))))

step-fine : {s : State} {h : List Event} → Rules s → Observed s h → (a : Step) → Fine s h a (step s a)
step-fine {s} {h} r b = by
  where
    refuse-fine : (a : Step) (r : Refusal) → Fine s h a (refuse r s)
    refuse-fine a r = record { fine = rw (refused-nothing s a r, append-nil h) b }

    by : (a : Step) → Fine s h a (step s a)
    by (Read i x) = step_cases s (Read i x) (Fine s h (Read i x)) (refuse-fine (Read i x)) (λ _. record { fine = observed_read r b i x })
    by (Write i x v) =
        step_cases s (Write i x v) (Fine s h (Write i x v)) (refuse-fine (Write i x v))
        (λ _. record { fine = rw append_assoc at (observed_write r.frame b i x v) })
    by (Deliver i u k) =
        deliver_cases s i u k (Fine s h (Deliver i u k)) (refuse-fine (Deliver i u k))
        (λ w d t e. record { fine = observed_hold b i u k w d.is })
        (λ w d e.
        let t = observed_settle most_open (delivered_midway r d e) d.desk (observed_deliver r.frame b (delivered-at r d e)) in
        record { fine = simp append_assoc at t })
    by (Trip i xs) =
        step_cases s (Trip i xs) (Fine s h (Trip i xs)) (refuse-fine (Trip i xs))
        (λ g. record { fine = observed_reads i xs r b g.0 g.1.1.0 })

pub observed_step : {s : State} {h : List Event} → Rules s → Observed s h → (a : Step) → Observed (step s a).state (h ++ events_of s a (step s a).answer)
observed_step r b a = (step-fine r b a).fine

-- schedules --

module _ (reload : State → State) (same : (s : State) → Rules s → reload s ≡ s) where
  pub rules-kept : {s : State} → Rules s → (l : List Act) → Rules (run reload s l)
  unfolding run
  rules-kept r [] = r
  rules-kept {s = s} r (take_step a ∷ l) = rules-kept {s = (step s a).state} (step-keeps-rules r a) l
  rules-kept {s = s} r (save_and_load ∷ l) = rw (same s r) (rules-kept r l)

  pub observed_run : {s : State} {h : List Event} → Rules s → Observed s h → (l : List Act) → Observed (run reload s l) (h ++ history reload s l)
  unfolding run history
  observed_run {h = h} r b [] = rw (append-nil h) b
  observed_run {s = s} {h = h} r b (take_step a ∷ l) = rw append_assoc at (observed_run {s = (step s a).state} {h = h ++ events_of s a (step s a).answer} (step-keeps-rules r a) (observed_step r b a) l)
  observed_run {s = s} {h = h} r b (save_and_load ∷ l) = rw (same s r) (observed_run r b l)
