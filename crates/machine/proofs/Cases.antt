-- The cases of a delivery, of a write that may close, of the cascade, of a trip and of a step.
use Rattle.std.specs.Prelude.{◌≡◌, ◌≢◌, ◌∷◌}
use Rattle.laws.specs.{Kit.{refl, true, false, List, [], Option, none, some, ℕ, zero, suc, arith}, Loop.{cases}}
use Rattle.machine.specs.{Table.{most_open, Vec, Name, name, mark_in, away, Open, State, written}, Answer.{Refusal, holds, applies}}
use Rattle.machine.specs.Steps.{Out, refuse, failing, read, everywhere, still_open, apply, hold, first_due, Settled, apply_next}
use Rattle.machine.specs.{Steps.{settle_by, settle, deliver_by, reads, Step, Read, Write, Deliver, Trip, step}, Rules.{In}}
use Rattle.machine.proofs.Refusals.{deliver_effect, step_cases}
use Rattle.machine.proofs.Ready.{option_all}

-- a delivery that is accepted
pub record Delivery (s : State) (i u k : ℕ) (w : Open) : Type 0 where
  pub desk : In s.setup.desks i
  pub writer : In s.setup.desks u
  pub other : i ≢ u
  pub number : In (written s u) k
  pub is : s.opens u k ≡ some w
  pub is_away : w.marks i ≡ away

pub deliver_cases : (s : State) (i u k : ℕ) (Q : Out → Type 0) → ((r : Refusal) → Q (refuse r s))
    → ((w : Open) → Delivery s i u k w → (z : Name) → failing s.setup.desks (s.applied i) u w.vector ≡ some z
    → Q (record { answer = holds z; state = hold s i u k w }))
    → ((w : Open) → Delivery s i u k w → failing s.setup.desks (s.applied i) u w.vector ≡ none
    → Q (let r : Settled = settle most_open (apply s i u k w) i in record { answer = applies (name u k ∷ r.names); state = r.state }))
    → Q (step s (Deliver i u k))
deliver_cases s i u k Q refusal f g =
    step_cases s (Deliver i u k) Q refusal (λ h.
    option_all (λ o. mark_in o i ≡ away → Q (deliver_effect s i u k o)) (s.opens u k) (λ e ha. absurd (omega arith))
    (λ w e ha. let d : Delivery s i u k w =
    record { desk = h.0.0; writer = h.0.1; other = h.1.0; number = h.1.1.0; is = e; is_away = ha } in
    option_all (λ o. Q (deliver_by s i u k w o)) (failing s.setup.desks (s.applied i) u w.vector) (g w d) (f w d))
    h.1.1.1.0)

-- a write closes or stays open
pub still_cases : (P : Option Open → Type 0) (n : ℕ) (w : Open) → (everywhere n w ≡ true → P none) → (everywhere n w ≡ false → P (some w)) → P (still_open n w)
still_cases P n w f g = cases (everywhere n w) (λ e. rw (e, still_open) (f e)) (λ e. rw (e, still_open) (g e))

-- what each application keeps, the cascade keeps
pub settle-keeps : (P : State → Type 0) (i : ℕ) → ((s : State) (u k : ℕ) (w : Open) → s.opens u k ≡ some w → P s → P (apply s i u k w))
    → (f : ℕ) (s : State) → P s → P (settle f s i).state
unfolding settle
settle-keeps P i h zero s p = p
settle-keeps P i h (suc f) s p =
    option_all (λ o. P (settle_by (λ s'. settle f s' i) s i o).state) (first_due s i) (λ _. p)
    (λ u _. option_all (λ o. P (apply_next (λ s'. settle f s' i) s i u o).state) (s.opens u (suc (s.applied i u))) (λ _. p)
    (λ w e. settle-keeps P i h f _ (h s u (suc (s.applied i u)) w e p)))

-- what each read keeps, the trip keeps
pub reads_keep : (P : State → Type 0) (i : ℕ) → ((s : State) (x : ℕ) → P s → P (read s i x)) → (xs : List ℕ) (s : State) → P s → P (reads s i xs).state
unfolding reads
reads_keep P i h [] s p = p
reads_keep P i h (x ∷ xs) s p = reads_keep P i h xs (read s i x) (h s x p)

-- what other clocks and open writes keep, and each application, a step keeps
module _ (P : State → Type 0)
    (rest : (s : State) (c : ℕ → Vec) (o : ℕ → ℕ → Option Open) → P s → P (record { setup = s.setup; applied = s.applied; clock = c; cell = s.cell; opens = o }))
    (one : (s : State) (i u k : ℕ) (w : Open) → P s → P (apply s i u k w)) (s : State) (p : P s) where
  pub step_keeps : (a : Step) → P (step s a).state
  step_keeps (Read i x) = step_cases s (Read i x) (λ o. P o.state) (λ r. p) (λ h. rest _ _ _ p)
  step_keeps (Write i x v) = step_cases s (Write i x v) (λ o. P o.state) (λ r. p) (λ h. one _ _ _ _ _ (rest _ _ _ p))
  step_keeps (Deliver i u k) =
      deliver_cases s i u k (λ o. P o.state) (λ r. p) (λ w d t e. rest _ _ _ p)
      (λ w d e. settle-keeps P i (λ s u k w e q. one s i u k w q) most_open (apply s i u k w) (one s i u k w p))
  step_keeps (Trip i xs) = step_cases s (Trip i xs) (λ o. P o.state) (λ r. p) (λ h. reads_keep P i (λ s x q. rest _ _ _ q) xs s p)

pub setup_stays : (s : State) (a : Step) → (step s a).state.setup ≡ s.setup
setup_stays s = step_keeps (λ z. z.setup ≡ s.setup) (λ z c o e. e) (λ z i u k w e. e) s refl
