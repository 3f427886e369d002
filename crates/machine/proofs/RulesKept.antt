-- Every step keeps the rules; what the other proofs need of it stands here under one roof.
use Rattle.std.specs.Prelude.{◌≡◌, ◌⊎◌, ◌↔◌, ◌∷◌, ◌≤◌, ◌<◌}
use Rattle.laws.specs.{Kit.{refl, sym, ap, inl, inr, true, List, none, ℕ, arith, length}, Says.{apart, clash}}
use Rattle.laws.specs.Update.{same_or}
use Rattle.machine.specs.{Table.{most_open, Name, away, held, done, Open, State, written, mark_of, name}, Answer.{Refusal, applies}}
use Rattle.machine.specs.Steps.{Out, is_none, apply, refuse, failing, Step, Read, Write, Deliver, Trip, step, settle}
use Rattle.machine.specs.Rules.{In, Frame, Rules}
use Rattle.machine.proofs.Ready.{option_cases}
use Rattle.machine.proofs.Refusals.{step_cases}
use Rattle.machine.proofs.Cases.{Delivery, deliver_cases, reads_keep}
pub use Rattle.machine.proofs.CountsRise.{fresh-rules, read-rules, hold-rules}
pub use Rattle.machine.proofs.Apply.{Midway, ReadyAt, NextAt, ready-next, apply_midway, write-rules}
unfoldable pub use Rattle.machine.proofs.Cascade.{left_to_apply}
pub use Rattle.machine.proofs.Cascade.{apply-left, left-few, Found, first-due, none-due, settle-all, settle-rules, settle-names}

-- what a step keeps
record Kept (o : Out) : Type 0 where
  pub rules : Rules o.state
  pub few : (l : List Name) → o.answer ≡ applies l → length l ≤ most_open

refuse-kept : {s : State} → Rules s → (r : Refusal) → Kept (refuse r s)
refuse-kept q r = record { rules = q; few = λ l e. clash (cc) }

-- a delivery that is accepted and ready
module _ {s : State} {i u k : ℕ} {w : Open} (r : Rules s) (d : Delivery s i u k w)
    (e : failing s.setup.desks (s.applied i) u w.vector ≡ none) where
  pub delivered-at : ReadyAt s i u k w
  delivered-at = record { desk = d.desk; is = d.is; ready = ap is_none e }

  pub delivered_midway : Midway (apply s i u k w) i
  delivered_midway = apply_midway (record { frame = r.frame; quiet = λ j ne. r.quiet j }) delivered-at

step_kept : {s : State} → Rules s → (a : Step) → Kept (step s a)
step_kept {s} r (Read i x) =
    step_cases s (Read i x) Kept (refuse-kept r) (λ h. record { rules = read-rules r i x; few = λ l e. clash (cc) })
step_kept {s} r (Write i x v) =
    step_cases s (Write i x v) Kept (refuse-kept r)
    (λ h. record { rules = write-rules r i x v h.0 h.1.0 h.1.1.0 h.1.1.1.0 h.1.1.1.1.0; few = λ l e. clash (cc) })
step_kept {s} r (Deliver i u k) =
    deliver_cases s i u k Kept (refuse-kept r)
    (λ w d t e. record { rules = hold-rules r i u k w d.desk d.is d.is_away (rw e); few = λ l e. clash (cc) })
    (λ w d e. let mid = delivered_midway r d e in
    let a = apply-left r.frame (delivered-at r d e) in
    let b = left-few r.frame i d.desk in
    record {
      rules = settle-rules most_open mid d.desk (omega (arith, r.frame.ranges.few));
      few =
          λ l e. let z : name u k ∷ (settle most_open (apply s i u k w) i).names ≡ l = cc in
          rw (← z) (omega (arith, settle-names most_open mid d.desk, r.frame.ranges.few));
    })
step_kept {s} r (Trip i xs) =
    step_cases s (Trip i xs) Kept (refuse-kept r) (λ h.
    record { rules = reads_keep Rules i (λ s x q. read-rules q i x) xs s r; few = λ l e. clash (cc) })

-- the theorems --

pub step-keeps-rules : {s : State} → Rules s → (a : Step) → Rules (step s a).state
step-keeps-rules r a = (step_kept r a).rules

pub at_most_64_applied : {s : State} → Rules s → (a : Step) (l : List Name) → (step s a).answer ≡ applies l → length l ≤ most_open
at_most_64_applied r a = (step_kept r a).few

pub done-counted : {s : State} → Frame s → (i u k : ℕ) → In s.setup.desks i → In s.setup.desks u → In (written s u) k
    → (mark_of s i u k ≡ done) ↔ (k ≤ s.applied i u)
done-counted {s} f i u k hi hu hk =
    option_cases (s.opens u k)
    (λ e. rw e (λ _. let n : ¬ (s.applied i u < k) = not_lower e in omega arith, λ _. refl))
    (λ w e. rw e ((f.open-write u k w e).marked i hi))
  where
    not_lower : s.opens u k ≡ none → s.applied i u < k → ⊥
    not_lower e l =
        let o = (f.open-exactly u k).1 (record { writer = hu; number = hk; lacks = record { desk = i; desk_in = hi; lower = l } }) in
        apart true refl (sym (rw e at o))

-- "At each desk every accepted write is in exactly one place": the places are three different numbers
pub one_place : {s : State} → Rules s → (i u k : ℕ) → In s.setup.desks i → In s.setup.desks u → In (written s u) k
    → (mark_of s i u k ≡ away) ⊎ ((mark_of s i u k ≡ held) ⊎ (mark_of s i u k ≡ done))
one_place {s} r i u k hi hu hk =
    option_cases (s.opens u k) (λ e. inr (inr (rw e)))
    (λ w e. rw e
    (same_or (w.marks i) away inl
    (λ p. same_or (w.marks i) held (λ q. inr (inl q)) (λ q. inr (inr (omega (arith, (r.frame.open-write u k w e).marks_in i)))))))
