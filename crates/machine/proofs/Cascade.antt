-- The cascade keeps the rules, ends with nothing ready held, and applies no more than the desk had left to apply.
use Rattle.std.specs.Prelude.{◌≡◌, ◌∷◌, ◌-◌, ◌≤◌}
use Rattle.laws.specs.Kit.{refl, sym, true, Option, none, some, [], ℕ, zero, suc, arith, length}
use Rattle.laws.specs.{Loop.{cases, scan-first, scan-none}, Says.{apart, says_both, says-eqb}, Sum.{sum, sum-le, sum_one, tally_above}}
use Rattle.laws.specs.Update.{same_or}
use Rattle.machine.specs.{Table.{name, held, Open, State, written}, Steps.{ready, apply, is_open, open_count, due_open, due, first_due}}
use Rattle.machine.specs.Steps.{Settled, settle_by, settle}
use Rattle.machine.specs.Rules.{In, Quiet, Frame, Rules}
use Rattle.machine.proofs.Ready.{option_all}
use Rattle.machine.proofs.Apply.{Midway, ReadyAt, ready-next, arrives, here, same, apply-written, apply_midway}

-- the writes that desk i has yet to apply
unfoldable pub left_to_apply : State → ℕ → ℕ
left_to_apply s i = sum s.setup.desks (λ u. written s u - s.applied i u)

pub apply-left : {s : State} {i u k : ℕ} {w : Open} → Frame s → ReadyAt s i u k w → suc (left_to_apply (apply s i u k w) i) ≡ left_to_apply s i
unfolding left_to_apply
apply-left {s} {i} {u} {k} {w} f r =
    let n = ready-next f r in
    let a = arrives f r in
    sym (sum_one s.setup.desks (λ t. written (apply s i u k w) t - (apply s i u k w).applied i t) (λ t. written s t - s.applied i t) u n.writer.0 n.writer.1
    (omega (arith, apply-written f r u, here f s.clock a, n.next, n.known))
    (λ j ne. omega (arith, apply-written f r j, same f s.clock a i j (λ p q. ne q))))

-- what a desk has yet to apply is open
pub left-few : {s : State} → Frame s → (i : ℕ) → In s.setup.desks i → left_to_apply s i ≤ open_count s
unfolding left_to_apply open_count
left-few {s} f i hi =
    sum-le s.setup.desks _ _
    (λ u a b. tally_above (written s u) (s.applied i u) (is_open s u)
    (λ k l m. (f.open-exactly u k).1 (record { writer = (a, b); number = (omega arith, m); lacks = record { desk = i; desk_in = hi; lower = l } })))

-- what the cascade's search finds
pub record Found (s : State) (i u : ℕ) : Type 0 where
  pub entry : Open
  pub is_held : entry.marks i ≡ held
  pub at : ReadyAt s i u (suc (s.applied i u)) entry

due-found : {s : State} {i u : ℕ} → In s.setup.desks i → (o : Option Open) → s.opens u (suc (s.applied i u)) ≡ o → due_open s i u o ≡ true → Found s i u
due-found hi none e d = apart true refl (sym d)
due-found {s} {i} {u} hi (some w) e d =
    let h = (says_both _ _ (says-eqb (w.marks i) held) (record { to = λ e. e; from = λ e. e })).to d in
    record { entry = w; is_held = h.0; at = record { desk = hi; is = e; ready = h.1 } }

pub first-due : {s : State} {i u : ℕ} → In s.setup.desks i → first_due s i ≡ some u → In s.setup.desks u × Found s i u
unfolding first_due
first-due {s} {i} {u} hi e =
    let r = scan-first (due s i) (λ t. t) s.setup.desks 1 u e in
    (omega (arith, r.low, r.high, r.is), due-found hi (s.opens u (suc (s.applied i u))) refl (rw r.is at r.passes))

pub none-due : {s : State} {i : ℕ} → Frame s → In s.setup.desks i → first_due s i ≡ none → Quiet s i
unfolding first_due
none-due {s} {i} f hi e u k w is m =
    cases (ready s.setup.desks (s.applied i) u w.vector)
    (λ y. let n = ready-next f (record { desk = hi; is = is; ready = y }) in
    let d : due s i u ≡ true = rw (n.next, is, m, y) in
    apart (due s i u) d (scan-none (due s i) (λ t. t) s.setup.desks 1 e u n.writer.0 (omega (arith, n.writer.1))))
    (λ y. y)

-- the end of the cascade: all the rules hold again
quiet-rules : {s : State} {i : ℕ} → Midway s i → Quiet s i → Rules s
quiet-rules {s} {i} m q = record { frame = m.frame; quiet = λ j. same_or j i (λ e. rw e q) (λ e. m.quiet j e) }

-- what holds where the turns end, and of a turn if it holds of those after it, holds of the cascade
module _ {i : ℕ} (P : ℕ → State → Settled → Type 0) (none_left : (s : State) → Midway s i → P zero s (record { names = []; state = s }))
    (ends : (f : ℕ) (s : State) → Midway s i → first_due s i ≡ none → P (suc f) s (record { names = []; state = s }))
    (turn : (f : ℕ) (s : State) (u : ℕ) (m : Midway s i) (d : Found s i u) (r : Settled)
    → P f (apply s i u (suc (s.applied i u)) d.entry) r
    → P (suc f) s (record { names = name u (suc (s.applied i u)) ∷ r.names; state = r.state })) where
  pub settle-all : (f : ℕ) {s : State} → Midway s i → In s.setup.desks i → P f s (settle f s i)
  unfolding settle
  settle-all zero m hi = none_left _ m
  settle-all (suc f) {s} m hi =
      option_all (λ o. P (suc f) s (settle_by (λ s'. settle f s' i) s i o)) (first_due s i) (ends f s m)
      (λ u e. let d = (first-due hi e).1 in rw d.at.is (turn f s u m d _ (settle-all f (apply_midway m d.at) hi)))

-- f turns from s on
record Ends (i f : ℕ) (s : State) (r : Settled) : Type 0 where
  pub rules : left_to_apply s i ≤ f → Rules r.state
  pub names : length r.names ≤ left_to_apply s i

settle-ends : (f : ℕ) {s : State} {i : ℕ} → Midway s i → In s.setup.desks i → Ends i f s (settle f s i)
settle-ends f {s} {i} m hi =
    settle-all (λ f s r. In s.setup.desks i → Ends i f s r)
    (λ s m hi. record {
      rules = λ l. quiet-rules m (λ u k w is h.
          cases (ready s.setup.desks (s.applied i) u w.vector)
          (λ y. absurd (omega (arith, apply-left m.frame (record { desk = hi; is = is; ready = y })))) (λ y. y));
      names = omega arith;
    })
    (λ f s m e hi. record { rules = λ l. quiet-rules m (none-due m.frame hi e); names = omega arith })
    (λ f s u m d r t hi. let a = apply-left m.frame d.at in
    record { rules = λ l. (t hi).rules (omega arith); names = omega (arith, (t hi).names) })
    f m hi hi

pub settle-rules : (f : ℕ) {s : State} {i : ℕ} → Midway s i → In s.setup.desks i → left_to_apply s i ≤ f → Rules (settle f s i).state
settle-rules f m hi l = (settle-ends f m hi).rules l

pub settle-names : (f : ℕ) {s : State} {i : ℕ} → Midway s i → In s.setup.desks i → length (settle f s i).names ≤ left_to_apply s i
settle-names f m hi = (settle-ends f m hi).names
