-- How many writes are held, and what each step does to that number; the numbers that an answer shows.
use Rattle.std.specs.Prelude.{◌≡◌, ◌≢◌, ◌+◌, ◌-◌, ◌*◌, ◌≤◌}
use Rattle.laws.specs.Kit.{refl, sym, ap, ◌∙◌, List, Option, some, ℕ, suc, arith, ne_eqb, eqb, length}
use Rattle.laws.specs.{Each.{Each, no, and, each-then}, Sum.{sum, one, tally, sum-le, sum_same, sum-zero, sum_more, sum_times, tally_miss}}
use Rattle.laws.specs.{Sum.{tally-none}, Update.{upd, upd_same, upd_other, upd2-same, upd2-other, same_or}}
use Rattle.machine.specs.Table.{most_desks, most_open, most_status, Name, name, Cell, blank, set, held, done, Open, State, fresh}
use Rattle.machine.specs.{Table.{written, mark_in, mark_of}, Answer.{Answer, unset, shown, shown_of, began, shows, wrote, holds}}
use Rattle.machine.specs.{Answer.{applies, judged, refused}, Steps.{failing, still_open, mark, apply, hold, read, reads, raise}}
use Rattle.machine.specs.Steps.{next_number, new_write, write, is_open, open_count, Settled, settle, Step, Read, Write, Deliver, Trip}
use Rattle.machine.specs.Steps.{step}
use Rattle.machine.specs.Rules.{In, Frame, Rules}
use Rattle.machine.proofs.Ready.{failing-at, fails-lacks, not-applied}
use Rattle.machine.proofs.Ready.{done-everywhere, option_cases}
use Rattle.machine.proofs.Cascade.{settle-all}
use Rattle.machine.proofs.Apply.{Midway, ReadyAt, apply-written, to_be_open, issues, here, same}
use Rattle.machine.proofs.Refusals.{step_cases}
use Rattle.machine.proofs.Cases.{Delivery, deliver_cases, still_cases, reads_keep}
use Rattle.machine.proofs.RulesKept.{delivered-at}
use Rattle.machine.proofs.RulesKept.{delivered_midway}

-- at how many desks u.k is held
abbrev pub held_at : State → ℕ → ℕ → ℕ
held_at s u k = tally s.setup.desks (λ i. eqb (mark_of s i u k) held)

-- the same of all accepted writes together: how many deliveries were received and wait
unfoldable pub held_count : State → ℕ
held_count s = sum s.setup.desks (λ u. sum (written s u) (held_at s u))

-- a write is held at most where it is open, and not at its writer --

held_open : {s : State} → Frame s → (u k : ℕ) → In s.setup.desks u → In (written s u) k → held_at s u k ≤ (most_desks - 1) * one (is_open s u k)
held_open {s} f u k hu hk =
    option_cases (s.opens u k)
    (λ e. rw (e, tally-none s.setup.desks (λ i. eqb done held) (λ i. refl)) (omega arith))
    (λ w e. let m : w.marks u ≡ done = ((f.open-write u k w e).marked u hu).1 hk.1 in
    rw e (omega (arith, tally_miss s.setup.desks (λ i. eqb (w.marks i) held) u hu.0 hu.1 (rw m), f.ranges.desks.1)))

pub held-few : {s : State} → Frame s → held_count s ≤ (most_desks - 1) * most_open
unfolding held_count open_count
held-few {s} f =
    let d : ℕ = most_desks - 1 in
    let a : held_count s ≤ sum s.setup.desks (λ u. d * tally (written s u) (is_open s u)) =
    sum-le s.setup.desks _ _ (λ u x y. rw (← sum_times (written s u) d (λ k. one (is_open s u k)))
    (sum-le (written s u) _ _ (λ k v w. held_open f u k (x, y) (v, w)))) in
    omega (arith, sum_times s.setup.desks d (λ u. tally (written s u) (is_open s u)), f.ranges.few)

pub fresh-held : (n m : ℕ) → held_count (fresh n m) ≡ 0
unfolding held_count sum
fresh-held n m = sum-zero n

-- one write is held at d desks more, and no other is touched
held_one : (s s' : State) (u k d : ℕ) → s'.setup.desks ≡ s.setup.desks → ((t : ℕ) → written s' t ≡ written s t) → In s.setup.desks u → In (written s u) k
    → ((t j : ℕ) → (t ≡ u → j ≡ k → ⊥) → s.opens t j ≡ s'.opens t j) → held_at s u k ≡ d + held_at s' u k → held_count s ≡ d + held_count s'
unfolding held_count
held_one s s' u k d es ew hu hk eo e =
    sum_more s.setup.desks (λ t. sum (written s' t) (held_at s' t)) (λ t. sum (written s t) (held_at s t)) u d hu.0 hu.1
    (rw (ew u) (sum_more (written s u) (held_at s' u) (held_at s u) k d hk.0 hk.1 e (λ j n. other u j (λ _ q. n q))))
    (λ t n. rw (ew t) (sum_same (written s t) (held_at s' t) (held_at s t) (λ j _ _. other t j (λ q _. n q))))
    ∙ ap (λ (n : ℕ). d + sum n (λ t. sum (written s' t) (held_at s' t))) (sym es)
  where
    other : (t j : ℕ) → (t ≡ u → j ≡ k → ⊥) → held_at s t j ≡ held_at s' t j
    other t j n = rw (eo t j n, es)

-- a mark that ends or begins to be `held`
marks-one : (n i m : ℕ) (f : ℕ → ℕ) → In n i → m ≢ held → tally n (λ j. eqb (f j) held) ≡ one (eqb (f i) held) + tally n (λ j. eqb (upd f i m j) held)
marks-one n i m f hi ne =
    sum_more n _ _ i (one (eqb (f i) held)) hi.0 hi.1
    (rw (upd_same f i m, ne_eqb m held ne) (omega arith))
    (λ j q. rw (upd_other f i m j q))

-- a write that is applied everywhere is at each desk as its marks say
still_place : (n : ℕ) (w : Open) (j : ℕ) → In n j → mark_in (still_open n w) j ≡ w.marks j
still_place n w j hj = still_cases (λ o. mark_in o j ≡ w.marks j) n w (λ e. sym (done-everywhere n w e j hj)) (λ e. refl)

pub apply-held : {s : State} {i u k : ℕ} {w : Open} → Frame s → ReadyAt s i u k w → held_count s ≡ one (eqb (w.marks i) held) + held_count (apply s i u k w)
apply-held {s} {i} {u} {k} {w} f r =
    let b = to_be_open f u k r.is in
    held_one s (apply s i u k w) u k (one (eqb (w.marks i) held)) refl (apply-written f r) b.writer b.number
    (λ t j n. sym (upd2-other s.opens u k (still_open s.setup.desks (mark w i done)) t j n))
    (rw (r.is, upd2-same s.opens u k (still_open s.setup.desks (mark w i done)))
    (marks-one s.setup.desks i done w.marks r.desk (λ e. omega arith)
    ∙ ap (λ (x : ℕ). one (eqb (w.marks i) held) + x) (sum_same s.setup.desks _ _ (λ j x y. rw (still_place s.setup.desks (mark w i done) j (x, y))))))

hold-held : {s : State} {i u k : ℕ} {w : Open} → Delivery s i u k w → held_count (hold s i u k w) ≡ suc (held_count s)
hold-held {s} {i} {u} {k} {w} d =
    omega (
      arith,
      held_one (hold s i u k w) s u k 1 refl (λ t. refl) d.writer d.number
          (λ t j n. upd2-other s.opens u k (some (mark w i held)) t j n)
          (rw (d.is, upd2-same s.opens u k (some (mark w i held))) more),
    )
  where
    more : tally s.setup.desks (λ j. eqb (upd w.marks i held j) held) ≡ 1 + tally s.setup.desks (λ j. eqb (w.marks j) held)
    more =
        sum_more s.setup.desks _ _ i 1 d.desk.0 d.desk.1
        (rw (upd_same w.marks i held, d.is_away))
        (λ j q. rw (upd_other w.marks i held j q))

-- a write is held nowhere at first
write-held : {s : State} → Frame s → (i x v : ℕ) → In s.setup.desks i → In s.setup.cells x → v ≤ most_status → held_count (write s i x v) ≡ held_count s
unfolding held_count sum
write-held {s} f i x v hi hx hv =
    sum_same s.setup.desks (λ u. sum (written s u) (held_at s u)) (λ u. sum (written (write s i x v) u) (held_at (write s i x v) u)) (λ u _ _. row u)
  where
    new : Option Open
    new = still_open s.setup.desks (mark (new_write s i x v) i done)

    old_row : (u : ℕ) → ((j : ℕ) → j ≤ written s u → u ≡ i → j ≡ next_number s i → ⊥) → sum (written s u) (held_at (write s i x v) u) ≡ sum (written s u) (held_at s u)
    old_row u ne = sum_same (written s u) (held_at s u) (held_at (write s i x v) u) (λ j _ l. rw (upd2-other s.opens i (next_number s i) new u j (ne j l)))

    first : held_at (write s i x v) i (next_number s i) ≡ 0
    first =
        rw (upd2-same s.opens i (next_number s i) new)
        (sum_same s.setup.desks (λ j. 0) _ (λ j a b. rw (still_place s.setup.desks (mark (new_write s i x v) i done) j (a, b))
        (same_or j i (λ e. rw (e, upd_same (new_write s i x v).marks i done)) (λ e. rw (upd_other (new_write s i x v).marks i done j e))))
        ∙ sum-zero s.setup.desks)

    row : (u : ℕ) → sum (written (write s i x v) u) (held_at (write s i x v) u) ≡ sum (written s u) (held_at s u)
    row u =
        same_or u i
        (λ e. rw e own)
        (λ e. rw (same f (raise s i).clock (issues f i x v hi hx hv) u u (λ p q. e p)) (old_row u (λ j l p q. e p)))
      where
        own : sum (written (write s i x v) i) (held_at (write s i x v) i) ≡ sum (written s i) (held_at s i)
        own =
            let n : next_number s i ≡ suc (written s i) = ap suc (f.clocks.own i) in
            let z : held_at (write s i x v) i (suc (written s i)) ≡ 0 = sym (ap (held_at (write s i x v) i) n) ∙ first in
            rw (upd2-same s.applied i i (suc (s.applied i i)))
            (omega (arith, z, old_row i (λ j l p q. omega arith)))

-- a read changes a clock alone
read_held : (s : State) (i x : ℕ) → held_count (read s i x) ≡ held_count s
unfolding held_count
read_held s i x = refl

reads_held : (s : State) (i : ℕ) (xs : List ℕ) → held_count (reads s i xs).state ≡ held_count s
reads_held s i xs = reads_keep (λ t. held_count t ≡ held_count s) i (λ t x e. read_held t i x ∙ e) xs s refl

-- u.k was written
abbrev pub Made : State → Name → Type 0
Made s w = In s.setup.desks w.writer × In (written s w.writer) w.number

-- a hold names a write that was made: some vector counts it
hold-made : {s : State} {i u k : ℕ} {w : Open} → Frame s → Delivery s i u k w → (z : Name) → failing s.setup.desks (s.applied i) u w.vector ≡ some z → Made s z
hold-made {s} {i} {u} {k} {w} f d z e =
    let o = f.open-write u k w d.is in
    let g = failing-at s.setup.desks (s.applied i) u w.vector z e in
    let l = fails-lacks (s.applied i) u w.vector (not-applied o i d.desk (λ m. omega (arith, d.is_away))) z.writer g.there in
    (g.desk, (omega (arith, g.number), omega (arith, g.number, l.0, o.issued z.writer)))

-- the cascade: each name is that of a write that was held
record Freed (s : State) (r : Settled) : Type 0 where
  names : Each (Made s) r.names
  count : held_count s ≡ length r.names + held_count r.state

settle-held : (f : ℕ) {s : State} {i : ℕ} → Midway s i → In s.setup.desks i → Freed s (settle f s i)
settle-held f {i = i} m hi =
    settle-all (λ f s r. Freed s r) (λ s m. record { names = no; count = omega arith })
    (λ f s m e. record { names = no; count = omega arith })
    (λ f s u m d r t.
    let b = to_be_open m.frame u (suc (s.applied i u)) d.at.is in
    let a : held_count s ≡ 1 + held_count (apply s i u (suc (s.applied i u)) d.entry) =
    rw d.is_held at (apply-held m.frame d.at) in
    record {
      names =
          and (b.writer, b.number) (each-then (λ w a. (a.0, rw (apply-written m.frame d.at w.writer) at a.1)) t.names);
      count = omega (arith, t.count);
    }) f m hi

-- the writes that an answer names, and what is held, of the table s before and s' after: a hold adds one, and of the writes that are applied
-- together the first had not been received and the others were held
abbrev pub HeldCounted : State → Answer → State → Type 0
HeldCounted s began s' = held_count s' ≡ held_count s
HeldCounted s (shows unset) s' = held_count s' ≡ held_count s
HeldCounted s (shows (shown v u k)) s' = (v ≤ most_status) × (Made s (name u k) × (held_count s' ≡ held_count s))
HeldCounted s (wrote w) s' = Made s' w × (held_count s' ≡ held_count s)
HeldCounted s (holds w) s' = Made s w × (held_count s' ≡ suc (held_count s))
HeldCounted s (applies l) s' = Each (Made s) l × (held_count s' + length l ≡ suc (held_count s))
HeldCounted s (judged v) s' = held_count s' ≡ held_count s
HeldCounted s (refused r) s' = held_count s' ≡ held_count s

pub step-counted : {s : State} → Rules s → (a : Step) → HeldCounted s (step s a).answer (step s a).state
step-counted {s} r (Read i x) = step_cases s (Read i x) (λ o. HeldCounted s o.answer o.state) (λ _. refl) (λ h. go (s.cell i x) refl)
  where
    go : (c : Cell) → s.cell i x ≡ c → HeldCounted s (shows (shown_of c)) (read s i x)
    go blank e = read_held s i x
    go (set v u w) e =
        let c = r.frame.cell i x v u w e in
        (c.status_in, ((c.writer_in, (c.first, c.issued u)), read_held s i x))
step-counted {s} r (Write i x v) =
    step_cases s (Write i x v) (λ o. HeldCounted s o.answer o.state) (λ _. refl)
    (λ h. let a = issues r.frame i x v h.0 h.1.0 h.1.1.0 in
    ((h.0, omega (arith, here r.frame (raise s i).clock a)), write-held r.frame i x v h.0 h.1.0 h.1.1.0))
step-counted {s} r (Deliver i u k) =
    deliver_cases s i u k (λ o. HeldCounted s o.answer o.state) (λ _. refl)
    (λ w d z e. (hold-made r.frame d z e, hold-held d))
    (λ w d e. let at = delivered-at r d e in
    let t = settle-held most_open (delivered_midway r d e) d.desk in
    let a : held_count s ≡ 0 + held_count (apply s i u k w) = rw d.is_away at (apply-held r.frame at) in (
      and (d.writer, d.number) (each-then (λ n q. (q.0, rw (apply-written r.frame at n.writer) at q.1)) t.names),
      omega (arith, t.count),
    ))
step-counted {s} r (Trip i xs) = step_cases s (Trip i xs) (λ o. HeldCounted s o.answer o.state) (λ _. refl) (λ h. reads_held s i xs)
