-- Each refusal is given in its condition and at no other time, and leaves the table as found.
use Rattle.std.specs.Prelude.{◌≡◌, ◌⊎◌, ◌↔◌, ◌&&◌, ◌∷◌}
use Rattle.laws.specs.Kit.{refl, sym, ap, subst, inl, inr, ⊎_elim, Bool, true, false, not, List, [], Option, none}
use Rattle.laws.specs.{Kit.{some, ℕ, eqb, leb, ltb, length}, Loop.{cases}, Says.{Says, says-leb, says-ltb, says-eqb, says-not, says_both}}
use Rattle.laws.specs.{Says.{clash, apart}, Lists.{every, says-every}}
use Rattle.machine.specs.Table.{most_desks, most_cells, most_open, most_trip, most_writes, most_status, name, away, done, Open, State}
use Rattle.machine.specs.{Table.{fresh, written, mark_in}, Answer.{Refusal, no_desk, no_cell, no_status, spent, full, own_write}}
use Rattle.machine.specs.{Answer.{no_write, received, trip_size, no_size, began, shows, wrote, applies, judged, refused}, Steps.{Out}}
use Rattle.machine.specs.Steps.{refuse, need, within, failing, shown_at, read, next_number, write, open_count, reads, verdict, deliver_by}
use Rattle.machine.specs.{Steps.{deliver_open, Step, Read, Write, Deliver, Trip, step, begins, Begun, begin}, Rules.{In}}
use Rattle.machine.proofs.Ready.{option_all}
use Rattle.machine.specs.Refusals.{Row, ◌or◌, rows_of, rows_of_begin, FirstFails, AllPass, Accepted}
pub use Rattle.machine.specs.Within.{says-within}

-- an outcome by the rows: refused by the first that fails, or what is done if all pass
record ByRows (s : State) (l : List Row) (effect o : Out) : Type 0 where
  refusal : (r : Refusal) → (o.answer ≡ refused r) ↔ FirstFails l r
  accepted : Accepted o.answer ↔ AllPass l
  same : (r : Refusal) → o.answer ≡ refused r → o.state ≡ s
  taken : AllPass l → o ≡ effect
  either : AllPass l ⊎ ((r : Refusal) × (o ≡ refuse r s))

need_rows : {s : State} {P : Type 0} {l : List Row} {d o : Out} (b : Bool) (r : Refusal) → Says b P → ByRows s l d o → ByRows s ((P or r) ∷ l) d (need b r s o)
need_rows {s} {P} {l} {d} {o} true r p h =
    record {
      refusal = λ r'. (λ e. inr (p.to refl, (h.refusal r').0 e), λ f. later r' f);
      accepted = (λ a. (p.to refl, h.accepted.0 a), λ q. h.accepted.1 q.1);
      same = h.same;
      taken = λ q. h.taken q.1;
      either = ⊎_elim (λ (q : AllPass l). inl (p.to refl, q)) (λ (q : (r : Refusal) × (o ≡ refuse r s)). inr q) h.either;
    }
  where
    later : (r' : Refusal) → FirstFails ((P or r) ∷ l) r' → o.answer ≡ refused r'
    later r' (inl f) = absurd (f.0 (p.to refl))
    later r' (inr f) = (h.refusal r').1 f.1
need_rows {s} {P} {l} {d} {o} false r p h =
    record {
      refusal = λ r'. (λ e. inl (λ q. clash (p.from q), cc), λ f. here r' f);
      accepted = (λ a. absurd (a r refl), λ q. clash (p.from q.0));
      same = λ r' e. refl;
      taken = λ q. clash (p.from q.0);
      either = inr (r, refl);
    }
  where
    here : (r' : Refusal) → FirstFails ((P or r) ∷ l) r' → refused r ≡ refused r'
    here r' (inl f) = ap refused (sym f.1)
    here r' (inr f) = clash (p.from f.0)

end_rows : {s : State} {o : Out} → Accepted o.answer → ByRows s [] o o
end_rows a =
    record {
      refusal = λ r. (λ e. absurd (a r e), λ f. absurd f);
      accepted = (λ q. tt, λ q. a);
      same = λ r e. absurd (a r e);
      taken = λ q. refl;
      either = inl tt;
    }

-- what each step does if every test has passed --

-- of a delivery; none is refused before
abbrev pub deliver_effect : State → ℕ → ℕ → ℕ → Option Open → Out
deliver_effect s i u k none = record { answer = applies []; state = s }
deliver_effect s i u k (some w) = deliver_by s i u k w (failing s.setup.desks (s.applied i) u w.vector)

abbrev pub effect_of : State → Step → Out
effect_of s (Read i x) = record { answer = shows (shown_at s i x); state = read s i x }
effect_of s (Write i x v) = record { answer = wrote (name i (next_number s i)); state = write s i x v }
effect_of s (Deliver i u k) = deliver_effect s i u k (s.opens u k)
effect_of s (Trip i xs) = record { answer = judged (verdict (reads s i xs).shown); state = (reads s i xs).state }

-- the last row of a delivery
open-rows : (s : State) (i u k : ℕ) (o : Option Open) → ByRows s ((mark_in o i ≡ away or received) ∷ []) (deliver_effect s i u k o) (deliver_open s i u k o)
open-rows s i u k none = need_rows false received (says-eqb done away) (end_rows (λ r e. clash (cc)))
open-rows s i u k (some w) =
    need_rows (eqb (w.marks i) away) received (says-eqb (w.marks i) away)
    (end_rows (option_all (λ f. Accepted (deliver_by s i u k w f).answer) (failing s.setup.desks (s.applied i) u w.vector)
    (λ _ r e. clash (cc)) (λ t _ r e. clash (cc))))

by_rows : (s : State) (a : Step) → ByRows s (rows_of s a) (effect_of s a) (step s a)
unfolding step
by_rows s (Read i x) =
    need_rows (within s.setup.desks i) no_desk (says-within s.setup.desks i)
    (need_rows (within s.setup.cells x) no_cell (says-within s.setup.cells x) (end_rows (λ r e. clash (cc))))
by_rows s (Write i x v) =
    need_rows (within s.setup.desks i) no_desk (says-within s.setup.desks i)
    (need_rows (within s.setup.cells x) no_cell (says-within s.setup.cells x)
    (need_rows (leb v most_status) no_status (says-leb v most_status)
    (need_rows (ltb (written s i) most_writes) spent (says-ltb (written s i) most_writes)
    (need_rows (ltb (open_count s) most_open) full (says-ltb (open_count s) most_open) (end_rows (λ r e. clash (cc)))))))
by_rows s (Deliver i u k) =
    need_rows (within s.setup.desks i && within s.setup.desks u) no_desk (says_both _ _ (says-within s.setup.desks i) (says-within s.setup.desks u))
    (need_rows (not (eqb i u)) own_write (says-not _ (says-eqb i u))
    (need_rows (within (written s u) k) no_write (says-within (written s u) k) (open-rows s i u k (s.opens u k))))
by_rows s (Trip i xs) =
    need_rows (within s.setup.desks i) no_desk (says-within s.setup.desks i)
    (need_rows (within most_trip (length xs)) trip_size (says-within most_trip (length xs))
    (need_rows (every (within s.setup.cells) xs) no_cell (says-every _ (says-within s.setup.cells) xs)
    (end_rows (λ r e. clash (cc)))))

-- the theorems --

-- a step refuses with the refusal of the first row that fails, and with no other
pub refusal-exactly : (s : State) (a : Step) (r : Refusal) → ((step s a).answer ≡ refused r) ↔ FirstFails (rows_of s a) r
refusal-exactly s a r = (by_rows s a).refusal r

pub accepted-exactly : (s : State) (a : Step) → Accepted (step s a).answer ↔ AllPass (rows_of s a)
accepted-exactly s a = (by_rows s a).accepted

-- "A refusal returns its number and leaves table as found."
pub refused-leaves-table : (s : State) (a : Step) (r : Refusal) → (step s a).answer ≡ refused r → (step s a).state ≡ s
refused-leaves-table s a r e = (by_rows s a).same r e

pub accepted-effect : (s : State) (a : Step) → AllPass (rows_of s a) → step s a ≡ effect_of s a
accepted-effect s a h = (by_rows s a).taken h

-- what holds of a refusal, which leaves the table, and of the effect if all passes, holds of the step
pub step_cases : (s : State) (a : Step) (Q : Out → Type 0) → ((r : Refusal) → Q (refuse r s)) → (AllPass (rows_of s a) → Q (effect_of s a)) → Q (step s a)
step_cases s a Q f g =
    ⊎_elim
    (λ (h : AllPass (rows_of s a)). subst Q (sym (accepted-effect s a h)) (g h))
    (λ (z : (r : Refusal) × (step s a ≡ refuse r s)). subst Q (sym z.1) (f z.0))
    (by_rows s a).either

-- the beginning: the fresh table, or refused and none
pub begin_cases : {n m : ℕ} (Q : Begun → Type 0) → (In most_desks n → In most_cells m → Q (record { answer = began; table = some (fresh n m) }))
    → ((In most_desks n × In most_cells m → ⊥) → Q (record { answer = refused no_size; table = none })) → Q (begin n m)
unfolding begin
begin_cases {n} {m} Q f g =
    let says : Says (begins n m) (In most_desks n × In most_cells m) = says_both _ _ (says-within most_desks n) (says-within most_cells m) in
    cases (begins n m)
    (λ e. rw (e, begin) (f (says.to e).0 (says.to e).1))
    (λ e. rw (e, begin) (g (λ h. apart (begins n m) (says.from h) e)))

pub begin-refusal-exactly : (n m : ℕ) (r : Refusal) → ((begin n m).answer ≡ refused r) ↔ FirstFails (rows_of_begin n m) r
begin-refusal-exactly n m r =
    begin_cases (λ o. (o.answer ≡ refused r) ↔ FirstFails (rows_of_begin n m) r)
    (λ hn hm. (λ e. clash (cc), ⊎_elim (λ (f : _ × _). absurd (f.0 (hn, hm))) (λ (f : _ × ⊥). absurd f.1)))
    (λ h. (λ e. inl (h, cc), ⊎_elim (λ (f : _ × (r ≡ no_size)). ap refused (sym f.1)) (λ (f : _ × ⊥). absurd f.1)))

pub begun-table : (n m : ℕ) → AllPass (rows_of_begin n m) → (begin n m).table ≡ some (fresh n m)
begun-table n m h = begin_cases (λ o. o.table ≡ some (fresh n m)) (λ hn hm. refl) (λ f. absurd (f h.0))

pub refused-no-table : (n m : ℕ) (r : Refusal) → (begin n m).answer ≡ refused r → (begin n m).table ≡ none
refused-no-table n m r =
    begin_cases (λ o. o.answer ≡ refused r → o.table ≡ none) (λ hn hm e. clash (cc)) (λ f e. refl)
