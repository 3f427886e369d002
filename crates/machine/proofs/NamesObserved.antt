-- Write names and the open count come from the accepted history.
use Rattle.std.specs.Prelude.{◌≡◌, ◌∷◌, ◌++◌, ◌+◌, ◌≤◌}
use Rattle.laws.specs.Kit.{refl, sym, ◌∙◌, ap, subst, Bool, true, false, not, List, Memᴰ, ℕ, suc, arith}
use Rattle.laws.specs.{Kit.{ne_eqb, eqb, leb, length}, All.{all_same}, Count.{count, count_end}, Ends.{at_cut, by_parts}}
use Rattle.laws.specs.{Lists.{any, says_any}, Loop.{cases}, Says.{Says, says-leb, says_as, says-one, clash}, Sum.{sum, one, tally}}
use Rattle.laws.specs.{Sum.{sum_same, sum-zero, sum_one}, Update.{same_or}}
use Rattle.machine.specs.{Table.{Name, name, State, written}, Answer.{wrote}, Steps.{is_open, open_count, Write}, Rules.{In, Rules}}
use Rattle.machine.specs.{RulesTest.{lacks, says-lacks}, History.{Event, read_at, write_at, receive_at, apply_at, Entry, own_read}}
use Rattle.machine.specs.{History.{applied, desk_list, write_passes, writes_that, writes_of, is_applied, some_lacks}, Demand3.{WriteAt}}
use Rattle.machine.specs.Demand3.{NumberedInOrder, NamesObserved, OpenObserved}
use Rattle.machine.proofs.Refusals.{step_cases}
use Rattle.machine.proofs.Order.{add, writes_more, writes-same}
use Rattle.machine.proofs.Entries.{names_are, is_name_lem}
use Rattle.machine.proofs.TableTraced.{Traced, own-known, clock-own}

-- the writes that pass, counted event by event, and desk by desk and number by number
module _ {h : List Event} (o : NumberedInOrder h) (n : ℕ) (writer : (q u k : ℕ) → WriteAt h q u k → In n u) (p : ℕ → ℕ → Bool) where
  abbrev tally_by_desk : List Event → ℕ → ℕ
  tally_by_desk l u = tally (writes_of u l) (p u)

  abbrev Same : List Event → Type 0
  Same l = writes_that p l ≡ sum n (tally_by_desk l)

  idle : (l : List Event) (e : Event) → ((u : ℕ) → write_passes (λ t k. eqb t u) e ≡ false) → write_passes p e ≡ false → Same l → Same (add l e)
  idle l e f q ih =
      let c = count_end (write_passes p) l e in
      let d = sum_same n (tally_by_desk l) (tally_by_desk (add l e)) (λ u _ _. ap (λ (m : ℕ). tally m (p u)) (writes-same u l e (f u))) in
      omega (arith, rw q at c)

  one_more : (l : List Event) (u x v k : ℕ) → In n u → k ≡ suc (writes_of u l) → Same l → Same (add l (write_at u x v k))
  unfolding sum
  one_more l u x v k hu q ih =
      let c = count_end (write_passes p) l e in
      cases (p u k)
      (λ t.
      let d = sum_one n (tally_by_desk l) (tally_by_desk (add l e)) u hu.0 hu.1 (here ∙ rw t (omega arith)) others in
      omega (arith, rw t at c))
      (λ t.
      let d = sum_same n (tally_by_desk l) (tally_by_desk (add l e)) (λ j _ _. same_or j u (λ z. rw z (here ∙ rw t (omega arith))) (others j)) in
      omega (arith, rw t at c))
    where
      e : Event
      e = write_at u x v k

      here : tally_by_desk (add l e) u ≡ one (p u k) + tally_by_desk l u
      here = rw (writes_more u l x v k, q)

      others : (j : ℕ) → (j ≡ u → ⊥) → tally_by_desk (add l e) j ≡ tally_by_desk l j
      others j ne = ap (λ (m : ℕ). tally m (p j)) (writes-same j l e (ne_eqb u j (λ z. ne (sym z))))

  pub writes_by_desk : writes_that p h ≡ sum n (λ u. tally (writes_of u h) (p u))
  unfolding count sum
  writes_by_desk = by_parts Same h (sym (sum-zero n)) more
    where
      more : (earlier : List Event) (e : Event) (later : List Event) → h ≡ earlier ++ e ∷ later → Same earlier → Same (add earlier e)
      more l (read_at i x v) later z = idle l (read_at i x v) (λ u. refl) refl
      more l (write_at u x v k) later z =
          one_more l u x v k (writer (length l) u k (record { cell = x; status = v; at = rw z (at_cut l (write_at u x v k) later) })) (o u x v k l later z)
      more l (receive_at i w) later z = idle l (receive_at i w) (λ u. refl) refl
      more l (apply_at i w) later z = idle l (apply_at i w) (λ u. refl) refl

-- the entry is that of u.k
says-applied : (u k : ℕ) (b : Entry) → Says (is_applied u k b) (b ≡ applied (name u k))
says-applied u k (own_read p x v) = record { to = λ e. clash e; from = λ e. clash (cc) }
says-applied u k (applied w) = record {
  to = λ e. ap applied (names_are w u k e);
  from = λ e. let z : w ≡ name u k = cc in subst (λ (w : Name). is_applied u k (applied w) ≡ true) (sym z) (is_name_lem u k);
}

module _ {s : State} {h : List Event} (r : Rules s) (b : Traced s h) where
  pub write_in : {q u k : ℕ} → WriteAt h q u k → In s.setup.desks u × In (written s u) k
  write_in {u = u} w =
      let n = own-known b w in
      let own = r.frame.clocks.own u in
      ((r.frame.counts.inside u u (omega (arith, n.0, n.1))).1, (n.0, omega (arith, n.1)))

  counted : (u : ℕ) → written s u ≡ writes_of u h
  counted u = sym (r.frame.clocks.own u) ∙ clock-own b u

  pub names_observed : NamesObserved s h
  names_observed = record {
    numbered = b.story.ordered.numbered;
    counted = counted;
    next = λ i x v w. step_cases s (Write i x v) (λ o. o.answer ≡ wrote w → w ≡ name i (suc (writes_of i h))) (λ n e. clash (cc))
        (λ _ e. let z : w ≡ name i (suc (s.clock i i)) = cc in z ∙ ap (λ (k : ℕ). name i (suc k)) (clock-own b i));
  }

  -- the list of i has u.k exactly if its count says so
  says_listed : (i u k : ℕ) → 1 ≤ k → Says (any (is_applied u k) (desk_list i h)) (k ≤ s.applied i u)
  says_listed i u k pos =
      says_as (any (is_applied u k) (desk_list i h)) (says_any (is_applied u k) (says-applied u k) (desk_list i h))
      (λ m. ((b.counts i u k).0 (subst (λ (b : Entry). Memᴰ b (desk_list i h)) m.has m.among)).1)
      (λ le. record { element = applied (name u k); among = (b.counts i u k).1 (pos, le); has = refl })

  open-lacked : (u k : ℕ) → In s.setup.desks u → In (written s u) k → is_open s u k ≡ some_lacks s.setup.desks h u k
  open-lacked u k hu hk =
      says-one (is_open s u k) (lacks s u k)
      (record { to = λ e. ((r.frame.open-exactly u k).0 e).lacks; from = λ l. (r.frame.open-exactly u k).1 (record { writer = hu; number = hk; lacks = l }) }) (says-lacks s u k)
      ∙ ap not (all_same (λ i. leb k (s.applied i u)) (λ i. any (is_applied u k) (desk_list i h)) s.setup.desks 1
      (λ i _ _. says-one _ _ (says-leb k (s.applied i u)) (says_listed i u k hk.0)))

  pub open-observed : OpenObserved s h
  unfolding open_count
  open-observed =
      sum_same s.setup.desks (λ u. tally (writes_of u h) (some_lacks s.setup.desks h u)) (λ u. tally (written s u) (is_open s u))
      (λ u a c.
      sum_same (written s u) (λ k. one (some_lacks s.setup.desks h u k)) (λ k. one (is_open s u k)) (λ k d e. ap one (open-lacked u k (a, c) (d, e)))
      ∙ ap (λ (m : ℕ). tally m (some_lacks s.setup.desks h u)) (counted u))
      ∙ sym (writes_by_desk b.story.ordered.numbered s.setup.desks (λ q u k w. (write_in w).0) (some_lacks s.setup.desks h))
