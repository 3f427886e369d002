-- Readiness over lists of counts and vectors is the machine's.
use Rattle.std.specs.Prelude.{◌+◌, ◌-◌, ◌≤◌, ◌<◌, ◌≡◌, Some, None}
use Rattle.std.specs.Prelude as std
use Rattle.laws.specs.Kit.{ℕ, suc, refl, sym, ap, ◌∙◌, Bool, false, not, List, Option, none, some, arith}
use Rattle.laws.specs.Kit.{add-one, ltb-true, lt-ltb, le-ltb, eq-eqb, ne_eqb, length, get_or, set, get_or-set_same, get_or-set_other, ltb, eqb}
use Rattle.laws.specs.{Loop.{pick, cases, scan-short}, All.{all, all-next, all-fails, all_end, all-fails-at, all_same}}
use Rattle.laws.specs.{All.{all_shift}, Update.{same_or}}
use Rattle.machine.specs.{Table.{Vec, Name, name}, Steps.{fails, first_unapplied, failing, ready, is_none}, Rules.{In, Flat}}
use Rattle.machine.proofs.Ready.{ready-all}
use Rattle.clock.specs.{Vectors.{place, places, place_at}, declared.Missing.{Missing}}

-- the document's values for each case: none, or the name of the write that is missing
abbrev pub wait_of : std.Option Missing → Option Name
wait_of None = none
wait_of (Some m) = some (name m.desk m.number)

abbrev pub fails_at : List ℕ → List ℕ → ℕ → ℕ → Bool
fails_at a v u t = fails (place a) u (place v) t

abbrev pub ready_at : List ℕ → List ℕ → ℕ → Bool
ready_at a v u = ready places (place a) u (place v)

-- no place of the vector is above the counts
unfoldable pub covers : ℕ → List ℕ → List ℕ → Bool
covers n a v = all (λ t. not (ltb (get_or a t 0) (get_or v t 0))) n 0

abbrev pub covers_all : List ℕ → List ℕ → Bool
covers_all a v = covers places a v

-- the place of the writer, and the others --

pub fails-own : (a : Vec) (u : ℕ) (w : Vec) → fails a u w u ≡ not (eqb (suc (a u)) (w u))
fails-own a u w = rw (eq-eqb u u refl, fails)

pub fails-other : (a : Vec) (u : ℕ) (w : Vec) (t : ℕ) → (t ≡ u → ⊥) → fails a u w t ≡ ltb (a t) (w t)
fails-other a u w t n = rw (ne_eqb t u n, fails)

-- a vector that is zero past n: the places past n never fail
pub failing-narrow : (n p : ℕ) (a : Vec) (u : ℕ) (w : Vec) → Flat n w → u ≤ n → n ≤ p → failing p a u w ≡ failing n a u w
unfolding failing
failing-narrow n p a u w flat un np =
    let e : p ≡ n + (p - n) = omega arith in
    rw e (scan-short (fails a u w) _ none n (p - n) 1 past)
  where
    past : (k : ℕ) → 1 + n ≤ k → fails a u w k ≡ false
    past k l =
        fails-other a u w k (λ q. (omega arith))
        ∙ cases (ltb (a k) (w k)) (λ t. absurd (omega (arith, (flat k (omega (arith, ltb-true (a k) (w k) t))).1))) (λ t. t)

pub ready-narrow : (n p : ℕ) (a : Vec) (u : ℕ) (w : Vec) → Flat n w → u ≤ n → n ≤ p → ready p a u w ≡ ready n a u w
ready-narrow n p a u w flat un np = ap is_none (failing-narrow n p a u w flat un np)

-- the code's way to the answer, without an early exit: the writer's own place first, then the others at once --

module _ (n : ℕ) (a v : List ℕ) where
  -- the writer has no place
  pub ready_out : (u : ℕ) → (In n u → ⊥) → ready n (place a) u (place v) ≡ covers n a v
  unfolding covers
  ready_out u out =
      ready-all n (place a) u (place v)
      ∙ all_shift (λ t. not (fails (place a) u (place v) t)) n 0
      ∙ all_same (λ t. not (fails (place a) u (place v) (suc t))) (λ t. not (ltb (get_or a t 0) (get_or v t 0))) n 0
      (λ k l h. ap not (fails-other (place a) u (place v) (suc k) (λ q. out (omega arith, omega arith))))

  -- the count is not exactly one below
  pub ready_late : (u : ℕ) → In n u → (get_or a (u - 1) 0 + 1 ≡ get_or v (u - 1) 0 → ⊥) → ready n (place a) u (place v) ≡ false
  ready_late u h ne =
      let l : suc (place a u) ≡ place v u → ⊥ = (λ q. ne (omega (arith, place_at a u h.0, place_at v u h.0))) in
      ready-all n (place a) u (place v)
      ∙ all-fails-at (λ t. not (fails (place a) u (place v) t)) n 1 u h.0 (omega (arith, h.1))
      (ap not (fails-own (place a) u (place v) ∙ ap not (ne_eqb (suc (place a u)) (place v u) l)))

  -- it is: the others are left
  pub ready-next : (u : ℕ) → In (length v) u → get_or a (u - 1) 0 + 1 ≡ get_or v (u - 1) 0 → ready n (place a) u (place v) ≡ covers n a (set v (u - 1) 0)
  unfolding covers
  ready-next u h e =
      ready-all n (place a) u (place v)
      ∙ all_shift (λ t. not (fails (place a) u (place v) t)) n 0
      ∙ all_same (λ t. not (fails (place a) u (place v) (suc t))) (λ t. not (ltb (get_or a t 0) (get_or (set v (u - 1) 0) t 0))) n 0
      (λ k l g. ap not (one k))
    where
      b : u - 1 < length v
      b = omega (arith, h.0, h.1)

      one : (k : ℕ) → fails (place a) u (place v) (suc k) ≡ ltb (get_or a k 0) (get_or (set v (u - 1) 0) k 0)
      one k =
          same_or k (u - 1)
          (λ q. let r : u ≡ suc k = omega (arith, h.0) in
          let f : suc (get_or a k 0) ≡ get_or v k 0 = rw (← q) at (sym (add-one (get_or a (u - 1) 0)) ∙ e) in
          rw (← q, r) (fails-own (place a) (suc k) (place v) ∙ rw (eq-eqb (suc (get_or a k 0)) (get_or v k 0) f, zero-there q)))
          (λ q. fails-other (place a) u (place v) (suc k) (λ r. q (omega arith)) ∙ rw (get_or-set_other v (u - 1) k 0 0 q))
        where
          zero-there : k ≡ u - 1 → ltb (get_or a k 0) (get_or (set v k 0) k 0) ≡ false
          zero-there q = le-ltb (get_or a k 0) (get_or (set v k 0) k 0) (omega (arith, get_or-set_same v k 0 0 (rw q b)))

-- the loop over the places: one above the counts; one not
module _ (n : ℕ) (a v : List ℕ) (over : Bool) (t : ℕ) (h : t < n) where
  abbrev pub under : ℕ → Bool
  under j = not (ltb (get_or a j 0) (get_or v j 0))

  pub covers-over : get_or a t 0 < get_or v t 0 → pick over false (all under (n - t) t) ≡ false
  covers-over l = cases over (λ e. rw e) (λ e. rw e (all-fails under n t h (rw (lt-ltb (get_or a t 0) (get_or v t 0) l))))

  pub covers_more : get_or v t 0 ≤ get_or a t 0 → pick over false (all under (n - t) t) ≡ pick over false (all under (n - (t + 1)) (t + 1))
  covers_more l = cases over (λ e. rw e) (λ e. rw e (all-next under n t h (rw (le-ltb (get_or a t 0) (get_or v t 0) l))))

pub covers_end : (n : ℕ) (a v : List ℕ) (over : Bool) (t : ℕ) → n ≤ t → pick over false (all (λ j. not (ltb (get_or a j 0) (get_or v j 0))) (n - t) t) ≡ not over
covers_end n a v over t h =
    cases over (λ e. rw e) (λ e. rw e (all_end (λ j. not (ltb (get_or a j 0) (get_or v j 0))) n t h))

-- at place t, from 1, by the lists' elements --

pub unapplied-at : (a : List ℕ) (t : ℕ) → 1 ≤ t → get_or a (t - 1) 0 + 1 ≡ (first_unapplied (place a) t).number
unapplied-at a t h = rw (place_at a t h) (add-one (get_or a (t - 1) 0))

module _ (a v : List ℕ) (u t : ℕ) (h : 1 ≤ t) where
  pub fails_at-own : t ≡ u → not (eqb (get_or a (t - 1) 0 + 1) (get_or v (t - 1) 0)) ≡ fails_at a v u t
  fails_at-own e =
      rw (← e) (sym (fails-own (place a) t (place v) ∙ rw (place_at a t h, place_at v t h, ← add-one (get_or a (t - 1) 0))))

  pub fails_at-other : (t ≡ u → ⊥) → ltb (get_or a (t - 1) 0) (get_or v (t - 1) 0) ≡ fails_at a v u t
  fails_at-other n = sym (fails-other (place a) u (place v) t n ∙ rw (place_at a t h, place_at v t h))

-- the contract leaves one answer
abbrev pub wait_for : Option Name → std.Option Missing
wait_for none = None
wait_for (some w) = Some record { desk = w.writer; number = w.number }

wait_back : (w : std.Option Missing) → wait_for (wait_of w) ≡ w
wait_back None = refl
wait_back (Some m) = refl

pub wait_is : (w : std.Option Missing) {o : Option Name} → wait_of w ≡ o → w ≡ wait_for o
wait_is w e = sym (wait_back w) ∙ ap wait_for e
