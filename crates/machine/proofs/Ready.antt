-- Readiness, and "applied at all n desks", said of the numbers.
use Rattle.std.specs.Prelude.{◌≡◌, ◌≢◌, ◌≤◌, ◌<◌}
use Rattle.laws.specs.Kit.{refl, sym, ◌∙◌, ap, fun_ext, Bool, true, false, not, Option, none, some, ℕ, suc, arith}
use Rattle.laws.specs.Kit.{ltb-true, ltb-false, eqb-true, eqb-false, eq-eqb, ne_eqb, le-ltb, not-true, not-false, eqb}
use Rattle.laws.specs.{Loop.{cases, scan-first, scan-none, scan-map, scan-same}, All.{all, all-at}, Says.{apart, all-not}}
use Rattle.laws.specs.Update.{upd, upd_same, upd_other, same_or}
use Rattle.machine.specs.{Table.{Vec, Name, done, Open, State}, Steps.{fails, failing, is_none, ready, everywhere}}
use Rattle.machine.specs.{Steps.{still_open}, Rules.{In, OpenWrite}}

-- an option's two cases, with the equation at hand: of what speaks of it, and of what does not
pub option_all : {A : Type 0} (P : Option A → Type 0) (x : Option A) → (x ≡ none → P none) → ((a : A) → x ≡ some a → P (some a)) → P x
option_all P none f g = f refl
option_all P (some a) f g = g a refl

pub option_cases : {A R : Type 0} (x : Option A) → (x ≡ none → R) → ((a : A) → x ≡ some a → R) → R
option_cases {R = R} = option_all (λ _. R)

pub is-none : {A : Type 0} (x : Option A) → is_none x ≡ true → x ≡ none
is-none none e = refl
is-none (some a) e = apart true refl (sym e)

pub not-both : {A R : Type 0} {x : Option A} {a : A} → x ≡ none → x ≡ some a → R
not-both p q = absurd (let z : ◌≡◌ {A = ℕ} 0 1 = cc in omega arith)

not-not : (b : Bool) → b ≡ not (not b)
not-not true = refl
not-not false = refl

-- one place --

module _ (a : Vec) (u : ℕ) (w : Vec) where
  pub passes-own : fails a u w u ≡ false → suc (a u) ≡ w u
  passes-own e = eqb-true _ _ (not-false _ (rw (eq-eqb u u refl, fails) at e))

  pub passes-rest : (t : ℕ) → t ≢ u → fails a u w t ≡ false → w t ≤ a t
  passes-rest t ne e = ltb-false _ _ (rw (ne_eqb t u ne, fails) at e)

  -- of a write that is not applied: more is counted than is applied, and the first of it that is missing is another write
  pub fails-lacks : a u < w u → (t : ℕ) → fails a u w t ≡ true → (a t < w t) × (t ≡ u → suc (a t) ≢ w u)
  fails-lacks l t e =
      same_or t u
      (λ p. let n : suc (a u) ≢ w u = eqb-false _ _ (not-true _ (rw (eq-eqb t u p, fails) at e)) in (rw p l, λ _. rw p n))
      (λ p. (ltb-true _ _ (rw (ne_eqb t u p, fails) at e), λ q. absurd (p q)))

-- all places --

-- z is the first write not applied of the smallest desk whose place fails
pub record NamesFailing (n : ℕ) (a : Vec) (u : ℕ) (w : Vec) (z : Name) : Type 0 where
  pub desk : In n z.writer
  pub number : z.number ≡ suc (a z.writer)
  pub there : fails a u w z.writer ≡ true
  pub below : (t : ℕ) → 1 ≤ t → t < z.writer → fails a u w t ≡ false

module _ (n : ℕ) (a : Vec) (u : ℕ) (w : Vec) where
  pub ready_at_lem : ready n a u w ≡ true → (t : ℕ) → In n t → fails a u w t ≡ false
  unfolding failing
  ready_at_lem e t h = scan-none (fails a u w) _ n 1 (is-none _ e) t h.0 (omega arith)

  pub failing-at : (z : Name) → failing n a u w ≡ some z → NamesFailing n a u w z
  unfolding failing
  failing-at z e =
      let f = scan-first (fails a u w) _ n 1 z e in
      let t : f.index ≡ z.writer = ap (λ (x : Name). x.writer) f.is in
      record {
        desk = (rw t at f.low, omega (arith, f.high));
        number = sym (ap (λ (x : Name). x.number) f.is) ∙ ap (λ (d : ℕ). suc (a d)) t;
        there = rw t at f.passes;
        below = rw t at f.fails_before;
      }

  -- ready exactly if no place fails
  pub ready-all : ready n a u w ≡ all (λ t. not (fails a u w t)) n 1
  unfolding failing all
  ready-all =
      scan-map is_none (fails a u w) _ none n 1
      ∙ scan-same (fails a u w) (λ t. not (not (fails a u w t))) (λ k. false) true n 1 (λ k l h. not-not (fails a u w k))

-- one more write of desk i makes no other write ready that has had enough of i
pub still : (n : ℕ) (a : Vec) (u : ℕ) (w : Vec) (i : ℕ) → u ≢ i → w i ≤ a i → ready n (upd a i (suc (a i))) u w ≡ ready n a u w
still n a u w i ne h =
    ready-all n (upd a i (suc (a i))) u w ∙ ap (λ (p : ℕ → Bool). all (λ t. not (p t)) n 1) (fun_ext one) ∙ sym (ready-all n a u w)
  where
    one : (t : ℕ) → fails (upd a i (suc (a i))) u w t ≡ fails a u w t
    one t =
        same_or t u
        (λ p. rw (p, eq-eqb u u refl, fails, upd_other a i (suc (a i)) u ne))
        (λ p. rw (ne_eqb t u p, fails)
        (same_or t i
        (λ q. rw (q, upd_same a i (suc (a i)), le-ltb (a i) (w i) h, le-ltb (suc (a i)) (w i) (omega arith)))
        (λ q. rw (upd_other a i (suc (a i)) t q))))

-- where an open write is not applied, its own number is above the count
pub not-applied : {s : State} {u k : ℕ} {w : Open} → OpenWrite s u k w → (i : ℕ) → In s.setup.desks i → w.marks i ≢ done → s.applied i u < w.vector u
not-applied {s} {u} {k} o i hi ne =
    let late : ¬ (k ≤ s.applied i u) = (λ z. ne ((o.marked i hi).1 z)) in
    omega (arith, o.number)

-- everywhere --

pub done-everywhere : (n : ℕ) (w : Open) → everywhere n w ≡ true → (t : ℕ) → In n t → w.marks t ≡ done
unfolding everywhere
done-everywhere n w e t h = eqb-true _ _ (all-at (λ t. eqb (w.marks t) done) n 1 e t h.0 (omega arith))

pub not-everywhere : (n : ℕ) (w : Open) → everywhere n w ≡ false → (t : ℕ) × In n t × (w.marks t ≢ done)
unfolding everywhere
not-everywhere n w e = let r = all-not (λ t. eqb (w.marks t) done) n 1 e in (r.0, omega arith, eqb-false _ _ r.3)

pub none_still : (n : ℕ) (w : Open) → is_none (still_open n w) ≡ everywhere n w
none_still n w = cases (everywhere n w) (λ e. rw (e, still_open)) (λ e. rw (e, still_open))

-- what is still open is the write as marked
pub still_is : (n : ℕ) (w z : Open) → still_open n w ≡ some z → w ≡ z
still_is n w z e =
    cases (everywhere n w)
    (λ t. not-both {A = Open} (rw (t, still_open)) e)
    (λ t. let q : some w ≡ some z = sym (rw (t, still_open)) ∙ e in cc)
