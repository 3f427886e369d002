-- What chains of the library give, in the words of these laws: `all` over a range, `array::from_fn` and a fold over pairs.
use Rattle.std.specs.Prelude.{◌+◌, ◌-◌, ◌<◌, ◌≤◌, ◌≡◌, ◌&&◌, ◌∷◌, Option, Some, None}
use Rattle.std.specs.Array.{IsFromFnResult, IsFromFnResultFrom}
use Rattle.std.specs.Fn.{Called}
use Rattle.std.specs.Iterator.{ChecksAll, Yields}
use Rattle.std.specs.List.{FoldsTo, fold, zip}
use Rattle.std.specs.Option.{MatchOption}
use Rattle.std.specs.declared.ops.Range.{Range}
use Rattle.std.proofs.iter.Yields.{nat_range_steps}
use denote.Param.Members.{Mut}
use Rattle.laws.specs.Kit.{ℕ, zero, suc, refl, sym, ap, ◌∙◌, List, [], Bool, true, false, arith, get_or, length, ext_get_or, sub-zero}
use Rattle.laws.specs.{All.{all, all_shift, all_true, all-fails-at, all-next}, Loop.{scan, turns, cases}, Tab.{tab, get_or-tab, length-tab}, Update.{same_or}}

-- `all` over a range, whose closure answers p
pub all_of_range : {F : Type 0} {g : Mut F (ℕ × Unit {0}) Bool} {s u : Range ℕ} {f : F} {r : Bool} (p : ℕ → Bool) → ChecksAll nat_range_steps g s f r u
    → ((x : ℕ) (b : Bool) (q : F) → s.start ≤ x → x < s.end → Called g f (x, tt) b q → (q ≡ f) × (b ≡ p x)) → r ≡ all p (s.end - s.start) s.start
all_of_range {F} {g} {s} {u} {f} {r} p d h = go d.0 s d.3.0 d.1 d.2 d.3.1 d.3.2 d.4 d.5 h
  where
    go : (xs : List ℕ) (s t : Range ℕ) (o : Option ℕ) (j : F) → Yields nat_range_steps s xs t → nat_range_steps t o u → FoldsTo (λ q x v. Called g q (x, tt) true v) f xs j
        → MatchOption o (r ≡ true) (λ x. (r ≡ false) × ((v : F) × Called g j (x, tt) false v))
        → ((x : ℕ) (b : Bool) (q : F) → s.start ≤ x → x < s.end → Called g f (x, tt) b q → (q ≡ f) × (b ≡ p x)) → r ≡ all p (s.end - s.start) s.start
    go [] s t None j y z w m h =
        let a : t.end - t.start ≡ 0 = z.1.0 in
        let b : s.end - s.start ≡ 0 = rw (← y) at a in
        m ∙ sym (all_true p (s.end - s.start) s.start (λ k l i. absurd (omega arith)))
    go [] s t (Some x) j y z w m h =
        let c = rw (← w, z.1.1, ← y) at m.1.1 in
        let a : 0 < s.end - s.start = rw (← y) at z.1.0 in
        m.0 ∙ sym (all-fails-at p (s.end - s.start) s.start s.start (omega arith) (omega arith) (sym (h s.start false m.1.0 (omega arith) (omega arith) c).1))
    go (x ∷ xs) s t o j y z w m h =
        let st = y.1.1 in
        let a : s.start < s.end = omega (arith, st.0) in
        let c = h s.start true w.0 (omega arith) a (rw st.1 at w.1) in
        go xs y.0 t o j y.2 z (rw c.0 at w.2) m
        (λ k b q lo hi i. h k b q (omega (arith, st.2)) (omega (arith, y.1.0)) i)
        ∙ rw (y.1.0, st.2) (sym (all-next p s.end s.start a (sym c.1)))

-- the same from 0 on
pub all_below : {F : Type 0} {g : Mut F (ℕ × Unit {0}) Bool} {n : ℕ} {u : Range ℕ} {f : F} {r : Bool} (p : ℕ → Bool) → ChecksAll nat_range_steps g (record { start = 0; end = n }) f r u
    → ((x : ℕ) (b : Bool) (q : F) → x < n → Called g f (x, tt) b q → (q ≡ f) × (b ≡ p x)) → r ≡ all p n 0
all_below {n = n} p d h = rw sub-zero at (all_of_range p d (λ x b q lo hi c. h x b q hi c))

-- an array made by a closure that answers h
pub tab_of_from_fn : {F B : Type 0} {g : Mut F (ℕ × Unit {0}) B} {f : F} {ys : List B} {n : ℕ} (z : B) (h : ℕ → B) → IsFromFnResult g f ys n
    → ((i : ℕ) (y : B) (q : F) → i < n → Called g f (i, tt) y q → (q ≡ f) × (y ≡ h i)) → ys ≡ tab n h
tab_of_from_fn {F} {B} {g} {f} {ys} {n} z h r k =
    ext_get_or z ys (tab n h) (r.long ∙ sym (length-tab h n))
    (λ i l. let b : i < n = omega (arith, r.long) in walk n 0 f refl r.each (omega arith) i (omega arith) (omega arith) ∙ sym (get_or-tab h n i z b))
  where
    walk : (m i : ℕ) (q : F) → q ≡ f → IsFromFnResultFrom g q ys i m → i + m ≤ n → (j : ℕ) → i ≤ j → j < i + m → get_or ys j z ≡ h j
    walk zero i q e w b j lo hi = absurd (omega arith)
    walk (suc m) i q e w b j lo hi =
        let c = k i w.1 w.0 (omega arith) (rw e at w.3) in
        same_or j i
        (λ s. rw s (w.2.1 z ∙ c.1))
        (λ ne. walk m (i + 1) w.0 c.0 w.4 (omega arith) j (omega arith) (omega arith))

-- the first index apart
all_front : (p : ℕ → Bool) (n : ℕ) → all p (suc n) 0 ≡ (p 0 && all (λ k. p (suc k)) n 0)
unfolding all scan turns
all_front p n = cases (p 0) (λ e. rw e (all_shift p n 0)) (λ e. rw e)

-- a fold over the pairs of two lists that keeps whether all passed
module _ {A B : Type 0} (p : A → B → Bool) (d : A) (e : B) where
  abbrev pub pass : List A → List B → ℕ → Bool
  pass xs ys t = p (get_or xs t d) (get_or ys t e)

  fold_from : (b : Bool) (xs : List A) (ys : List B) → length ys ≡ length xs → fold (λ (ok : Bool) (q : A × B). ok && p q.0 q.1) b (zip xs ys) ≡ (b && all (pass xs ys) (length xs) 0)
  unfolding all scan turns
  fold_from true [] ys h = refl
  fold_from false [] ys h = refl
  fold_from b (x ∷ xs) [] h = absurd (omega arith)
  fold_from b (x ∷ xs) (y ∷ ys) h =
      fold_from (b && p x y) xs ys (omega arith) ∙ (and_and b (p x y) _ ∙ ap (λ c. b && c) (sym (all_front (pass (x ∷ xs) (y ∷ ys)) (length xs))))
    where
      and_and : (a c r : Bool) → ((a && c) && r) ≡ (a && (c && r))
      and_and true c r = refl
      and_and false c r = refl

  pub fold_all : (xs : List A) (ys : List B) → length ys ≡ length xs → fold (λ (ok : Bool) (q : A × B). ok && p q.0 q.1) true (zip xs ys) ≡ all (pass xs ys) (length xs) 0
  fold_all xs ys h = fold_from true xs ys h
