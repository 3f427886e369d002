-- Functions of a number, updated at one place; of two numbers, at one pair; and how a store into a list is such an update.
use Rattle.std.specs.Prelude.{◌<◌, ◌≡◌, ◌∷◌}
use Rattle.laws.specs.Kit.{ℕ, zero, suc, refl, sym, ap, ◌∙◌, fun_ext, List, [], true, false, Option, some, arith}
use Rattle.laws.specs.{Kit.{eqb-true, eqb-false, eq-eqb, ne_eqb, eqb, length, get_or, set, get_or-set_same, get_or-set_other}, Loop.{cases}}

-- f with a at i
unfoldable pub upd : {A : Type 0} → (ℕ → A) → ℕ → A → ℕ → A
upd f i a j = elim (eqb j i) [ true ↦ a | false ↦ f j ]

-- one number or another
pub same_or : {R : Type 0} (j i : ℕ) → (j ≡ i → R) → ((j ≡ i → ⊥) → R) → R
same_or j i y n = cases (eqb j i) (λ e. y (eqb-true j i e)) (λ e. n (eqb-false j i e))

-- one pair or another
pub same_pair_or : {R : Type 0} (j y i x : ℕ) → (j ≡ i → y ≡ x → R) → ((j ≡ i → y ≡ x → ⊥) → R) → R
same_pair_or j y i x t n = same_or j i (λ p. same_or y x (λ q. t p q) (λ q. n (λ _ r. q r))) (λ p. n (λ r _. p r))

module _ {A : Type 0} (f : ℕ → A) (i : ℕ) (a : A) where
  pub upd_same : upd f i a i ≡ a
  unfolding upd
  upd_same = rw (eq-eqb i i refl, upd)

  pub upd_other : (j : ℕ) → (j ≡ i → ⊥) → upd f i a j ≡ f j
  unfolding upd
  upd_other j h = rw (ne_eqb j i h, upd)

  -- what holds of the new value at its place and of the old ones elsewhere
  pub upd-all : (P : ℕ → A → Type 0) (j : ℕ) → (j ≡ i → P j a) → ((j ≡ i → ⊥) → P j (f j)) → P j (upd f i a j)
  upd-all P j h k = same_or j i (λ e. let p = h e in rw (e, upd_same) (rw e at p)) (λ e. rw (upd_other j e) (k e))

  -- a function is the update if it is so at the place and elsewhere
  pub upd-is : (g : ℕ → A) → g i ≡ a → ((j : ℕ) → (j ≡ i → ⊥) → g j ≡ f j) → g ≡ upd f i a
  upd-is g same other = fun_ext (λ j. upd-all (λ j b. g j ≡ b) j (λ e. rw e same) (λ e. other j e))

unfoldable pub upd2 : {A : Type 0} → (ℕ → ℕ → A) → ℕ → ℕ → A → ℕ → ℕ → A
upd2 f i x a = upd f i (upd (f i) x a)

module _ {A : Type 0} (f : ℕ → ℕ → A) (i x : ℕ) (a : A) where
  pub upd2-same : upd2 f i x a i x ≡ a
  unfolding upd2
  upd2-same = rw (upd_same f i (upd (f i) x a)) (upd_same (f i) x a)

  pub upd2-row : (j : ℕ) → (j ≡ i → ⊥) → upd2 f i x a j ≡ f j
  unfolding upd2
  upd2-row j h = upd_other f i (upd (f i) x a) j h

  pub upd2-here : upd2 f i x a i ≡ upd (f i) x a
  unfolding upd2
  upd2-here = upd_same f i (upd (f i) x a)

  pub upd2-other : (j y : ℕ) → (j ≡ i → y ≡ x → ⊥) → upd2 f i x a j y ≡ f j y
  unfolding upd2
  upd2-other j y h =
      same_or j i
      (λ e. rw (e, upd_same f i (upd (f i) x a)) (upd_other (f i) x a y (h e)))
      (λ e. rw (upd_other f i (upd (f i) x a) j e))

  pub upd2-all : (P : ℕ → ℕ → A → Type 0) (j y : ℕ) → (j ≡ i → y ≡ x → P j y a) → ((j ≡ i → y ≡ x → ⊥) → P j y (f j y)) → P j y (upd2 f i x a j y)
  upd2-all P j y h k =
      same_pair_or j y i x
      (λ p q. let r = h p q in rw (p, q, upd2-same) (rw (p, q) at r))
      (λ n. rw (upd2-other j y n) (k n))

  -- a function is the update if it is so at the pair and elsewhere
  pub upd2-is : (g : ℕ → ℕ → A) → g i x ≡ a → ((j y : ℕ) → (j ≡ i → y ≡ x → ⊥) → g j y ≡ f j y) → g ≡ upd2 f i x a
  upd2-is g same other =
      fun_ext (λ j. fun_ext (λ y. upd2-all (λ j y b. g j y ≡ b) j y (λ p q. rw (p, q) same) (λ n. other j y n)))

-- what holds of the new value, if there is one, and of the old ones elsewhere
pub upd2-some : {A : Type 0} (P : ℕ → ℕ → A → Type 0) (f : ℕ → ℕ → Option A) (i x : ℕ) (o : Option A) → ((a : A) → o ≡ some a → P i x a)
    → ((j y : ℕ) (a : A) → (j ≡ i → y ≡ x → ⊥) → f j y ≡ some a → P j y a) → (j y : ℕ) (a : A) → upd2 f i x o j y ≡ some a → P j y a
upd2-some {A} P f i x o new old j y a e =
    same_pair_or j y i x
    (λ p q. rw (p, q) (new a (sym (upd2-same f i x o) ∙ rw (p, q) at e)))
    (λ n. old j y a n (sym (upd2-other f i x o j y n) ∙ e))

-- what g reads of an updated function: the update of what it read
pub upd-map : {A B : Type 0} (g : A → B) (f : ℕ → A) (i : ℕ) (a : A) → (λ j. g (upd f i a j)) ≡ upd (λ j. g (f j)) i (g a)
upd-map g f i a = upd-is (λ j. g (f j)) i (g a) (λ j. g (upd f i a j)) (ap g (upd_same f i a)) (λ j e. ap g (upd_other f i a j e))

-- the later of two updates at one pair
pub upd2_again : {A : Type 0} (f : ℕ → ℕ → A) (i x : ℕ) (a b : A) → upd2 (upd2 f i x a) i x b ≡ upd2 f i x b
upd2_again f i x a b =
    upd2-is f i x b (upd2 (upd2 f i x a) i x b) (upd2-same (upd2 f i x a) i x b)
    (λ j y n. upd2-other (upd2 f i x a) i x b j y n ∙ upd2-other f i x a j y n)

-- stores into lists --

-- what g reads of each element
abbrev pub seen : {A B : Type 0} → (A → B) → List A → A → ℕ → B
seen g l d j = g (get_or l j d)

module _ {A B : Type 0} (g : A → B) (l : List A) (i : ℕ) (a d : A) (h : i < length l) where
  -- what the model reads of a list's elements, after a store: the update of what it read
  pub lift_set : seen g (set l i a) d ≡ upd (seen g l d) i (g a)
  lift_set =
      upd-is (seen g l d) i (g a) (seen g (set l i a) d) (ap g (get_or-set_same l i a d h)) (λ j e. ap g (get_or-set_other l i j a d e))

  -- what the store does not change stays
  pub lift_keep : g a ≡ g (get_or l i d) → seen g (set l i a) d ≡ seen g l d
  lift_keep e =
      fun_ext (λ j. same_or j i (λ q. rw q (ap g (get_or-set_same l i a d h) ∙ e)) (λ q. ap g (get_or-set_other l i j a d q)))

-- the same, from 1: what is read past a first element that stands for nothing
abbrev pub seen1 : {A B : Type 0} → (A → B) → List A → A → ℕ → B
seen1 g l d = seen g (d ∷ l) d

pub lift_set1 : {A B : Type 0} (g : A → B) (l : List A) (i : ℕ) (a d : A) → i < length l → seen1 g (set l i a) d ≡ upd (seen1 g l d) (suc i) (g a)
lift_set1 g l i a d h = lift_set g (d ∷ l) (suc i) a d (omega arith)

pub lift_keep1 : {A B : Type 0} (g : A → B) (l : List A) (i : ℕ) (a d : A) → i < length l → g a ≡ g (get_or l i d) → seen1 g (set l i a) d ≡ seen1 g l d
lift_keep1 g l i a d h e = lift_keep g (d ∷ l) (suc i) a d (omega arith) e

-- what a store does not change stays, wherever it is
pub store_keeps : {A B : Type 0} (g : A → B) (l : List A) (i j : ℕ) (a d : A) → g a ≡ g (get_or l i d) → g (get_or (set l i a) j d) ≡ g (get_or l j d)
store_keeps g [] i j a d e = refl
store_keeps g (x ∷ l) zero zero a d e = e
store_keeps g (x ∷ l) zero (suc j) a d e = refl
store_keeps g (x ∷ l) (suc i) zero a d e = refl
store_keeps g (x ∷ l) (suc i) (suc j) a d e = store_keeps g l i j a d e
