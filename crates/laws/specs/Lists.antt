-- Tests of a list's elements.
use Rattle.std.specs.Prelude.{◌≡◌, ◌∷◌, ◌+◌, ◌<◌, ◌≤◌}
use Rattle.laws.specs.Kit.{refl, sym, ap, ◌∙◌, ⊎_elim, Bool, true, false, List, [], map, Memᴰ, Memᴰ-head}
use Rattle.laws.specs.Kit.{Memᴰ-tail, Memᴰ-not_nil, Memᴰ-cases_cons, ℕ, zero, suc, arith, add-one}
use Rattle.laws.specs.{Kit.{length, get_or, drop, drop_of_length-le, drop-cons}, Loop.{cases}, Says.{Says, says_as, clash, apart}}

unfoldable pub any : {A : Type 0} → (A → Bool) → List A → Bool
any p [] = false
any p (x ∷ l) = elim (p x) [ true ↦ true | false ↦ any p l ]

unfoldable pub every : {A : Type 0} → (A → Bool) → List A → Bool
every p [] = true
every p (x ∷ l) = elim (p x) [ true ↦ every p l | false ↦ false ]

-- the first element decides, or leaves it to the others
pub every_first : {A : Type 0} (p : A → Bool) (x : A) (l : List A) → p x ≡ true → every p (x ∷ l) ≡ every p l
unfolding every
every_first p x l e = rw (e, every)

pub every-fails : {A : Type 0} (p : A → Bool) (x : A) (l : List A) → p x ≡ false → every p (x ∷ l) ≡ false
unfolding every
every-fails p x l e = rw (e, every)

pub every-cons : {A : Type 0} (p : A → Bool) (x : A) (l : List A) → every p (x ∷ l) ≡ true → (p x ≡ true) × (every p l ≡ true)
unfolding every
every-cons p x l e = cases (p x) (λ t. (t, rw (t, every) at e)) (λ t. clash (rw (t, every) at e))

-- an element with a property
pub record Some {A : Type 0} (P : A → Type 0) (l : List A) : Type 0 where
  pub element : A
  pub among : Memᴰ element l
  pub has : P element

-- what the tests of a list's elements say
module _ {A : Type 0} {P : A → Type 0} (p : A → Bool) (h : (x : A) → Says (p x) (P x)) where
  pub says-every : (l : List A) → Says (every p l) ((x : A) → Memᴰ x l → P x)
  unfolding every
  says-every [] = record { to = λ e x m. absurd (Memᴰ-not_nil m); from = λ f. refl }
  says-every (y ∷ l) =
      cases (p y)
      (λ e. rw (e, every) (says_as (every p l) (says-every l)
      (λ f x m. ⊎_elim (λ (q : x ≡ y). rw q ((h y).to e)) (λ (m : Memᴰ x l). f x m) (Memᴰ-cases_cons m))
      (λ f x m. f x (Memᴰ-tail m))))
      (λ e. rw (e, every) (record { to = λ z. clash z; from = λ f. apart (p y) ((h y).from (f y (Memᴰ-head refl))) e }))

  pub says_any : (l : List A) → Says (any p l) (Some P l)
  unfolding any
  says_any [] = record { to = λ e. clash e; from = λ s. absurd (Memᴰ-not_nil s.among) }
  says_any (y ∷ l) =
      cases (p y)
      (λ e. rw (e, any) (record { to = λ z. record { element = y; among = Memᴰ-head refl; has = (h y).to e }; from = λ s. refl }))
      (λ e. rw (e, any) (says_as (any p l) (says_any l)
      (λ s. record { element = s.element; among = Memᴰ-tail s.among; has = s.has })
      (λ s. ⊎_elim
      (λ (q : s.element ≡ y). apart (p y) ((h y).from (rw q at s.has)) e)
      (λ (m : Memᴰ s.element l). record { element = s.element; among = m; has = s.has })
      (Memᴰ-cases_cons s.among))))

module _ {A B : Type 0} (p : B → Bool) (f : A → B) where
  pub any-map : (l : List A) → any p (map f l) ≡ any (λ x. p (f x)) l
  unfolding any
  any-map [] = refl
  any-map (x ∷ l) = ap (λ (b : Bool). elim (p (f x)) as (λ _. Bool) [ true ↦ true | false ↦ b ]) (any-map l)

  pub every_map : (l : List A) → every p (map f l) ≡ every (λ x. p (f x)) l
  unfolding every
  every_map [] = refl
  every_map (x ∷ l) = ap (λ (b : Bool). elim (p (f x)) as (λ _. Bool) [ true ↦ b | false ↦ false ]) (every_map l)

module _ {A : Type 0} where
  -- a loop over a list: what is left of it from j on
  pub drop-next : (l : List A) (j : ℕ) (d : A) → j < length l → drop j l ≡ get_or l j d ∷ drop (j + 1) l
  drop-next l j d h = rw (add-one j) (drop-cons l j d h)

  module _ (p : A → Bool) (l : List A) (j : ℕ) where
    pub every-left : (d : A) → every p (drop j l) ≡ every p l → j < length l → p (get_or l j d) ≡ true → every p (drop (j + 1) l) ≡ every p l
    every-left d e h t = sym (ap (every p) (drop-next l j d h) ∙ every_first p (get_or l j d) (drop (j + 1) l) t) ∙ e

    pub every_stop : (d : A) → every p (drop j l) ≡ every p l → j < length l → p (get_or l j d) ≡ false → false ≡ every p l
    every_stop d e h f = sym (ap (every p) (drop-next l j d h) ∙ every-fails p (get_or l j d) (drop (j + 1) l) f) ∙ e

    pub every_end : every p (drop j l) ≡ every p l → length l ≤ j → true ≡ every p l
    unfolding every
    every_end e h = sym (ap (every p) (drop_of_length-le l h)) ∙ e

-- each element passes where every one does
pub every-at : {A : Type 0} (p : A → Bool) (l : List A) (j : ℕ) (d : A) → j < length l → every p l ≡ true → p (get_or l j d) ≡ true
every-at p [] j d h e = absurd (omega arith)
every-at p (x ∷ l) zero d h e = (every-cons p x l e).0
every-at p (x ∷ l) (suc j) d h e = every-at p l j d (omega arith) (every-cons p x l e).1
