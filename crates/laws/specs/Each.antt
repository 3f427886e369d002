-- What holds of each element of a list.
use Rattle.std.specs.Prelude.{◌+◌, ◌<◌, ◌≡◌, ◌∷◌, ◌++◌}
use Rattle.laws.specs.Kit.{ℕ, zero, suc, refl, ◌∙◌, List, [], map, arith, length, get_or}
use Rattle.laws.specs.{Kit.{replicate, take, drop}, Tab.{tab, tab_from}, Cat.{cat, part, cat-le, get_or-cat}}

pub data Each {A : Type 0} (P : A → Type 0) : List A → Type 0 where
  no : Each P []
  and : {x : A} {l : List A} → P x → Each P l → Each P (x ∷ l)

module _ {A : Type 0} (P : A → Type 0) where
  pub each_at : (l : List A) (d : A) → P d → Each P l → (p : ℕ) → P (get_or l p d)
  each_at l d z no p = z
  each_at l d z (and h g) zero = h
  each_at l d z (and {l = r} h g) (suc p) = each_at r d z g p

  -- within the list
  pub each_in : (l : List A) (d : A) → Each P l → (p : ℕ) → p < length l → P (get_or l p d)
  each_in l d no p h = absurd (omega arith)
  each_in l d (and h g) zero _ = h
  each_in l d (and {l = r} h g) (suc p) k = each_in r d g p (omega arith)

  each-drop : (n : ℕ) (l : List A) → Each P l → Each P (drop n l)
  each-drop zero l h = h
  each-drop (suc n) [] h = no
  each-drop (suc n) (x ∷ l) (and h g) = each-drop n l g

  each_take : (n : ℕ) (l : List A) → Each P l → Each P (take n l)
  each_take zero l h = no
  each_take (suc n) [] h = no
  each_take (suc n) (x ∷ l) (and h g) = and h (each_take n l g)

  -- of a part of the list
  pub each_part : (p w : ℕ) (l : List A) → Each P l → Each P (part p w l)
  unfolding part
  each_part p w l h = each_take w (drop p l) (each-drop p l h)

  pub each_append : (a b : List A) → Each P a → Each P b → Each P (a ++ b)
  each_append a b no g = g
  each_append a b (and {l = r} h e) g = and h (each_append r b e g)

  pub each-replicate : (n : ℕ) (x : A) → P x → Each P (replicate n x)
  each-replicate zero x h = no
  each-replicate (suc n) x h = and h (each-replicate n x h)

  pub each-cat : (f : ℕ → List A) (n : ℕ) → ((j : ℕ) → j < n → Each P (f j)) → Each P (cat f n)
  unfolding cat
  each-cat f zero h = no
  each-cat f (suc n) h = each_append (cat f n) (f n) (each-cat f n (λ j g. h j (omega arith))) (h n (omega arith))

  each_from : (f : ℕ → A) (n i : ℕ) → ((j : ℕ) → j < i + n → P (f j)) → Each P (tab_from f n i)
  unfolding tab_from
  each_from f zero i h = no
  each_from f (suc n) i h = and (h i (omega arith)) (each_from f n (suc i) (λ j g. h j (omega arith)))

  pub each-tab : (f : ℕ → A) (n : ℕ) → ((j : ℕ) → j < n → P (f j)) → Each P (tab n f)
  unfolding tab
  each-tab f n h = each_from f n 0 (λ j g. h j (omega arith))

  pub each_map : {B : Type 0} (f : B → A) (Q : B → Type 0) → ((b : B) → Q b → P (f b)) → (l : List B) → Each Q l → Each P (map f l)
  each_map f Q h l no = no
  each_map f Q h l (and {x = b} {l = r} q e) = and (h b q) (each_map f Q h r e)

-- a stands in l
pub record StandsAt {A : Type 0} (l : List A) (d a : A) : Type 0 where
  pub at : ℕ
  pub small : at < length l
  pub is : get_or l at d ≡ a

pub has-cat : {A : Type 0} (f : ℕ → List A) (n u : ℕ) (d a : A) → u < n → StandsAt (f u) d a → StandsAt (cat f n) d a
has-cat f n u d a h g =
    record {
      at = length (cat f u) + g.at;
      small = omega (arith, cat-le f n u h, g.small);
      is = get_or-cat f n u (length (cat f u)) g.at d h refl g.small ∙ g.is;
    }

-- within the list the default makes no difference
pub get_or-map_in : {A B : Type 0} (f : A → B) (l : List A) (p : ℕ) (d : A) (e : B) → p < length l → get_or (map f l) p e ≡ f (get_or l p d)
get_or-map_in f [] p d e h = absurd (omega arith)
get_or-map_in f (x ∷ l) zero d e h = refl
get_or-map_in f (x ∷ l) (suc p) d e h = get_or-map_in f l p d e (omega arith)

-- what follows of each
pub each-then : {A : Type 0} {P Q : A → Type 0} → ((x : A) → P x → Q x) → {l : List A} → Each P l → Each Q l
each-then h no = no
each-then h (and {x = a} p e) = and (h a p) (each-then h e)
