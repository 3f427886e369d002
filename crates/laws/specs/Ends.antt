-- A list with one more element at its end.
use Rattle.std.specs.Prelude.{◌<◌, ◌≡◌, ◌∷◌, ◌++◌}
use Rattle.laws.specs.Kit.{ℕ, zero, suc, refl, sym, ap, ◌∙◌, subst, List, [], append-nil, append_assoc}
use Rattle.laws.specs.{Kit.{Memᴰ, Memᴰ-head, Memᴰ-tail, some, arith, length, get_elem?}, Says.{clash}}

-- the element b stands at the place p of l, or is the new one
pub data AtEnd {A : Type 0} (l : List A) (a : A) (p : ℕ) (b : A) : Type 0 where
  before : get_elem? l p ≡ some b → AtEnd l a p b
  last : p ≡ length l → a ≡ b → AtEnd l a p b

-- a cut in front of b lies inside l, or in front of the new element
pub data CutEnd {A : Type 0} (l : List A) (a : A) (earlier : List A) (b : A) : Type 0 where
  inside : (later : List A) → l ≡ earlier ++ b ∷ later → CutEnd l a earlier b
  outside : l ≡ earlier → a ≡ b → CutEnd l a earlier b

module _ {A : Type 0} where
  pub at-inside : (l : List A) (p : ℕ) (b : A) → get_elem? l p ≡ some b → p < length l
  at-inside [] p b e = clash (cc)
  at-inside (x ∷ l) zero b e = omega arith
  at-inside (x ∷ l) (suc p) b e = let h = at-inside l p b e in omega arith

  pub at_before : (l : List A) (a : A) (p : ℕ) (b : A) → get_elem? l p ≡ some b → get_elem? (l ++ a ∷ []) p ≡ some b
  at_before [] a p b e = clash (cc)
  at_before (x ∷ l) a zero b e = e
  at_before (x ∷ l) a (suc p) b e = at_before l a p b e

  -- the element behind l
  pub at_cut : (l : List A) (a : A) (m : List A) → get_elem? (l ++ a ∷ m) (length l) ≡ some a
  at_cut [] a m = refl
  at_cut (x ∷ l) a m = at_cut l a m

  pub at_end : (l : List A) (a : A) → get_elem? (l ++ a ∷ []) (length l) ≡ some a
  at_end l a = at_cut l a []

  pub at-either : (l : List A) (a : A) (p : ℕ) (b : A) → get_elem? (l ++ a ∷ []) p ≡ some b → AtEnd l a p b
  at-either [] a zero b e = last refl (cc)
  at-either [] a (suc p) b e = clash (cc)
  at-either (x ∷ l) a zero b e = before e
  at-either (x ∷ l) a (suc p) b e = go (at-either l a p b e)
    where
      go : AtEnd l a p b → AtEnd (x ∷ l) a (suc p) b
      go (before q) = before q
      go (last q r) = last (ap suc q) r

  pub cut_end : (l : List A) (a : A) (earlier : List A) (b : A) (later : List A) → l ++ a ∷ [] ≡ earlier ++ b ∷ later → CutEnd l a earlier b
  cut_end [] a [] b later e = outside refl (cc)
  cut_end [] a (y ∷ []) b later e = let z : ◌≡◌ {A = List A} [] (b ∷ later) = cc in clash (cc)
  cut_end [] a (y ∷ (y' ∷ ys)) b later e = let z : ◌≡◌ {A = List A} [] (y' ∷ (ys ++ b ∷ later)) = cc in clash (cc)
  cut_end (x ∷ l) a [] b later e = inside l (ap {B = List A} (λ y. y ∷ l) (cc))
  cut_end (x ∷ l) a (y ∷ ys) b later e = go (cut_end l a ys b later (cc))
    where
      go : CutEnd l a ys b → CutEnd (x ∷ l) a (y ∷ ys) b
      go (inside m q) = inside m (cc)
      go (outside q r) = outside (cc) r

  -- nothing stands in the empty list
  pub no_cut : (earlier : List A) (b : A) (later : List A) → [] ≡ earlier ++ b ∷ later → ⊥
  no_cut [] b later e = clash (cc)
  no_cut (y ∷ ys) b later e = clash (cc)

-- where a member stands
pub record Cut {A : Type 0} (b : A) (l : List A) : Type 0 where
  pub earlier : List A
  pub later : List A
  pub is : l ≡ earlier ++ b ∷ later

pub cut_at : {A : Type 0} {b : A} {l : List A} → Memᴰ b l → Cut b l
cut_at {A} (Memᴰ-head {xs = xs} e) = record { earlier = []; later = xs; is = ap {B = List A} (λ y. y ∷ xs) (sym e) }
cut_at {A} (Memᴰ-tail {x = x} m) = let c = cut_at m in record { earlier = x ∷ c.earlier; later = c.later; is = ap {B = List A} (λ y. x ∷ y) c.is }

-- what holds of the empty list, and goes on from each part at the front to the part with the next element, holds of the list
pub by_parts : {A : Type 0} (P : List A → Type 0) (l : List A) → P []
    → ((earlier : List A) (a : A) (later : List A) → l ≡ earlier ++ a ∷ later → P earlier → P (earlier ++ a ∷ [])) → P l
by_parts {A} P l start more = go [] l refl start
  where
    go : (earlier later : List A) → l ≡ earlier ++ later → P earlier → P l
    go earlier [] e p = subst P (sym (e ∙ append-nil earlier)) p
    go earlier (a ∷ later) e p = go (earlier ++ a ∷ []) later (e ∙ sym (append_assoc earlier (a ∷ []) later)) (more earlier a later e p)
