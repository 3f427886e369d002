-- What owning an array of structs tells: its list has as many elements, and each element is a value of its type.
use Rattle.std.specs.Prelude.{◌<◌, ◌≡◌, ◌∷◌}
use Rattle.laws.specs.Kit.{ℕ, zero, suc, ◌∙◌, sym, List, [], map, not-suc-le-zero, le_of_suc-le-suc, length, get_or}
use Rattle.laws.specs.Kit.{length-map}
use mir.Val.{Val}
use Rattle.std.specs.Borrow.{Fml}
use denote.{Array.{each}, Shadow.{shadow}}

pub unmapped : (X Y : Type 0) (f : X → Y) (l : List X) (n : ℕ) → length (map f l) ≡ n → length l ≡ n
unmapped X Y f l n e = sym (length-map l f) ∙ e

pub each-own : (X : Type 0) (own : X → List Val → Fml) (xs : List X) (us : List Val) (i : ℕ) (z : X) → i < length xs → shadow (each X own xs us) → (u : Val) × shadow (own (get_or xs i z) (u ∷ []))
each-own X own [] us i z h s = absurd (not-suc-le-zero h)
each-own X own (x ∷ xs) [] i z h s = absurd s
each-own X own (x ∷ xs) (u ∷ us) zero z h s = (u, s.0)
each-own X own (x ∷ xs) (u ∷ us) (suc i) z h s = each-own X own xs us i z (le_of_suc-le-suc h) s.1

pub at_own : (X : Type 0) (P : X → Type 0) (own : X → List Val → Fml) (xs : List X) (us : List Val) (i : ℕ) (z : X) → i < length xs → shadow (each X own xs us) → ((x : X) (u : Val) → shadow (own x (u ∷ [])) → P x) → P (get_or xs i z)
at_own X P own xs us i z h s k = let e = each-own X own xs us i z h s in k (get_or xs i z) e.0 e.1
