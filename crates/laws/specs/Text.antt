-- The bytes of a text in ASCII.
use Rattle.std.specs.Prelude.{◌∷◌, ◌≡◌}
use Rattle.laws.specs.Kit.{ℕ, code, String, List, [], refl}
use Prim.Native.String as string

abbrev pub text : String → List ℕ
text string.[] = []
text (string.◌∷◌ c s) = code c ∷ text s

-- LF is 10, a digit its value and 48
pub text_codes : text "R 2 1.1\n" ≡ 82 ∷ 32 ∷ 50 ∷ 32 ∷ 49 ∷ 46 ∷ 49 ∷ 10 ∷ []
text_codes = refl
