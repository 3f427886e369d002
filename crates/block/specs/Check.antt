-- The check of a block: the format's definition, the handbook's, that they are one number, and all that anything else knows of it.
use Rattle.std.specs.Prelude.{◌+◌, ◌*◌, ◌<◌, ◌≤◌, ◌≡◌, ◌∷◌, ◌++◌}
use Rattle.laws.specs.Kit.{ℕ, zero, suc, pred, refl, ◌∙◌, ap, List, [], arith, mul-le-mul_left, length}
use Rattle.laws.specs.{Kit.{get_or, get_or-append}, Sum.{sum, sum_same, sum-le}, Each.{Each, each_at}}
use Rattle.block.specs.Limits.{check_at}

abbrev pub Byte : ℕ → Type 0
Byte x = x < 256

abbrev pub Bytes : List ℕ → Type 0
Bytes l = Each Byte l

-- "The check is 1 plus the sum, over j from 0 to 507, of (j+1) times byte j": here j counts from 1 to 508
abbrev pub weighed : List ℕ → ℕ → ℕ
weighed b j = j * get_or b (pred j) 0

unfoldable pub check_of : List ℕ → ℕ
check_of b = 1 + sum check_at (weighed b)

-- The same as the handbook draws it: "two running sums, from byte 507 back to byte 0: the sum so far, and the sum of those sums, plus one
-- at the end". With j bytes to go, byte j - 1 is next.
unfoldable pub walk_back : List ℕ → ℕ → ℕ → ℕ → ℕ
walk_back b zero so_far of-sums = of-sums
walk_back b (suc j) so_far of-sums = let more = so_far + get_or b j 0 in walk_back b j more (of-sums + more)

unfoldable pub handbook : List ℕ → ℕ
handbook b = walk_back b check_at 0 0 + 1

-- the manual's worked block: kind 1, edition 1, place 0, one desk, one cell; a byte that is not there counts as 0
worked : handbook (1 ∷ 1 ∷ 0 ∷ 0 ∷ 1 ∷ 1 ∷ []) ≡ 15
unfolding handbook walk_back
worked = refl

-- from any two sums: what is summed so far counts once more for each byte to go
walked : (b : List ℕ) (j so_far of-sums : ℕ) → walk_back b j so_far of-sums ≡ of-sums + j * so_far + sum j (weighed b)
unfolding walk_back sum
walked b zero so_far of-sums = omega arith
walked b (suc j) so_far of-sums = let more = so_far + get_or b j 0 in walked b j more (of-sums + more) ∙ omega arith

-- both ways over the first j bytes of a list, whatever j and whatever its length
pub two_sums : (b : List ℕ) (j : ℕ) → walk_back b j 0 0 + 1 ≡ 1 + sum j (weighed b)
two_sums b j = omega (arith, walked b j 0 0)

-- so both definitions give the same number, for every list
pub handbook_is_check : (b : List ℕ) → handbook b ≡ check_of b
unfolding handbook check_of
handbook_is_check b = two_sums b check_at

-- it looks at the first 508 bytes alone
pub check_first : (b z : List ℕ) → length b ≡ check_at → check_of (b ++ z) ≡ check_of b
unfolding check_of
check_first b z e =
    ap (λ (x : ℕ). 1 + x)
    (sum_same check_at (weighed b) (weighed (b ++ z)) (λ j l h. ap (λ (x : ℕ). j * x) (get_or-append b z 0 (pred j) (omega arith))))

-- "its largest value is 32,967,931"
largest : 1 + sum check_at (λ j. j * 255) ≡ 32967931
unfolding sum
largest = refl

pub check_most : (b : List ℕ) → Bytes b → check_of b ≤ 32967931
unfolding check_of
check_most b h =
    omega (arith, largest, sum-le check_at (weighed b) (λ j. j * 255) (λ j _ _. mul-le-mul_left j (byte j)))
  where
    byte : (j : ℕ) → get_or b (pred j) 0 ≤ 255
    byte j = omega (arith, each_at Byte b 0 (omega arith) h (pred j))
