-- The blocks of a slice.
use Rattle.std.specs.Prelude.{◌+◌, ◌*◌, ◌<◌, ◌≡◌}
use Rattle.std.specs.Simd.{first_chunks}
use Rattle.laws.specs.Kit.{ℕ, zero, suc, ◌∙◌, List, arith, get_or, drop, drop-drop}
use Rattle.laws.specs.Cat.{part}

-- block k of those of n elements
pub get_or-first_chunks : {A : Type 0} (n count : ℕ) (l : List A) (k : ℕ) (d : List A) → k < count → get_or (first_chunks n count l) k d ≡ part (n * k) n l
unfolding part
get_or-first_chunks n zero l k d h = absurd (omega arith)
get_or-first_chunks n (suc count) l zero d h = let e : n * 0 ≡ 0 = omega arith in rw e
get_or-first_chunks n (suc count) l (suc k) d h =
    let e : n * suc k ≡ n + n * k = omega arith in
    get_or-first_chunks n count (drop n l) k d (omega arith) ∙ rw (e, drop-drop (n * k) n l)
