-- Where each field stands in a block.
use Rattle.std.specs.Prelude.{◌+◌, ◌-◌, ◌*◌, ◌/◌, ◌<◌, ◌≤◌, ◌≡◌, ◌∷◌, ◌++◌}
use Rattle.laws.specs.Kit.{ℕ, refl, ◌∙◌, List, arith, length, replicate, length-append}
use Rattle.laws.specs.{Kit.{length-replicate, mul-le-mul_left}, Cat.{cat, part, part_right, part_left, piece-cat, length-cat}}
use Rattle.block.specs.{Check.{check_of}, Block.{word, long, body, block}, Limits.{fit, piece_inside, block_bytes, payload_at}}
use Rattle.block.specs.Limits.{check_at, payload_bytes}

pub length-body : (edition kind place : ℕ) (l : List ℕ) → length l ≤ payload_bytes → length (body edition kind place l) ≡ check_at
length-body edition kind place l h = simp (length-append, length-replicate) (omega arith)

pub length-block : (edition kind place : ℕ) (l : List ℕ) → length l ≤ payload_bytes → length (block edition kind place l) ≡ block_bytes
unfolding block
length-block edition kind place l h = rw (length-append (body edition kind place l), length-body edition kind place l h)

-- the payload stands at 4
pub part-block : (edition kind place : ℕ) (l : List ℕ) (p w : ℕ) → p + w ≤ length l → part (payload_at + p) w (block edition kind place l) ≡ part p w l
unfolding block
part-block edition kind place l p w h =
    let z : List ℕ = replicate (payload_bytes - length l) 0 in
    part_right (kind ∷ edition ∷ word place) ((l ++ z) ++ long (check_of (body edition kind place l))) 4 p w refl
    ∙ part_left (l ++ z) (long (check_of (body edition kind place l))) p w (rw length-append (omega arith))
    ∙ part_left l z p w h

-- a block of pieces of w bytes, as many as fit --

module _ (w : ℕ) (f : ℕ → List ℕ) (l : (j : ℕ) → length (f j) ≡ w) where
  pub few_bytes : length (cat f (payload_bytes / w)) ≤ payload_bytes
  few_bytes = omega (arith, length-cat f w l (payload_bytes / w), fit w)

  pub piece-block : (edition kind place j : ℕ) → j < payload_bytes / w → part (payload_at + w * j) w (block edition kind place (cat f (payload_bytes / w))) ≡ f j
  piece-block edition kind place j h =
      part-block edition kind place (cat f (payload_bytes / w)) (w * j) w (omega (arith, length-cat f w l (payload_bytes / w), mul-le-mul_left w h))
      ∙ piece-cat f (payload_bytes / w) j (w * j) w h (length-cat f w l j) (l j)

-- it lies within the block
pub piece-room : (w j : ℕ) → j < payload_bytes / w → payload_at + w * j + w ≤ block_bytes
piece-room w j h = omega (arith, piece_inside w j h)
