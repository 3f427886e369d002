-- A block as the code fills it: zeros, then its head and its payload, then its check.
use Rattle.std.specs.Prelude.{◌+◌, ◌-◌, ◌*◌, ◌<◌, ◌≤◌, ◌≡◌, ◌∷◌, ◌++◌}
use Rattle.laws.specs.Kit.{ℕ, zero, suc, refl, sym, ap, ◌∙◌, List, [], append_assoc, append-nil}
use Rattle.laws.specs.Kit.{arith, length, set, drop, replicate, length-append, length-replicate, replicate-append-replicate, sets, sets-eq}
use Rattle.laws.specs.{Kit.{take_at, drop-append-add, add-zero}, Cat.{cat, length-cat}}
use Rattle.block.specs.{Check.{check_of, check_first}, Block.{word, long, vector_words, body, sealed, block, length-words}}
use Rattle.block.specs.{Link.BlockPlaces.{length-body}, Link.BlockFill.{then_put, zeros_put}, Limits.{block_bytes, payload_at}}
use Rattle.block.specs.Limits.{check_at, payload_bytes, vector_at, after_vector}
use Rattle.machine.specs.Table.{Vec}

-- the head of a block
abbrev pub head : ℕ → ℕ → ℕ → List ℕ
head edition kind at = kind ∷ edition ∷ word at

sealed_sets : (b : List ℕ) → length b ≡ check_at → sets (b ++ replicate 4 0) check_at (long (check_of (b ++ replicate 4 0))) ≡ sealed b
sealed_sets b e =
    let z : List ℕ = replicate 4 0 in
    let c : check_of (b ++ z) ≡ check_of b = check_first b z e in
    let l : length (b ++ z) ≡ block_bytes = rw (length-append b z, e) in
    let d : drop (check_at + 4) (b ++ z) ≡ [] = rw e at (drop-append-add b z 4) in
    rw c (sets-eq (long (check_of b)) (b ++ z) check_at (omega arith) ∙ rw (take_at b z check_at e, d, append-nil))

body_put : (edition kind at : ℕ) (l : List ℕ) → length l ≤ payload_bytes → sets (replicate block_bytes 0) 0 (head edition kind at ++ l) ≡ body edition kind at l ++ replicate 4 0
body_put edition kind at l h =
    let e : block_bytes - suc (suc (suc (suc (length l)))) ≡ (payload_bytes - length l) + 4 = omega arith in
    zeros_put block_bytes (head edition kind at ++ l) (omega arith) ∙ rw (e, append_assoc l, replicate-append-replicate (payload_bytes - length l))

-- a block of the code: its head put into zeros, its payload behind that, and then its check
pub made : (edition kind at : ℕ) (l : List ℕ) {b0 b1 b : List ℕ} → length l ≤ payload_bytes → b0 ≡ sets (replicate block_bytes 0) 0 (head edition kind at) → b1 ≡ sets b0 payload_at l
    → b ≡ sets b1 check_at (long (check_of b1)) → b ≡ block edition kind at l
unfolding block
made edition kind at l h e0 e1 e =
    let z = e1 ∙ rw e0 (then_put (replicate block_bytes 0) (head edition kind at) l 0 payload_at refl) ∙ body_put edition kind at l h in
    e ∙ rw z (sealed_sets (body edition kind at l) (length-body edition kind at l h))

-- pieces of zeros at its end need not be put: the rest of a block is zeros
cat-zeros : (f : ℕ → List ℕ) (w n d : ℕ) → ((j : ℕ) → n ≤ j → j < n + d → f j ≡ replicate w 0) → cat f (n + d) ≡ cat f n ++ replicate (w * d) 0
unfolding cat
cat-zeros f w n zero h = let e : w * 0 ≡ 0 = omega arith in rw (add-zero n, e) (sym (append-nil (cat f n)))
cat-zeros f w n (suc d) h =
    let a : n + suc d ≡ suc (n + d) = omega arith in
    let e : w * suc d ≡ w * d + w = omega arith in
    rw (a, cat-zeros f w n d (λ j g l. h j g (omega arith)), h (n + d) (omega arith) (omega arith), e)
    (append_assoc (cat f n) (replicate (w * d) 0) (replicate w 0) ∙ rw (replicate-append-replicate {A = ℕ} (w * d) w 0))

pub zeros-behind : (edition kind at w n all : ℕ) (f : ℕ → List ℕ) → n ≤ all → ((j : ℕ) → length (f j) ≡ w) → w * all ≤ payload_bytes
    → ((j : ℕ) → n ≤ j → j < all → f j ≡ replicate w 0) → block edition kind at (cat f n) ≡ block edition kind at (cat f all)
unfolding block
zeros-behind edition kind at w n all f h l fits z =
    let d : ℕ = all - n in
    let e : all ≡ n + d = omega arith in
    let m = ap (λ (x : ℕ). w * x) e in
    let c : cat f all ≡ cat f n ++ replicate (w * d) 0 = ap (cat f) e ∙ cat-zeros f w n d (λ j g k. z j g (omega arith)) in
    let k = length-cat f w l n in
    let r : payload_bytes - length (cat f n) ≡ w * d + (payload_bytes - length (cat f n ++ replicate (w * d) 0)) = rw (length-append, length-replicate) (omega arith) in
    let q : cat f n ++ replicate (payload_bytes - length (cat f n)) 0 ≡ cat f all ++ replicate (payload_bytes - length (cat f all)) 0 =
    rw (c, append_assoc (cat f n), replicate-append-replicate {A = ℕ} (w * d), r) in
    ap (λ (b : List ℕ). sealed (kind ∷ edition ∷ (word at ++ b))) q

-- where a vector takes ps places
module _ (ps : ℕ) where
  -- what begins with 4 bytes and a vector, as it is put
  pub begun : (b : List ℕ) (at x y z : ℕ) (r : List ℕ) → sets (set (set (set (set b at x) (at + 1) y) (at + 2) z) (at + 3) 0) (at + vector_at) r ≡ sets b at (x ∷ y ∷ z ∷ 0 ∷ r)
  begun b at x y z r =
      let p1 : at + 1 ≡ suc at = omega arith in
      let p2 : at + 2 ≡ suc (suc at) = omega arith in
      let p3 : at + 3 ≡ suc (suc (suc at)) = omega arith in
      let p4 : at + 4 ≡ suc (suc (suc (suc at))) = omega arith in
      rw (p1, p2, p3, p4)

  -- and what stands behind the vector
  pub behind : (b : List ℕ) (at x y z : ℕ) (v : Vec) (r : List ℕ) → sets (sets b at (x ∷ y ∷ z ∷ 0 ∷ vector_words ps v)) (at + after_vector ps) r ≡ sets b at (x ∷ y ∷ z ∷ 0 ∷ (vector_words ps v ++ r))
  behind b at x y z v r = then_put b (x ∷ y ∷ z ∷ 0 ∷ vector_words ps v) r at (after_vector ps) (rw (length-words ps v) (omega arith))
