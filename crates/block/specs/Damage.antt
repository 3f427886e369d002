-- What 15 and 12 are given for: "image length not a nonzero multiple of 512", and "a block check wrong".
use Rattle.std.specs.Prelude.{◌+◌, ◌*◌, ◌/◌, ◌%◌, ◌<◌, ◌≤◌, ◌≡◌, ◌&&◌}
use Rattle.laws.specs.Kit.{ℕ, Bool, false, List, arith, eqb, leb, length, get_or, get_or-append-add}
use Rattle.laws.specs.{Says.{Says, clash, says-leb, says-eqb, says_as, says_both}, Cat.{part}, FirstNot.{first_not, FirstNot, first_found}}
use Rattle.block.specs.{Check.{check_of, check_first}, Block.{long, body, block}, Link.BlockPlaces.{length-body}, Limits.{block_bytes}}
use Rattle.block.specs.Limits.{check_at, payload_bytes}

-- bytes 508-511 of a block
unfoldable pub check_in : List ℕ → ℕ
check_in l = get_or l check_at 0 + 256 * get_or l (check_at + 1) 0 + 65536 * get_or l (check_at + 2) 0 + 16777216 * get_or l (check_at + 3) 0

-- the block at place k
abbrev pub block_in : List ℕ → ℕ → List ℕ
block_in b k = part (block_bytes * k) block_bytes b

-- "The block count is that of the bytes handed in" (READINGS 20)
abbrev pub blocks_in : List ℕ → ℕ
blocks_in b = length b / block_bytes

-- a block's check is right
abbrev pub Right : List ℕ → Type 0
Right l = check_in l ≡ check_of l

abbrev pub RightAt : List ℕ → ℕ → Type 0
RightAt b k = Right (block_in b k)

-- the length is "a nonzero multiple of 512", else 15
pub record WholeBlocks (b : List ℕ) : Type 0 where
  pub nonzero : 1 ≤ length b
  pub multiple : length b % block_bytes ≡ 0

-- and every check is right, else 12
pub record Undamaged (b : List ℕ) : Type 0 where
  pub whole : WholeBlocks b
  pub checks : (k : ℕ) → k < blocks_in b → RightAt b k

-- as tests
unfoldable pub whole_blocks : List ℕ → Bool
whole_blocks b = leb 1 (length b) && eqb (length b % block_bytes) 0

pub says-whole : (b : List ℕ) → Says (whole_blocks b) (WholeBlocks b)
unfolding whole_blocks
says-whole b =
    says_as (whole_blocks b) (says_both _ _ (says-leb 1 (length b)) (says-eqb (length b % block_bytes) 0))
    (λ h. record { nonzero = h.0; multiple = h.1 }) (λ h. (h.nonzero, h.multiple))

-- as the code tests it
pub empty_not_whole : (b : List ℕ) → length b ≡ 0 → Says false (WholeBlocks b)
empty_not_whole b e = record { to = λ z. clash z; from = λ h. absurd (omega (arith, h.nonzero)) }

pub by_multiple : (b : List ℕ) → (length b ≡ 0 → ⊥) → Says (eqb (length b % block_bytes) 0) (WholeBlocks b)
by_multiple b f =
    says_as (eqb (length b % block_bytes) 0) (says-eqb (length b % block_bytes) 0) (λ h. record { nonzero = omega arith; multiple = h }) (λ h. h.multiple)

-- "the place of the first bad block, counted from 0"; the block count where there is none
abbrev pub first_wrong : List ℕ → ℕ
first_wrong b = first_not (λ k. eqb (check_in (block_in b k)) (check_of (block_in b k))) (blocks_in b)

pub says_right : (b : List ℕ) (k : ℕ) → k < blocks_in b → Says (eqb (check_in (block_in b k)) (check_of (block_in b k))) (RightAt b k)
says_right b k _ = says-eqb (check_in (block_in b k)) (check_of (block_in b k))

pub first_wrong_lem : (b : List ℕ) → FirstNot (RightAt b) (blocks_in b) (first_wrong b)
first_wrong_lem b = first_found _ (says_right b)

-- of what the format writes it is right
pub right_block : (edition kind place : ℕ) (l : List ℕ) → length l ≤ payload_bytes → Right (block edition kind place l)
unfolding check_in block
right_block edition kind place l h =
    let b = body edition kind place l in
    let e = length-body edition kind place l h in
    let c = check_of b in
    let tail = get_or-append-add b (long c) in
    rw (check_first b (long c) e, rw e at (tail 0 0), rw e at (tail 1 0), rw e at (tail 2 0), rw e at (tail 3 0)) (omega arith)
