-- Document 02, T-01: the place test, computed.
use Rattle.std.specs.Prelude.{◌≡◌, ◌∷◌, ◌++◌}
use Rattle.laws.specs.{Kit.{ℕ, refl, List, [], map}, FirstNot.{first_not}, Loop.{scan, turns}, Cat.{part}}
use Rattle.block.specs.{Block.{block}, Stands.{first_misplaced}}

-- three blocks that can stand at 0, 1 and 2: the image of a fresh table of a desk and a cell
abbrev pub sizes_block : List ℕ
sizes_block = block 1 1 0 (1 ∷ 1 ∷ [])

abbrev pub desk_block : List ℕ
desk_block = block 1 2 1 (1 ∷ [])

abbrev pub cells_block : List ℕ
cells_block = block 1 3 2 []

-- the first block that cannot stand where it is: two exchanged; one left out; a place 256 too high; a kind 5, a kind 0; sizes in block 2, and none in block 0; editions 3
-- and 0; edition 0; behind a block that breaks another rule (no desks); and in block 0 kind 0, place 1,
-- editions 0 and 3
pub misplaced_told : map first_misplaced (
    (sizes_block ++ (cells_block ++ desk_block))
    ∷ (sizes_block ++ cells_block)
    ∷ (sizes_block ++ (desk_block ++ block 1 3 258 []))
    ∷ (sizes_block ++ (block 1 5 1 (1 ∷ []) ++ cells_block))
    ∷ (sizes_block ++ (desk_block ++ block 1 0 2 []))
    ∷ (sizes_block ++ (desk_block ++ block 1 1 2 []))
    ∷ (block 1 2 0 (1 ∷ 1 ∷ []) ++ (desk_block ++ cells_block))
    ∷ (sizes_block ++ (block 3 2 1 (1 ∷ []) ++ block 0 3 2 []))
    ∷ (sizes_block ++ (desk_block ++ block 0 3 2 []))
    ∷ (block 1 1 0 (0 ∷ 1 ∷ []) ++ (desk_block ++ block 1 1 2 []))
    ∷ (block 1 0 0 (1 ∷ 1 ∷ []) ++ (desk_block ++ cells_block))
    ∷ (block 1 1 1 (1 ∷ 1 ∷ []) ++ (desk_block ++ cells_block))
    ∷ (block 0 1 0 (1 ∷ 1 ∷ []) ++ (desk_block ++ cells_block))
    ∷ (block 3 1 0 (1 ∷ 1 ∷ []) ++ (desk_block ++ cells_block)) ∷ [])
    ≡ 1 ∷ 1 ∷ 2 ∷ 1 ∷ 2 ∷ 2 ∷ 0 ∷ 1 ∷ 2 ∷ 2 ∷ 0 ∷ 0 ∷ 0 ∷ 0 ∷ []
unfolding first_not scan turns part block
misplaced_told = refl

-- the block count where each can stand there, whatever else it breaks: nothing; edition 2 in all, and in one; kinds 4 and 2 where others are wanted; no cells; a byte that is
-- not named; sizes past every limit
pub placed-told : map first_misplaced (
    (sizes_block ++ (desk_block ++ cells_block))
    ∷ (block 2 1 0 (1 ∷ 1 ∷ []) ++ (block 2 2 1 (1 ∷ []) ++ block 2 3 2 []))
    ∷ (sizes_block ++ (desk_block ++ block 2 3 2 []))
    ∷ (sizes_block ++ (block 1 4 1 (1 ∷ []) ++ block 1 2 2 []))
    ∷ (block 1 1 0 (1 ∷ 0 ∷ []) ++ (desk_block ++ cells_block))
    ∷ (sizes_block ++ (block 1 2 1 (1 ∷ 1 ∷ []) ++ cells_block))
    ∷ (block 1 1 0 (255 ∷ 255 ∷ 255 ∷ []) ++ (desk_block ++ cells_block)) ∷ [])
    ≡ 3 ∷ 3 ∷ 3 ∷ 3 ∷ 3 ∷ 3 ∷ 3 ∷ []
unfolding first_not scan turns part block
placed-told = refl
