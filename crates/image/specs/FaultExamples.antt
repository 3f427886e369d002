-- Document 02, T-01, computed on images of three blocks. The place test by itself: `block/specs/Examples.antt`.
use Rattle.std.specs.Prelude.{◌+◌, ◌≡◌, ◌∷◌, ◌++◌}
use Rattle.laws.specs.{Kit.{ℕ, refl, List, [], set, get_or, replicate}, FirstNot.{first_not}, Loop.{scan, turns}}
use Rattle.laws.specs.{All.{all}, Sum.{sum}, Cat.{cat, part}, Tab.{tab, tab_from}, FromOne.{from1}, Tests.{same}}
use Rattle.machine.specs.{Table.{fresh}, Steps.{open_count, everywhere, failing}, RulesTest.{keeps}}
use Rattle.block.specs.{Check.{check_of}, Block.{vector_words, block}, Damage.{check_in, whole_blocks}, Limits.{places_for, edition_of}}
use Rattle.block.specs.{Limits.{broad, block_bytes, check_at, image_bytes}, Examples.{sizes_block, desk_block, cells_block}}
use Rattle.image.specs.{Encode.{bytes_of_desk, bytes_of_cell, cell_part, encode_at, encode}, Fields.{vec_of, cell_read}, Decode.{decode_at}}
use Rattle.image.specs.Load.{length_fault, check_fault, rule_fault, refused, load}

is-image : encode (fresh 1 1) ≡ sizes_block ++ (desk_block ++ cells_block)
unfolding places_for edition_of encode_at block cat vector_words bytes_of_desk bytes_of_cell cell_part open_count sum
is-image = refl

-- a check one too high
abbrev worn : List ℕ → List ℕ
worn l = set l check_at (get_or l check_at 0 + 1)

-- 15: no byte, and one too many
pub no_byte : load [] ≡ refused length_fault
unfolding load whole_blocks
no_byte = refl

pub one_byte_more : load (0 ∷ (sizes_block ++ (desk_block ++ cells_block))) ≡ refused length_fault
unfolding load whole_blocks block
one_byte_more = refl

-- a block more than the largest image has: 12 here, and not 15
pub above_largest : load (replicate (image_bytes broad + block_bytes) 0) ≡ refused (check_fault 0)
unfolding load whole_blocks first_not scan turns check_in check_of sum part
above_largest = refl

-- 12: two checks are wrong, and before them a kind: the first wrong check is told
pub first_check_told : load (block 1 2 0 (1 ∷ 1 ∷ []) ++ (worn desk_block ++ worn cells_block)) ≡ refused (check_fault 1)
unfolding load whole_blocks first_not scan turns check_in check_of sum part block
first_check_told = refl

-- 13: two blocks exchanged, and both editions
pub exchanged : load (sizes_block ++ (cells_block ++ desk_block)) ≡ refused (rule_fault 1)
unfolding load whole_blocks first_not scan turns check_in check_of sum part block same keeps all decode_at from1 vec_of cell_read places_for edition_of encode_at cat vector_words bytes_of_desk bytes_of_cell cell_part open_count tab tab_from everywhere failing
exchanged = refl

pub both_editions : load (sizes_block ++ (desk_block ++ block 2 3 2 [])) ≡ refused (rule_fault 3)
unfolding load whole_blocks first_not scan turns check_in check_of sum part block same keeps all decode_at from1 vec_of cell_read places_for edition_of encode_at cat vector_words bytes_of_desk bytes_of_cell cell_part open_count tab tab_from everywhere failing
both_editions = refl
