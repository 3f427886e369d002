-- The document's numbers, computed.
use Rattle.std.specs.Prelude.{◌*◌, ◌≡◌, ◌∷◌, ◌++◌}
use Rattle.laws.specs.{Kit.{refl, true, false, none, [], map, length, replicate}, Update.{upd, upd2}, Sum.{sum}}
use Rattle.laws.specs.{Loop.{scan, turns}, All.{all}, Tab.{tab, tab_from}, Cat.{cat, part}, FirstNot.{first_not}}
use Rattle.machine.specs.{Table.{zeros, sized, State, fresh}, Steps.{open_count, everywhere, failing, write, step, Write}}
use Rattle.machine.specs.{Steps.{Deliver, settle, first_due}, History.{run, take_step}, RulesTest.{keeps}}
use Rattle.block.specs.{Check.{check_of}, Block.{vector_words, mark_bytes, block}, Damage.{check_in, whole_blocks}, Limits.{places_for}}
use Rattle.block.specs.Limits.{edition_of, block_bytes, check_at}
use Rattle.image.specs.{OpenNames.{names, names_of_desk}, Encode.{bytes_of_desk, bytes_of_cell, bytes_of_open, cell_part, open_part, encode_at}}
use Rattle.image.specs.{Encode.{encode}, Load.{check_fault, refused, load}}

-- "A fresh table of n = 1, m = 1 is 3 blocks, and its first check is 15."
pub fresh-blocks : length (encode (fresh 1 1)) ≡ 3 * block_bytes
unfolding places_for edition_of encode_at block cat vector_words bytes_of_desk bytes_of_cell cell_part open_count sum check_of
fresh-blocks = refl

pub first_check : part check_at 4 (encode (fresh 1 1)) ≡ 15 ∷ 0 ∷ 0 ∷ 0 ∷ []
unfolding places_for edition_of encode_at block cat vector_words bytes_of_desk bytes_of_cell cell_part open_count sum check_of part
first_check = refl

-- "An all-zero block is damaged."
pub zero-block : load (replicate block_bytes 0) ≡ refused (check_fault 0)
unfolding load whole_blocks first_not check_in check_of sum part scan turns
zero-block = refl

-- desk 1 of 2 writes status 2 to cell 1: the block at place 5 holds the open write, which desk 2 has yet to receive
abbrev pub one_write_table : State
one_write_table = write (fresh 2 1) 1 1 2

pub open-entry : part (5 * block_bytes) 40 (encode one_write_table) ≡ 4 ∷ 1 ∷ 5 ∷ 0 ∷ 1 ∷ 2 ∷ 1 ∷ 0 ∷ 1 ∷ 0 ∷ 0 ∷ 0 ∷ 0 ∷ 0 ∷ 0 ∷ 0 ∷ 0 ∷ 0 ∷ 0 ∷ 0 ∷ 0 ∷ 0 ∷ 0 ∷ 0 ∷ 2 ∷ 0 ∷ 0 ∷ 0 ∷ 0 ∷ 0 ∷ 0 ∷ 0 ∷ 0 ∷ 0 ∷ 0 ∷ 0 ∷ 0 ∷ 0 ∷ 0 ∷ 0 ∷ []
unfolding places_for edition_of encode_at block cat vector_words mark_bytes bytes_of_desk bytes_of_cell cell_part bytes_of_open open_part names names_of_desk open_count sum check_of part upd upd2 everywhere all scan turns tab tab_from
open-entry = refl

-- Document 02, T-06. Desk 9 of 9 writes status 2 to cell 1: edition 2, and the block at place 19 holds the open write, with 16 places and 16 marks,
-- of which the ninth are set
abbrev pub ninth_write_table : State
ninth_write_table = write (fresh 9 1) 9 1 2

pub broad-entry : part (19 * block_bytes) 60 (encode ninth_write_table)
    ≡ 4 ∷ 2 ∷ 19 ∷ 0 ∷ 9 ∷ 2 ∷ 1 ∷ 0 ∷ (replicate 16 0 ++ 1 ∷ 0 ∷ (replicate 14 0 ++ (replicate 8 0 ++ 2 ∷ (replicate 7 0 ++ replicate 4 0))))
unfolding places_for edition_of encode_at block cat vector_words mark_bytes bytes_of_desk bytes_of_cell cell_part bytes_of_open open_part names names_of_desk open_count sum check_of part upd upd2 everywhere all scan turns tab tab_from
broad-entry = refl

-- delivered to desk 1 it is applied there, and the clock stays: its counts, and from byte 40 its clock
pub broad-desk : part block_bytes 76 (encode (step ninth_write_table (Deliver 1 9 1)).state)
    ≡ 2 ∷ 2 ∷ 1 ∷ 0 ∷ 1 ∷ 0 ∷ 0 ∷ 0 ∷ (replicate 16 0 ++ 1 ∷ 0 ∷ (replicate 14 0 ++ replicate 36 0))
unfolding places_for edition_of encode_at block cat vector_words mark_bytes bytes_of_desk bytes_of_cell cell_part bytes_of_open open_part names names_of_desk open_count sum check_of part upd upd2 everywhere all scan turns tab tab_from step failing settle first_due
broad-desk = refl

-- of 15 cells the last stands in a desk's second block; n, m and the open count in the first of all
abbrev pub fifteenth_cell_table : State
fifteenth_cell_table = write (fresh 9 15) 9 15 2

pub broad-head : part 0 8 (encode fifteenth_cell_table) ≡ 1 ∷ 2 ∷ 0 ∷ 0 ∷ 9 ∷ 15 ∷ 1 ∷ 0 ∷ []
unfolding places_for edition_of encode_at block cat vector_words mark_bytes bytes_of_desk bytes_of_cell cell_part bytes_of_open open_part names names_of_desk open_count sum check_of part upd upd2 everywhere all scan turns tab tab_from
broad-head = refl

pub broad-cell : part (27 * block_bytes) 44 (encode fifteenth_cell_table)
    ≡ 3 ∷ 2 ∷ 27 ∷ 0 ∷ 9 ∷ 2 ∷ 0 ∷ 0 ∷ (replicate 16 0 ++ 1 ∷ 0 ∷ (replicate 14 0 ++ replicate 4 0))
unfolding places_for edition_of encode_at block cat vector_words mark_bytes bytes_of_desk bytes_of_cell cell_part bytes_of_open open_part names names_of_desk open_count sum check_of part upd upd2 everywhere all scan turns tab tab_from
broad-cell = refl

-- in edition 1 the cell of desk 1, at place 3
pub narrow-cell : part (3 * block_bytes) 28 (encode one_write_table) ≡ 3 ∷ 1 ∷ 3 ∷ 0 ∷ 1 ∷ 2 ∷ 0 ∷ 0 ∷ 1 ∷ 0 ∷ (replicate 14 0 ++ replicate 4 0)
unfolding places_for edition_of encode_at block cat vector_words mark_bytes bytes_of_desk bytes_of_cell cell_part bytes_of_open open_part names names_of_desk open_count sum check_of part upd upd2 everywhere all scan turns tab tab_from
narrow-cell = refl

-- of ten open writes the last stands in a second block
pub broad_tenth : part (20 * block_bytes) 26 (encode (run (λ s. s) (fresh 9 1) (map take_step (replicate 10 (Write 9 1 2)))))
    ≡ 4 ∷ 2 ∷ 20 ∷ 0 ∷ 9 ∷ 2 ∷ 1 ∷ 0 ∷ (replicate 16 0 ++ 10 ∷ 0 ∷ [])
unfolding places_for edition_of encode_at block cat vector_words mark_bytes bytes_of_desk bytes_of_cell cell_part bytes_of_open open_part names names_of_desk open_count sum check_of part upd upd2 everywhere all scan turns tab tab_from run step failing settle first_due
broad_tenth = refl

-- the rules hold of one_write_table; of the same with the clocks or the open write lost they do not
pub one-write-keeps : keeps one_write_table ≡ true
unfolding keeps open_count sum upd upd2 everywhere failing all scan turns
one-write-keeps = refl

pub no-clock : keeps (record { setup = sized 2 1; applied = one_write_table.applied; clock = λ i. zeros; cell = one_write_table.cell; opens = one_write_table.opens }) ≡ false
unfolding keeps open_count sum upd upd2 everywhere failing all scan turns
no-clock = refl

pub no_open_write : keeps (record { setup = sized 2 1; applied = one_write_table.applied; clock = one_write_table.clock; cell = one_write_table.cell; opens = λ u k. none }) ≡ false
unfolding keeps open_count sum upd upd2 everywhere failing all scan turns
no_open_write = refl
