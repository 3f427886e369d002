-- The answer to a load: document 01's number and values for every case of it.
use Rattle.std.specs.Prelude.{◌+◌, ◌<◌, ◌≤◌, ◌≡◌, Result, Ok, Err}
use Rattle.laws.specs.Kit.{ℕ, ap, ◌∙◌, List, arith, zero-add, length, replicate, take, drop, sets, sets-eq}
use Rattle.laws.specs.{Kit.{take-append_seam}, FirstNot.{FirstNot}}
use Rattle.table.specs.{declared.Cell.{Cell}, declared.Open.{Open}}
use Rattle.table.specs.{declared.Core.{Core}, declared.Table.{Table}, Beginning.{fresh_table}, Model.{model_of, table_with}}
use Rattle.table.specs.{Sound.{SoundTable}, Value.{all_cells, unset_cell, entries, free_open}}
use Rattle.block.specs.{Damage.{blocks_in, RightAt, WholeBlocks, Undamaged}, Stands.{StandsAt}}
use Rattle.image.specs.{Encode.{encode}, Load.{Fault, length_fault, check_fault, rule_fault, Loaded, refused, loaded, NoImage, Loads, by_length}}
use Rattle.image.specs.Load.{by_check, by_rule, as_saved}
use Rattle.load.specs.Link.ReadsBack.{ReadsRight}
use Rattle.load.specs.declared.Fault as code
use Rattle.load.specs.declared.Fault.TheVariants as fault

-- what is wrong, as the code says it: 15, 12, 13
abbrev pub fault_of : code.Fault → Fault
fault_of fault.WrongLength = length_fault
fault_of (fault.Damaged k) = check_fault k
fault_of (fault.Broken k) = rule_fault k

-- the table, or a refusal
abbrev pub loaded_of : Result Table code.Fault → Loaded
loaded_of (Ok t) = loaded (model_of t)
loaded_of (Err f) = refused (fault_of f)

-- Load: 15, 12, 13. A table is accepted exactly if it keeps the rules and its image is the bytes.
abbrev pub Answers : List ℕ → Result Table code.Fault → Type 0
Answers b (Ok t) = SoundTable t × (encode (model_of t) ≡ b)
Answers b (Err fault.WrongLength) = WholeBlocks b → ⊥
Answers b (Err (fault.Damaged k)) = WholeBlocks b × (k < blocks_in b) × FirstNot (RightAt b) (blocks_in b) k
Answers b (Err (fault.Broken k)) = Undamaged b × NoImage b × FirstNot (StandsAt b) (blocks_in b) k

-- where the arrays are lent: the parts together are the table, and a refusal hands back zeros
abbrev pub AnswersInto : List ℕ → Result Core code.Fault → List Cell → List Open → Type 0
AnswersInto b (Ok c) cells opens = Answers b (Ok (table_with c cells opens))
AnswersInto b (Err f) cells opens = Answers b (Err f) × (cells ≡ (fresh_table 0 0).cells) × (opens ≡ (fresh_table 0 0).opens)

-- the parts as one answer, so what is said of Answers is said of them
abbrev pub whole_of : Result Core code.Fault → List Cell → List Open → Result Table code.Fault
whole_of (Ok c) cells opens = Ok (table_with c cells opens)
whole_of (Err f) cells opens = Err f

pub answers_whole : (b : List ℕ) (r : Result Core code.Fault) (cells : List Cell) (opens : List Open) → AnswersInto b r cells opens → Answers b (whole_of r cells opens)
answers_whole b (Ok c) cells opens h = h
answers_whole b (Err f) cells opens h = h.0

-- that is what loading comes to, so it comes to one thing only (one-load)
pub answers_loads : (b : List ℕ) (r : Result Table code.Fault) → Answers b r → Loads b (loaded_of r)
answers_loads b (Ok t) h = as_saved (model_of t) h.0.rules h.1
answers_loads b (Err fault.WrongLength) h = by_length h
answers_loads b (Err (fault.Damaged k)) h = by_check k h.0 h.1 h.2
answers_loads b (Err (fault.Broken k)) h = by_rule k h.0 h.1 h.2

-- what was read breaks the rules, or its image is another
pub not-held : (b : List ℕ) (t : Table) → ReadsRight b t → ((SoundTable t × (encode (model_of t) ≡ b)) → ⊥) → NoImage b
not-held b t r f s ok e = let h = r s ok e in f (h.1, ap encode h.0 ∙ e)

-- what was saved from the start of a buffer on
pub saved_part : (out vs : List ℕ) → length vs ≤ length out → take (length vs) (sets out 0 vs) ≡ vs
saved_part out vs h =
    ap (λ (l : List ℕ). take (length vs) l) (sets-eq vs out 0 (rw zero-add h)) ∙ take-append_seam vs (drop (0 + length vs) out)

-- zeros, part by part
pub zeros_so : {c : Core} {l : List Cell} {o : List Open} → c ≡ (fresh_table 0 0).core → l ≡ (fresh_table 0 0).cells → o ≡ (fresh_table 0 0).opens → table_with c l o ≡ fresh_table 0 0
zeros_so a b d = λ j. table_with (a j) (b j) (d j)

pub cleared_cells : (l : List Cell) {r : List Cell} → r ≡ replicate (length l) unset_cell → length l ≡ all_cells → r ≡ (fresh_table 0 0).cells
unfolding fresh_table
cleared_cells l e h = e ∙ ap (λ (n : ℕ). replicate n unset_cell) h

pub cleared_opens : (l : List Open) {r : List Open} → r ≡ replicate (length l) free_open → length l ≡ entries → r ≡ (fresh_table 0 0).opens
unfolding fresh_table
cleared_opens l e h = e ∙ ap (λ (n : ℕ). replicate n free_open) h

-- no check was found wrong
pub all_right : (b : List ℕ) (k : ℕ) → WholeBlocks b → blocks_in b ≤ k → FirstNot (RightAt b) (blocks_in b) k → Undamaged b
all_right b k w h f = record { whole = w; checks = λ j l. f.before j (omega arith) }
