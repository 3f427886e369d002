-- Loading: what an image is accepted as, which number refuses it, and where (document 02, T-01).
use Rattle.std.specs.Prelude.{◌<◌, ◌≡◌, ◌&&◌}
use Rattle.laws.specs.Kit.{ℕ, Bool, List, Option, none, some, arith, ltb, ltb-true}
use Rattle.laws.specs.{Kit.{ltb-false}, Loop.{pick, cases}, Says.{Says, apart}, Tests.{same}}
use Rattle.laws.specs.FirstNot.{FirstNot}
use Rattle.machine.specs.{Table.{State}, Answer.{Refusal, wrong_length, damaged, broken}, Rules.{Rules}, RulesTest.{keeps}}
use Rattle.block.specs.Damage.{blocks_in, RightAt, WholeBlocks, Undamaged, whole_blocks, says-whole, first_wrong, first_wrong_lem}
use Rattle.block.specs.{Stands.{StandsAt, first_misplaced, first_misplaced_lem}}
use Rattle.image.specs.Encode.{encode}
use Rattle.image.specs.Decode.{decode}

-- what is wrong with an image: its length; the check of the block at a place; a rule, with the place of the first block that cannot stand where
-- it is, "or the block count if only other rules break"
pub data Fault : Type 0 where
  length_fault : Fault
  check_fault : ℕ → Fault
  rule_fault : ℕ → Fault

-- "15 wrong length, before 12, which now means the check alone"
abbrev pub fault_refusal : Fault → Refusal
fault_refusal length_fault = wrong_length
fault_refusal (check_fault k) = damaged
fault_refusal (rule_fault k) = broken

-- "15 (length 0 included) has no place."
abbrev pub fault_place : Fault → Option ℕ
fault_place length_fault = none
fault_place (check_fault k) = some k
fault_place (rule_fault k) = some k

pub data Loaded : Type 0 where
  refused : Fault → Loaded
  loaded : State → Loaded

-- Load: 15, 12, 13. The length first, then all checks; then the fields are read, the rules tested, and the table saved again is compared.
unfoldable pub load : List ℕ → Loaded
load b =
    pick (whole_blocks b)
    (pick (ltb (first_wrong b) (blocks_in b)) (refused (check_fault (first_wrong b)))
    (pick (keeps (decode b) && same (encode (decode b)) b) (loaded (decode b)) (refused (rule_fault (first_misplaced b)))))
    (refused length_fault)

-- b is the image of no table that keeps the rules
abbrev pub NoImage : List ℕ → Type 0
NoImage b = (s : State) → Rules s → encode s ≡ b → ⊥

-- what loading b comes to, said without reading: b is the image of a table that keeps the rules, or it is refused
pub data Loads (b : List ℕ) : Loaded → Type 0 where
  by_length : (WholeBlocks b → ⊥) → Loads b (refused length_fault)
  by_check : (k : ℕ) → WholeBlocks b → k < blocks_in b → FirstNot (RightAt b) (blocks_in b) k → Loads b (refused (check_fault k))
  by_rule : (k : ℕ) → Undamaged b → NoImage b → FirstNot (StandsAt b) (blocks_in b) k → Loads b (refused (rule_fault k))
  as_saved : (s : State) → Rules s → encode s ≡ b → Loads b (loaded s)

-- Any reader loads right that reads images right: what it reads has its rules tested, is saved again and compared.
module _ (b : List ℕ) (c : State) (reads : (s : State) → Rules s → encode s ≡ b → c ≡ s) where
  saved_again : (s : State) → Rules s → encode s ≡ b → Rules c × (encode c ≡ b)
  saved_again s r e = rw (reads s r e) (r, e)

  pub load_by : (saved : Bool) → Says saved (Rules c × (encode c ≡ b))
      → Loads b (pick (whole_blocks b) (pick (ltb (first_wrong b) (blocks_in b)) (refused (check_fault (first_wrong b))) (pick saved (loaded c) (refused (rule_fault (first_misplaced b))))) (refused length_fault))
  load_by saved says =
      let f = first_wrong_lem b in
      cases (whole_blocks b)
      (λ e. let w = (says-whole b).to e in
      rw e (cases (ltb (first_wrong b) (blocks_in b))
      (λ l. rw l (by_check (first_wrong b) w (ltb-true _ _ l) f))
      (λ l. rw l (let u : Undamaged b = record { whole = w; checks = λ k h. f.before k (let g = ltb-false (first_wrong b) (blocks_in b) l in omega arith) } in
      cases saved
      (λ g. rw g (as_saved c (says.to g).0 (says.to g).1))
      (λ g. rw g (by_rule (first_misplaced b) u (λ s r i. apart saved (says.from (saved_again s r i)) g) (first_misplaced_lem b)))))))
      (λ e. rw e (by_length (λ h. apart (whole_blocks b) ((says-whole b).from h) e)))
