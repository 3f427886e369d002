-- A load has one outcome: a refusal as a value; of an accepted table the core and the cells as values, and of its open writes the set.
use Rattle.std.specs.Prelude.{◌≡◌, Option, Some, None, Result, Ok, Err, IfOk}
use Rattle.laws.specs.Kit.{ℕ, refl, sym, ap, ◌∙◌, List}
use Rattle.table.specs.{declared.Cell.{Cell}, declared.Open.{Open}, declared.Core.{Core}, declared.Table.{Table}, TypeShape.{Shaped}}
use Rattle.table.specs.{Model.{model_of, table_with}, SameTable.{Same}, Unique.{StandsIn, same-core}}
use Rattle.table.specs.Unique.{same-opens}
use Rattle.table.proofs.Unique.{same-cells}
use Rattle.image.specs.Load.{length_fault, check_fault, rule_fault, Loaded, refused, loaded, load}
use Rattle.image.proofs.Load.{loads_is}
use Rattle.load.specs.{declared.Fault.{Fault}, declared.Fault.TheVariants.{WrongLength, Damaged, Broken}}
use Rattle.load.specs.Loading.{loaded_of, Answers, AnswersInto, answers_loads}

-- the refusal, if it is one
abbrev pub refusal_of : Result Table Fault → Option Fault
refusal_of (Ok t) = None
refusal_of (Err f) = Some f

abbrev pub outcome_for : Loaded → Option Fault
outcome_for (loaded s) = None
outcome_for (refused length_fault) = Some WrongLength
outcome_for (refused (check_fault k)) = Some (Damaged k)
outcome_for (refused (rule_fault k)) = Some (Broken k)

outcome-back : (r : Result Table Fault) → outcome_for (loaded_of r) ≡ refusal_of r
outcome-back (Ok t) = refl
outcome-back (Err WrongLength) = refl
outcome-back (Err (Damaged k)) = refl
outcome-back (Err (Broken k)) = refl

-- what the bytes give
pub loaded-is : (b : List ℕ) (r : Result Table Fault) → Answers b r → loaded_of r ≡ load b
loaded-is b r h = loads_is b (loaded_of r) (answers_loads b r h)

pub outcome-is : (b : List ℕ) (r : Result Table Fault) → Answers b r → refusal_of r ≡ outcome_for (load b)
outcome-is b r h = sym (outcome-back r) ∙ ap outcome_for (loaded-is b r h)

pub record OneTable (t t' : Table) : Type 0 where
  pub same : Same t t'
  pub core : t.core ≡ t'.core
  pub cells : t.cells ≡ t'.cells
  pub opens : StandsIn t.opens t'.opens

-- both are one refusal, or both tables that are one
abbrev pub OneLoading : Result Table Fault → Result Table Fault → Type 0
OneLoading (Ok t) (Ok t') = OneTable t t'
OneLoading (Ok t) (Err f) = ⊥
OneLoading (Err f) (Ok t) = ⊥
OneLoading (Err f) (Err f') = f ≡ f'

pub one_loading : (b : List ℕ) (r r' : Result Table Fault) → IfOk r Shaped → IfOk r' Shaped → Answers b r → Answers b r' → OneLoading r r'
one_loading b (Ok t) (Ok t') h h' p q =
    let l : loaded (model_of t) ≡ loaded (model_of t') = loaded-is b (Ok t) p ∙ sym (loaded-is b (Ok t') q) in
    let e : Same t t' = cc in
    record {
      same = e;
      core = same-core t t' h h' p.0 q.0 e;
      cells = same-cells t t' h h' p.0 q.0 e;
      opens = same-opens t t' h h' p.0 q.0 e;
    }
one_loading b (Ok t) (Err f) h h' p q = let e : ◌≡◌ {A = Option Fault} None (Some f) = outcome-is b (Ok t) p ∙ sym (outcome-is b (Err f) q) in cc
one_loading b (Err f) (Ok t) h h' p q = let e : ◌≡◌ {A = Option Fault} (Some f) None = outcome-is b (Err f) p ∙ sym (outcome-is b (Ok t) q) in cc
one_loading b (Err f) (Err f') h h' p q = let e : ◌≡◌ {A = Option Fault} (Some f) (Some f') = outcome-is b (Err f) p ∙ sym (outcome-is b (Err f') q) in cc

-- where the arrays are lent: both are one refusal, with the same arrays, or both the parts of tables that are one
abbrev pub OneLoadingInto : Result Core Fault → List Cell → List Open → Result Core Fault → List Cell → List Open → Type 0
OneLoadingInto (Ok c) cs os (Ok c') cs' os' = OneTable (table_with c cs os) (table_with c' cs' os')
OneLoadingInto (Ok c) cs os (Err f) cs' os' = ⊥
OneLoadingInto (Err f) cs os (Ok c) cs' os' = ⊥
OneLoadingInto (Err f) cs os (Err f') cs' os' = (f ≡ f') × ((cs ≡ cs') × (os ≡ os'))

module _ (b : List ℕ) (cs cs' : List Cell) (os os' : List Open) where
  pub one_loading_into : (r r' : Result Core Fault) → IfOk r (λ c. Shaped (table_with c cs os)) → IfOk r' (λ c. Shaped (table_with c cs' os')) → AnswersInto b r cs os → AnswersInto b r' cs' os' → OneLoadingInto r cs os r' cs' os'
  one_loading_into (Ok c) (Ok c') h h' p q = one_loading b (Ok (table_with c cs os)) (Ok (table_with c' cs' os')) h h' p q
  one_loading_into (Ok c) (Err f) h h' p q = one_loading b (Ok (table_with c cs os)) (Err f) h h' p q.0
  one_loading_into (Err f) (Ok c) h h' p q = one_loading b (Err f) (Ok (table_with c cs' os')) h h' p.0 q
  one_loading_into (Err f) (Err f') h h' p q = (one_loading b (Err f) (Err f') h h' p.0 q.0, (p.1 ∙ sym q.1, p.2 ∙ sym q.2))
