-- The beginning: a fresh table is the machine's, and refusal 11 leaves none.
use Rattle.std.specs.Prelude.{◌≡◌, Option, Some, None, IfSome}
use Rattle.laws.specs.Kit.{ℕ, zero, suc, refl, fun_ext, none, some, true, get_or, replicate}
use Rattle.laws.specs.{Loop.{pick}, Says.{apart}}
use Rattle.clock.specs.Vectors.{places, place, clock_of}
use Rattle.machine.specs.Table as machine
use Rattle.machine.specs.Answer.{began, refused, no_size}
use Rattle.machine.specs.Steps as steps
use Rattle.table.specs.{declared.Desk.{Desk}, declared.Table.{Table}, Value.{all_cells, unset_cell}}
use Rattle.table.specs.Value.{entries, open0, free_open, open_at, is_free}
use Rattle.table.specs.{EntryNames.{named_at, free_named}, Model.{model_of}}
use Rattle.table.specs.{Link.OpensModel.{Unique}}

abbrev pub fresh_desk : Desk
fresh_desk = record { applied = replicate places 0; clock = clock_of (replicate places 0) }

unfoldable pub fresh_table : ℕ → ℕ → Table
fresh_table n m = record {
  core = record { n = n; m = m; desks = replicate places fresh_desk };
  cells = replicate all_cells unset_cell;
  opens = replicate entries free_open;
}

unfoldable pub begin_table : ℕ → ℕ → Option Table
begin_table n m = pick (steps.begins n m) (Some (fresh_table n m)) None

-- the document's number and values for each case
abbrev pub begun_of : Option Table → steps.Begun
begun_of (Some t) = record { answer = began; table = some (model_of t) }
begun_of None = record { answer = refused no_size; table = none }

pub record Begins (n m : ℕ) (r : Option Table) : Type 0 where
  pub is : r ≡ begin_table n m
  pub means : begun_of r ≡ steps.begin n m
  pub unique : IfSome r (λ t. Unique t.opens)

-- what g reads of a list of one value, and past its end: b, if it reads that of the value and where nothing is
pub same-at : {A B : Type 0} (g : A → B) (a d : A) (b : B) → g a ≡ b → g d ≡ b → (n k : ℕ) → g (get_or (replicate n a) k d) ≡ b
same-at g a d b p q zero k = q
same-at g a d b p q (suc n) zero = p
same-at g a d b p q (suc n) (suc k) = same-at g a d b p q n k

-- a list of zeros reads 0 everywhere
pub zeros-at : (n k : ℕ) → get_or {A = ℕ} (replicate n 0) k 0 ≡ 0
zeros-at = same-at (λ (x : ℕ). x) 0 0 0 refl refl

pub place-zeros : (n : ℕ) → place (replicate n 0) ≡ machine.zeros
place-zeros n = fun_ext (λ t. zeros-at (suc n) t)

pub free_zeros : (n e : ℕ) → is_free (open_at (replicate n free_open) e) ≡ true
free_zeros = same-at is_free free_open open0 true refl refl

pub unique-zeros : (n : ℕ) → Unique (replicate n free_open)
unique-zeros n e j he hj ne u k t s = apart (named_at (replicate n free_open) u k e) t (free_named (open_at (replicate n free_open) e) u k (free_zeros n e))
