-- The session that an image starts with, and the call from it.
use Rattle.std.specs.Prelude.{◌≡◌, ◌∷◌, Result, Ok, Err}
use Rattle.laws.specs.Kit.{refl, ap, ◌∙◌, List, [], none, some, ℕ, arith, length}
use Rattle.machine.specs.Answer.{Refusal, number_of}
use Rattle.table.specs.{declared.Cell.{Cell}, declared.Open.{Open}}
use Rattle.table.specs.{declared.Core.{Core}, declared.Table.{Table}, Beginning.{fresh_table}, Model.{model_of, table_with}}
use Rattle.image.specs.Load.{load}
use Rattle.image.proofs.Load.{one-load, load_loads}
use Rattle.load.specs.{declared.Fault.{Fault}, Loading.{loaded_of, Answers, AnswersInto, answers_loads}}
use Rattle.capi.specs.Access.{left, Start, refuse, begin, started, start_of, run_from, run_started, access_run}
use Rattle.capi.specs.Mirror.AccessParts.{SomeStart, ImageStarts}

-- "empty: no table yet"
start_empty : (saved : List ℕ) → length saved ≡ 0 → start_of saved ≡ begin none
unfolding start_of
start_empty [] e = refl
start_empty (b ∷ l) e = absurd (omega arith)

pub start-load : (saved : List ℕ) → (length saved ≡ 0 → ⊥) → start_of saved ≡ started (load saved)
unfolding start_of
start-load [] f = absurd (f refl)
start-load (b ∷ l) f = refl

pub empty_starts : (saved : List ℕ) (t : Table) → length saved ≡ 0 → t ≡ fresh_table 0 0 → SomeStart saved t
unfolding fresh_table
empty_starts saved t h e = rw e (record { session = none; starts = start_empty saved h; holds = refl })

pub image-starts : (saved : List ℕ) (r : Result Core Fault) (cells : List Cell) (opens : List Open) → (length saved ≡ 0 → ⊥) → AnswersInto saved r cells opens → ImageStarts saved r cells opens
image-starts saved r cells opens f h = go r h
  where
    told : (o : Result Table Fault) → Answers saved o → start_of saved ≡ started (loaded_of o)
    told o k = start-load saved f ∙ ap started (one-load saved (load saved) (loaded_of o) (load_loads saved) (answers_loads saved o k))

    go : (r : Result Core Fault) → AnswersInto saved r cells opens → ImageStarts saved r cells opens
    go (Ok core) h =
        let t = table_with core cells opens in
        record { session = some (model_of t); starts = told (Ok t) h; holds = record { model_is = refl; sound = h.0 } }
    go (Err e) h = told (Err e) h.0

pub start_by : (saved : List ℕ) (r : Result Core Fault) (cells : List Cell) (opens : List Open) → ImageStarts saved r cells opens → (x : Result Core Fault) → r ≡ x → ImageStarts saved x cells opens
start_by saved r cells opens h x e = rw e at h

-- the call from it
module _ (saved text answers image lengths : List ℕ) where
  called : (s : Start) → start_of saved ≡ s → run_started s text answers image lengths ≡ access_run saved text answers image lengths
  unfolding access_run
  called s e = rw e

  pub call-refused : (r : Refusal) → start_of saved ≡ refuse r → left (number_of r) answers image lengths ≡ access_run saved text answers image lengths
  call-refused r = called (refuse r)

  pub call-begun : {t : Table} (s : SomeStart saved t) → run_from s.session text answers image lengths ≡ access_run saved text answers image lengths
  call-begun s = called (begin s.session) s.starts
