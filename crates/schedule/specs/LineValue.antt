-- The code's value for what a line says, and the cells that stand beside it.
use Rattle.std.specs.Prelude.{◌≡◌, ◌∷◌, Some, None}
use Rattle.std.specs.Prelude as std
use Rattle.laws.specs.Kit.{refl, ap, ◌∙◌, List, [], Option, none, some, ℕ, length, sets}
use Rattle.machine.specs.Steps.{Read as reading, Write as writing, Deliver as delivering, Trip as travelling}
use Rattle.schedule.specs.{Grammar.{Line as Said, begin_line, step_line}, declared.Line.{Line}, declared.Line.TheVariants.{New}}
use Rattle.schedule.specs.declared.Line.TheVariants.{Read, Write, Deliver, Trip}

abbrev pub line_value : Option Said → std.Option Line
line_value none = None
line_value (some (begin_line n m)) = Some (New n m)
line_value (some (step_line (reading i x))) = Some (Read i x)
line_value (some (step_line (writing i x v))) = Some (Write i x v)
line_value (some (step_line (delivering i u k))) = Some (Deliver i u k)
line_value (some (step_line (travelling i xs))) = Some (Trip i (length xs))

abbrev pub trip_cells : Option Said → List ℕ
trip_cells none = []
trip_cells (some (begin_line n m)) = []
trip_cells (some (step_line (reading i x))) = []
trip_cells (some (step_line (writing i x v))) = []
trip_cells (some (step_line (delivering i u k))) = []
trip_cells (some (step_line (travelling i xs))) = xs

-- so many cells at most does a line list
abbrev pub most_listed : ℕ
most_listed = 62

-- all its numbers, in the order of the text
abbrev pub numbers_of : Option Said → List ℕ
numbers_of none = []
numbers_of (some (begin_line n m)) = n ∷ m ∷ []
numbers_of (some (step_line (reading i x))) = i ∷ x ∷ []
numbers_of (some (step_line (writing i x v))) = i ∷ x ∷ v ∷ []
numbers_of (some (step_line (delivering i u k))) = i ∷ u ∷ k ∷ []
numbers_of (some (step_line (travelling i xs))) = i ∷ xs

-- by the cases of the value, with the cells beside it: what the line says
abbrev pub line_back : std.Option Line → List ℕ → Option Said
line_back None xs = none
line_back (Some (New n m)) xs = some (begin_line n m)
line_back (Some (Read i x)) xs = some (step_line (reading i x))
line_back (Some (Write i x v)) xs = some (step_line (writing i x v))
line_back (Some (Deliver i u k)) xs = some (step_line (delivering i u k))
line_back (Some (Trip i n)) xs = some (step_line (travelling i xs))

pub line-back : (o : Option Said) → line_back (line_value o) (trip_cells o) ≡ o
line-back none = refl
line-back (some (begin_line n m)) = refl
line-back (some (step_line (reading i x))) = refl
line-back (some (step_line (writing i x v))) = refl
line-back (some (step_line (delivering i u k))) = refl
line-back (some (step_line (travelling i xs))) = refl

-- how many cells stand beside the value
abbrev pub cell_count : std.Option Line → ℕ
cell_count (Some (New n m)) = 0
cell_count (Some (Read i x)) = 0
cell_count (Some (Write i x v)) = 0
cell_count (Some (Deliver i u k)) = 0
cell_count (Some (Trip i n)) = n
cell_count None = 0

pub count_is : (o : Option Said) → cell_count (line_value o) ≡ length (trip_cells o)
count_is none = refl
count_is (some (begin_line n m)) = refl
count_is (some (step_line (reading i x))) = refl
count_is (some (step_line (writing i x v))) = refl
count_is (some (step_line (delivering i u k))) = refl
count_is (some (step_line (travelling i xs))) = refl

-- the value r says o, the cells of a trip stand in the array from its start on, and the rest of the array is as it was
pub record SaidBy (o : Option Said) (r : std.Option Line) (before after : List ℕ) : Type 0 where
  pub is : line_back r (trip_cells o) ≡ o
  pub count : cell_count r ≡ length (trip_cells o)
  pub stored : after ≡ sets before 0 (trip_cells o)

pub said_by_value : {o : Option Said} {before after : List ℕ} {r : std.Option Line} → (r ≡ line_value o) × (after ≡ sets before 0 (trip_cells o)) → SaidBy o r before after
said_by_value {o} e = record { is = rw e.0 (line-back o); count = rw e.0 (count_is o); stored = e.1 }

-- so there is one such value
pub value-said : {o : Option Said} {before after : List ℕ} {r : std.Option Line} → SaidBy o r before after → r ≡ line_value o
value-said {o} {r = r} s = go r s.is s.count
  where
    go : (r : std.Option Line) → line_back r (trip_cells o) ≡ o → cell_count r ≡ length (trip_cells o) → r ≡ line_value o
    go None e c = ap line_value e
    go (Some (New n m)) e c = ap line_value e
    go (Some (Read i x)) e c = ap line_value e
    go (Some (Write i x v)) e c = ap line_value e
    go (Some (Deliver i u k)) e c = ap line_value e
    go (Some (Trip i n)) e c = ap (λ (k : ℕ). Some (Trip i k)) c ∙ ap line_value e
