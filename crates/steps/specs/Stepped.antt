-- What a step on a desk and the two lent arrays must do: the machine's step.
use Rattle.std.specs.Prelude.{◌≡◌, ◌-◌}
use Rattle.reply.specs.{declared.Name.{Name}, Unique.{name_for}}
use Rattle.laws.specs.{Kit.{List, [], map, ℕ, get_or, set, set-get_or}, Loop.{pick, cases}}
use Rattle.clock.specs.Vectors.{places, place}
use Rattle.machine.specs.Answer as machine
use Rattle.machine.specs.{Steps.{Step, within, step}, Rules.{In}, Within.{says-within}}
use Rattle.table.specs.{declared.Cell.{Cell}, declared.Core.{Core}, declared.Desk.{Desk}, declared.Open.{Open}, declared.Table.{Table}}
use Rattle.table.specs.{Value.{desk0, CellsShape, OpensShape}, TypeShape.{DesksShape}, Model.{applied_m, model_of, table_of}, Sound.{SoundTable}}

-- d is desk i of a table that keeps the rules (any desk where i is none), and own holds each desk's own count
pub record Placed (t : Table) (own : List ℕ) (i : ℕ) (d : Desk) : Type 0 where
  pub sound : SoundTable t
  pub shape : DesksShape t.core.desks
  pub cells_shape : CellsShape t.cells
  pub opens_shape : OpensShape t.opens
  pub desk : In t.core.n i → get_or t.core.desks (i - 1) desk0 ≡ d
  pub own_counts : (u : ℕ) → In places u → place own u ≡ applied_m t.core.desks u u

-- the desk stored back, where i is a desk
abbrev pub put_desk : ℕ → List Desk → ℕ → Desk → List Desk
put_desk n ds i d = pick (within n i) (set ds (i - 1) d) ds

-- the table with the desk stored back, and the arrays as they are left
abbrev pub table_after : Core → ℕ → Desk → List Cell → List Open → Table
table_after c i d cs os = table_of c.n c.m (put_desk c.n c.desks i d) cs os

-- the desk as it came
pub put_back : (n : ℕ) (ds : List Desk) (i : ℕ) (d : Desk) → (In n i → get_or ds (i - 1) desk0 ≡ d) → put_desk n ds i d ≡ ds
put_back n ds i d e =
    cases (within n i)
    (λ a. rw (a, ← e ((says-within n i).to a)) (set-get_or ds (i - 1) desk0))
    (λ a. rw a)

-- the answer's names, as they stand in the array beside it
abbrev pub names_beside : machine.Answer → List Name
names_beside machine.began = []
names_beside (machine.shows v) = []
names_beside (machine.wrote w) = []
names_beside (machine.holds w) = []
names_beside (machine.applies l) = map name_for l
names_beside (machine.judged v) = []
names_beside (machine.refused r) = []

-- the step a: what it answers, the table after it, and that a refusal leaves all as it came
pub record Stepped (t : Table) (i : ℕ) (d : Desk) (a : Step) (d' : Desk) (cs' : List Cell) (os' : List Open) (answer : machine.Answer) : Type 0 where
  pub answer_is : answer ≡ (step (model_of t) a).answer
  pub state_is : model_of (table_after t.core i d' cs' os') ≡ (step (model_of t) a).state
  pub sound : SoundTable (table_after t.core i d' cs' os')
  pub refused_desk : (r : machine.Refusal) → answer ≡ machine.refused r → d' ≡ d
  pub refused_cells : (r : machine.Refusal) → answer ≡ machine.refused r → cs' ≡ t.cells
  pub refused_opens : (r : machine.Refusal) → answer ≡ machine.refused r → os' ≡ t.opens
