-- What read and trip make, as values, and what they ask.
use Rattle.std.specs.Prelude.{Err}
use Rattle.laws.specs.{Kit.{ℕ, List, [], eqb}, Loop.{pick}}
use Rattle.clock.specs.{declared.Clock.{Clock}, Vectors.{place, join_clock}}
use Rattle.table.specs.{declared.Cell.{Cell}, declared.Desk.{Desk}, declared.Open.{Open}, Model.{table_of}}
use Rattle.reply.specs.{declared.Answer.{Answer}, declared.Answer.TheVariants.{Unset, Shown}, declared.Refusal.{Refusal}}
use Rattle.reply.specs.Meaning.{answer_of}
use Rattle.steps.specs.{Turn.{Turn, turned}, Stepped.{Placed, Stepped}}
use Rattle.machine.specs.Steps.{Step}

abbrev pub refused_turn : Desk → Refusal → Turn
refused_turn d r = turned d (Err r)

-- the desk with another clock
abbrev pub with_desk_clock : Desk → Clock → Desk
with_desk_clock d k = record { applied = d.applied; clock = k }

abbrev pub clock_turn : Desk → Clock → Answer → Turn
clock_turn d k a = record { desk = with_desk_clock d k; answer = a }

unfoldable pub shown_cell : Cell → Answer
shown_cell c = pick (eqb c.writer 0) Unset (Shown c.status record { writer = c.writer; number = place c.vector c.writer })

abbrev pub look_turn : Desk → Cell → Turn
look_turn d c = clock_turn d (join_clock d.clock c.vector) (shown_cell c)

-- there is a table of which d and the cells are a part
pub record SomeLook (n m : ℕ) (cs : List Cell) (i : ℕ) (d : Desk) : Type 0 where
  pub desks : List Desk
  pub opens : List Open
  pub own : List ℕ
  pub placed : Placed (table_of n m desks cs opens) own i d

-- the turn is the step a, whatever the rest of the table: the cells and the open writes stay
abbrev pub Looks : ℕ → ℕ → List Cell → ℕ → Desk → Step → Turn → Type 0
Looks n m cs i d a r = (ds : List Desk) (os : List Open) (own : List ℕ) → Placed (table_of n m ds cs os) own i d → Stepped (table_of n m ds cs os) i d a r.desk cs os (answer_of r.answer [])
