-- What a write makes, as values, and what it asks.
use Rattle.std.specs.Prelude.{◌+◌, ◌-◌, ◌<◌, ◌≡◌, Option, Some, None, Result, Ok, Err}
use Rattle.laws.specs.Kit.{ℕ, List, [], true, false, set, replicate}
use Rattle.machine.specs.Steps.{Step}
use Rattle.clock.specs.Vectors.{places, place, raised, raise_clock}
use Rattle.table.specs.{declared.Cell.{Cell}, declared.Desk.{Desk}, declared.Open.{Open}, Value.{entries, put_cell, put_open}}
use Rattle.table.specs.{EntryNames.{free_at}, Model.{slot, table_of}}
use Rattle.reply.specs.{declared.Answer.TheVariants.{Wrote as WroteAnswer}, declared.Refusal.{Refusal}, declared.Refusal.TheVariants.{Full}}
use Rattle.reply.specs.Meaning.{answer_of}
use Rattle.steps.specs.Turn.{Turn}
use Rattle.steps.specs.Stepped.{Placed, Stepped}

-- where a new write goes: nowhere with one desk; else into a free entry, if there is one
abbrev pub Spotted : ℕ → List Open → Result (Option ℕ) Refusal → Type 0
Spotted n os (Ok (Some e)) = (n ≡ 1 → ⊥) × ((e < entries) × (free_at os e ≡ true))
Spotted n os (Ok None) = n ≡ 1
Spotted n os (Err r) = (r ≡ Full) × ((n ≡ 1 → ⊥) × ((e : ℕ) → e < entries → free_at os e ≡ false))

abbrev pub SpotIn : Option ℕ → Type 0
SpotIn (Some e) = e < entries
SpotIn None = Unit {0}

abbrev pub new_marks : ℕ → List ℕ
new_marks i = set (replicate places 0) (i - 1) 2

abbrev pub enter_at : List Open → Option ℕ → Open → List Open
enter_at os (Some e) o = put_open os e o
enter_at os None o = os

-- the write of desk i, by its desk before it
abbrev pub wrote_desk : Desk → ℕ → Desk
wrote_desk d i = record { applied = raised d.applied i; clock = raise_clock d.clock i }

abbrev pub wrote_cell : Desk → ℕ → ℕ → Cell
wrote_cell d i v = record { writer = i; status = v; vector = (raise_clock d.clock i).at }

abbrev pub wrote_open : Desk → ℕ → ℕ → ℕ → Open
wrote_open d i x v = record { writer = i; status = v; cell = x; vector = (raise_clock d.clock i).at; marks = new_marks i }

abbrev pub wrote_turn : Desk → ℕ → Turn
wrote_turn d i = record { desk = wrote_desk d i; answer = WroteAnswer record { writer = i; number = place d.applied i + 1 } }

pub record Wrote (d : Desk) (cs : List Cell) (os : List Open) (i x v : ℕ) (s : Option ℕ) (r : Turn) (cs' : List Cell) (os' : List Open) : Type 0 where
  pub turn : r ≡ wrote_turn d i
  pub cells : cs' ≡ put_cell cs (slot i x) (wrote_cell d i v)
  pub opens : os' ≡ enter_at os s (wrote_open d i x v)

-- there is a table of which these are a part
pub record SomeTable (n m : ℕ) (cs : List Cell) (os : List Open) (i : ℕ) (d : Desk) : Type 0 where
  pub desks : List Desk
  pub own : List ℕ
  pub placed : Placed (table_of n m desks cs os) own i d

-- the turn and the lists after it are the step a, whatever the other desks
abbrev pub Writes : ℕ → ℕ → List Cell → List Open → ℕ → Desk → Step → Turn → List Cell → List Open → Type 0
Writes n m cs os i d a r cs' os' = (ds : List Desk) (own : List ℕ) → Placed (table_of n m ds cs os) own i d → Stepped (table_of n m ds cs os) i d a r.desk cs' os' (answer_of r.answer [])

pub spot_in : (n : ℕ) (os : List Open) (s : Option ℕ) → Spotted n os (Ok s) → SpotIn s
spot_in n os (Some e) h = h.1.0
spot_in n os None h = tt
