-- A table value that a schedule goes on from: it keeps the rules, or is the zeros of no table.
use mathlib.Core.{Path.{refl}, List.{List}, Option.{some}}
use Rattle.std.specs.Prelude.{ℕ, Ok}
use Rattle.table.specs.{declared.Table.{Table}, Beginning.{fresh_table}, Model.{model_of}}
use Rattle.session.specs.Holds.{SomeSession, zero-holds}
use Rattle.load.specs.Loading.{Answers}
use Rattle.image_reload.specs.declared.Two.{Two}

abbrev pub Live : Table → Type 0
Live t = SomeSession t

abbrev pub BothLive : Two → Type 0
BothLive t = Live t.kept × Live t.reloaded

pub live_none : Live (fresh_table 0 0)
unfolding fresh_table
live_none = zero-holds

pub live_loaded : (b : List ℕ) (t : Table) → Answers b (Ok t) → Live t
live_loaded b t a = record { session = some (model_of t); holds = record { model_is = refl; sound = a.0 } }
