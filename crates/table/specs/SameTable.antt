-- "Open writes count as a set: which entry holds one makes no difference to two tables being the same."
use Rattle.std.specs.Prelude.{◌≡◌}
use Rattle.table.specs.{declared.Table.{Table}, Model.{model_of}}

-- two tables are the same exactly if their models are equal
abbrev pub Same : Table → Table → Type 0
Same a b = model_of a ≡ model_of b
