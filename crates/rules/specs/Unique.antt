-- The test has one answer.
use Rattle.std.specs.Prelude.{◌≡◌}
use Rattle.laws.specs.{Kit.{Bool}, Says.{Says, says-one}}
use Rattle.table.specs.{declared.Table.{Table}, Sound.{SoundTable}}

pub one-keeps : {t : Table} (a b : Bool) → Says a (SoundTable t) → Says b (SoundTable t) → a ≡ b
one-keeps a b = says-one a b
