-- The test says that a table value keeps the rules, and no more.
use Rattle.laws.specs.Says.{Says, says_as}
use Rattle.table.specs.{declared.Table.{Table}, TypeShape.{EachFull}, Sound.{SoundTable}}
use Rattle.rules.specs.{Mirror.Test.{keeps_test}, Link.PassesToRules.{Fit, to-sound}, Link.RulesToPasses.{from-sound}}

pub keeps-says : (t : Table) → EachFull t → Fit t.core.desks → Says (keeps_test t).passes (SoundTable t)
keeps-says t sh fit = says_as (keeps_test t).passes (keeps_test t).says (to-sound t sh fit) (from-sound t sh.desks)
