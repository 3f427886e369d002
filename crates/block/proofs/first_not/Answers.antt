use Rattle.std.proofs.Common.{rules}
use Rattle.block.specs.{Damage.{Right}, Stands.{Stands}, Mirror.BlockTests.{first_passes}}
use Rattle.block.proofs.first_not.Goals as goal

pub returns-in-Check : goal.returns-in-Check
returns-in-Check c = rw c.in-Check.is (first_passes (λ k l. Right l) c.first_failing.ensures (λ j r x l e h. search rules))

pub returns-in-Place : goal.returns-in-Place
returns-in-Place c = rw c.in-Place.is (first_passes Stands c.first_failing-in-Place.ensures (λ j r x l e h. search rules))
