use Rattle.block.specs.Limits.{narrow, places_for}
use Rattle.laws.specs.Kit.{arith, le-leb, lt-leb}
use Rattle.block.proofs.places_for.Goals as goal

pub returns-then-n-le-NARROW : goal.returns-then-n-le-NARROW
unfolding places_for
returns-then-n-le-NARROW c = (rw (le-leb c.args.n narrow (omega (arith, c.if-n-le-NARROW.true))), omega arith)

pub returns-else-n-le-NARROW : goal.returns-else-n-le-NARROW
unfolding places_for
returns-else-n-le-NARROW c = (rw (lt-leb c.args.n narrow (omega (arith, c.if-n-le-NARROW.false))), omega arith)
