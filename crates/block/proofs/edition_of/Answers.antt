use Rattle.block.specs.Limits.{narrow, edition_of}
use Rattle.laws.specs.Kit.{arith, le-leb, lt-leb}
use Rattle.block.proofs.edition_of.Goals as goal

pub returns-then-p-le-NARROW : goal.returns-then-p-le-NARROW
unfolding edition_of
returns-then-p-le-NARROW c = rw (le-leb c.args.p narrow (omega (arith, c.if-p-le-NARROW.true)))

pub returns-else-p-le-NARROW : goal.returns-else-p-le-NARROW
unfolding edition_of
returns-else-p-le-NARROW c = rw (lt-leb c.args.p narrow (omega (arith, c.if-p-le-NARROW.false)))
