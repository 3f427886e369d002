use Rattle.load.specs.Mirror.ImageRead.{desk_for}
use Rattle.laws.specs.Kit.{lt-ltb, le-ltb}
use Rattle.load.proofs.desk_or.Goals as goal

pub returns-then-i-n : goal.returns-then-i-n
unfolding desk_for
returns-then-i-n c = rw (lt-ltb _ _ c.if-i-n.true) c.read_desk.ensures

pub returns : goal.returns
unfolding desk_for
returns c = rw (le-ltb _ _ c.if-i-n.false)
