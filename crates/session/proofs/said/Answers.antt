use Rattle.laws.specs.Kit.{arith}
use Rattle.schedule.specs.{Grammar.{line_of}, LineValue.{value-said}, LineFacts.{cells-there, few-cells}}
use Rattle.session.specs.Mirror.LineValue.{means}
use Rattle.session.proofs.said.Goals as goal

pub returns-then-ended : goal.returns-then-ended
returns-then-ended c =
    let g = c.args in
    let e = c.line_of.ensures in
    rw (c.if-ended.true, value-said e, e.stored)
    (means (line_of g.line.now) _ (cells-there g.line.now g.list.now (omega (arith, c.told-list))) (few-cells g.line.now))
