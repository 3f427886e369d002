use Rattle.laws.specs.Kit.{eq-eqb, ne_eqb}
use Rattle.steps.specs.Mirror.Look.{shown_cell}
use Rattle.steps.proofs.look.shown.Goals as goal

pub returns-then-c-eq0 : goal.returns-then-c-eq0
unfolding shown_cell
returns-then-c-eq0 c = rw (eq-eqb _ _ c.if-c-eq0.true)

pub returns : goal.returns
unfolding shown_cell
returns c = rw (ne_eqb _ _ c.if-c-eq0.false, c.at_place.ensures, c.from.ensures)
