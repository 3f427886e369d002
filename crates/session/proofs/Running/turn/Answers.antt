use Rattle.laws.specs.Kit.{sym, ap, ◌∙◌}
use Rattle.rules.specs.Mirror.Test.{owns}
use Rattle.session.specs.Link.LineTurn.{turned_first, first-desks}
use Rattle.session.proofs.Running.turn.Goals as goal

pub returns-then-self-eq0 : goal.returns-then-self-eq0
returns-then-self-eq0 c =
    let g = c.args in
    rw (c.said.ensures, c.first.ensures.core, c.first.ensures.answer)
    (record { counted = c.requires.1.counted ∙ ap owns (sym (first-desks g.self.now.core g.s)); turned = λ z h. turned_first _ g.s g.list.now g.names.now z c.if-self-eq0.true h })

pub returns-else-self-eq0 : goal.returns-else-self-eq0
returns-else-self-eq0 c = rw c.said-else-self-eq0.ensures c.next.ensures
