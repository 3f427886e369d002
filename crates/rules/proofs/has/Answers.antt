use Rattle.laws.specs.Kit.{◌∙◌}
use Rattle.rules.specs.Link.CodeLaws.{has_is}
use Rattle.rules.proofs.has.Goals as goal

pub returns : goal.returns
returns c = let g = c.args in c.is_some.ensures ∙ has_is g.opens.now g.u g.k c.find.result c.find.ensures
