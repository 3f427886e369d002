use Rattle.laws.specs.Kit.{refl, ◌∙◌}
use Rattle.rules.specs.{Link.CodeLaws.{and_is}, Link.PartsAreAll.{parts_are_all}}
use Rattle.rules.proofs.Lent.desks_ok.Goals as goal

pub returns : goal.returns
returns c = let g = c.args.self.now in
    and_is refl (and_is refl c.used_desks_ok.ensures c.past_unset.ensures) c.limits_ok.ensures
    ∙ parts_are_all g.core.now.n g.core.now.m g.own g.gap g.cells.now g.opens.now g.core.now.desks c.cells_shape.ensures
