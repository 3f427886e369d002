use Rattle.std.proofs.Common.{rules}
use Rattle.laws.specs.Kit.{get_or}
use Rattle.table.specs.Value.{desk0}
use Rattle.rules.specs.Mirror.Parts.{used_desk, used_desks}
use Rattle.laws.specs.Chains.{all_below}
use Rattle.rules.proofs.Lent.used_desks_ok.Goals as goal

pub returns : goal.returns
unfolding used_desks
returns c = let g = c.args.self.now in all_below (λ k. (used_desk g.core.now.n g.core.now.m g.own g.gap g.cells.now g.opens.now k (get_or g.core.now.desks k desk0)).passes) c.all.ensures.ran (λ k b q l h. search rules)
