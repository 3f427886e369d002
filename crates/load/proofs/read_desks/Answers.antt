use Rattle.std.proofs.Common.{rules}
use Rattle.laws.specs.Chains.{tab_of_from_fn}
use Rattle.load.specs.Mirror.ImageRead.{desk_for}
use Rattle.table.specs.Value.{desk0}
use Rattle.load.proofs.read_desks.Goals as goal

pub returns : goal.returns
returns c = let A = c.args in tab_of_from_fn desk0 (desk_for A.p A.b.now A.n) c.from_fn.ensures.items (λ i y q l h. search rules)
