use Rattle.laws.specs.Kit.{sym, ◌∙◌}
use Rattle.table.proofs.Beginning.{begins-yes, begins-no}
use Rattle.table.proofs.begin.Goals as goal

pub returns-then-begins : goal.returns-then-begins
returns-then-begins c = let g = c.args in
    rw c.fresh.ensures (begins-yes g.n g.m (sym c.begins.ensures ∙ c.if-begins.true))

pub returns-else-begins : goal.returns-else-begins
returns-else-begins c = let g = c.args in
    begins-no g.n g.m (sym c.begins.ensures ∙ c.if-begins.false)
