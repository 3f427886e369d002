use Rattle.std.proofs.Common.{rules}
use Rattle.laws.specs.Kit.{sym, ◌∙◌, ne_eqb}
use Rattle.table.specs.{Value.{open_at}, EntryNames.{other-writer, same_writer}}
use Rattle.table.proofs.holds.Goals as goal

pub returns-then-from-u : goal.returns-then-from-u
returns-then-from-u c = let g = c.args in
    sym (same_writer (open_at g.opens.now g.e) g.u g.k (search rules) (sym c.from.ensures ∙ c.if-from-u.true))

pub returns-else-from-u : goal.returns-else-from-u
returns-else-from-u c = let g = c.args in
    ne_eqb c.from.result g.u c.if-from-u.false
    ∙ sym (other-writer (open_at g.opens.now g.e) g.u g.k (λ q. c.if-from-u.false (c.from.ensures ∙ q)))
