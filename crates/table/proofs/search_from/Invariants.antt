use Rattle.laws.specs.Kit.{false}
use Rattle.table.specs.EntryNames.{Seen}
use Rattle.table.proofs.search_from.Given as goal

abbrev pub invariant-loop-j : goal.invariant-loop-j
invariant-loop-j g l = Seen (λ e. goal.F-post g l.passes e false) l.first l.j
