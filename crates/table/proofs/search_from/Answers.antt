use Rattle.std.proofs.Common.{rules}
use Rattle.table.specs.EntryNames.{seen_all}
use Rattle.table.proofs.search_from.Goals as goal

pub returns : goal.returns
returns g c = seen_all c.loop-j.invariant (search rules)
