use Rattle.table.specs.Beginning.{fresh_table}
use Rattle.session.proofs.start.Goals as goal

pub returns : goal.returns
unfolding fresh_table
returns c = c.fresh_core.ensures
