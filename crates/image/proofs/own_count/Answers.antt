use Rattle.std.proofs.Common.{rules}
use Rattle.table.specs.Model.{applied_m}
use Rattle.image.proofs.own_count.Goals as goal

pub returns : goal.returns
unfolding applied_m
returns c = search rules
