use Rattle.table.specs.Model.{table_with}
use Rattle.laws.specs.Kit.{◌∙◌}
use Rattle.capi.specs.Link.SessionImage.{image-long}
use Rattle.capi.proofs.image_size.Goals as goal

pub returns-else-core-eq0 : goal.returns-else-core-eq0
returns-else-core-eq0 c z cs os h =
    let k = c.args.core in
    c.image_length.ensures ∙ image-long (table_with k cs os) c.if-core-eq0.false z h
