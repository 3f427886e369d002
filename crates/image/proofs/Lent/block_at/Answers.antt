use Rattle.image.specs.Link.SavedIsImage.{sizes-at, desk-at, cells_at, opens-at-place}
use Rattle.image.proofs.Lent.block_at.Goals as goal

pub returns-then-k-eq0 : goal.returns-then-k-eq0
returns-then-k-eq0 c = sizes-at c.requires.0 _ c.if-k-eq0.true c.size_block.ensures

pub returns-then-k-n : goal.returns-then-k-n
returns-then-k-n c = desk-at c.requires.0 _ c.if-k-eq0.false c.if-k-n.true c.desk_block.ensures

pub returns-then-k-plan : goal.returns-then-k-plan
returns-then-k-plan c = cells_at c.requires.0 _ c.if-k-n.false c.if-k-plan.true c.cell_block.ensures

pub returns : goal.returns
returns c = opens-at-place c.requires.0 _ c.if-k-n.false c.if-k-plan.false c.open_block.ensures
