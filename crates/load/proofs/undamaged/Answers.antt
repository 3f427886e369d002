use Rattle.load.specs.Loading.{all_right}
use Rattle.load.proofs.undamaged.Goals as goal

pub returns-then-wrong-b : goal.returns-then-wrong-b
returns-then-wrong-b c = (c.whole_blocks.ensures.to c.if-not-whole_blocks.false, c.if-wrong-b.true, c.first_not-wrong.ensures)

pub returns : goal.returns
returns c = all_right _ c.first_not-wrong.result (c.whole_blocks.ensures.to c.if-not-whole_blocks.false) c.if-wrong-b.false c.first_not-wrong.ensures
