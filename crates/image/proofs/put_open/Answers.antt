use Rattle.block.specs.Mirror.Block.{behind}
use Rattle.image.specs.Mirror.RawBytes.{open_raw}
use Rattle.laws.specs.Kit.{◌∙◌}
use Rattle.image.proofs.put_open.Goals as goal

pub returns : goal.returns
unfolding open_raw
returns c =
    let r = c.put_record in
    let A = c.args in
    c.put_marks.ensures ∙ rw (c.cell_bytes.ensures, r.ensures) (behind A.p A.b.now A.at A.o.writer A.o.status A.o.cell _ _)
