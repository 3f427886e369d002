use Rattle.clock.specs.Vectors.{place}
use Rattle.block.specs.{Limits.{wide, payload_at, edition_of}, Mirror.Block.{behind, made}}
use Rattle.image.specs.{Encode.{bytes_of_desk}, Fields.{length-desk}}
use Rattle.laws.specs.Kit.{◌∙◌, arith}
use Rattle.image.proofs.desk_block.Goals as goal

pub returns : goal.returns
unfolding bytes_of_desk
returns c =
    let A = c.args in
    let p = c.requires.0 in
    let h = c.put_head in
    made (edition_of A.p) 2 A.k _ (omega (arith, length-desk A.p A.k (place A.d.applied) (place A.d.clock.at), (wide A.p p).desk)) h.ensures
    (c.put_words.ensures ∙ rw (c.cell_bytes.ensures, c.put_record.ensures) (behind A.p h.new.b payload_at A.k 0 0 (place A.d.applied) _)) c.seal.ensures
