use Rattle.block.specs.{Mirror.Block.{made}, Limits.{payload_at, edition_of}}
use Rattle.std.specs.Prelude.{◌∷◌}
use Rattle.laws.specs.Kit.{[], sets, arith, refl}
use Rattle.image.proofs.size_block.Goals as goal

pub returns : goal.returns
returns c =
    let A = c.args in
    let h = c.put_head in
    made (edition_of A.p) 1 0 (A.n ∷ A.m ∷ A.count ∷ []) {b1 = sets h.new.b payload_at (A.n ∷ A.m ∷ A.count ∷ [])} (omega arith) h.ensures refl c.seal.ensures
