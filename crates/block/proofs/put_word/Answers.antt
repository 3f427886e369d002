use Rattle.laws.specs.Stores.{put_mid-sets}
use Rattle.block.specs.Block.{word}
use Rattle.std.specs.Prelude.{◌+◌, ◌-◌, ◌≡◌, ◌/◌, ◌%◌}
use Rattle.laws.specs.Kit.{arith, ap, ◌∙◌, sets, length, mod-eq_of_lt}
use Rattle.block.proofs.put_word.Goals as goal

pub returns : goal.returns
returns c =
    let A = c.args in
    let w = c.copy_from_slice in
    let h : A.x / 256 % 256 ≡ A.x / 256 = mod-eq_of_lt (omega arith) in
    let e : w.new.self ≡ word A.x = w.ensures.after ∙ c.to_le_bytes.ensures ∙ rw h in
    put_mid-sets A.at (A.at + 2 - A.at) A.b.now (word A.x) _ e (omega arith) (omega arith)
