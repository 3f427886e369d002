use Rattle.laws.specs.Stores.{put_mid-sets}
use Rattle.block.specs.{Block.{long}, Check.{check_of}, Limits.{check_at}}
use Rattle.std.specs.Prelude.{◌≡◌, ◌/◌, ◌%◌}
use Rattle.laws.specs.Kit.{arith, ap, refl, ◌∙◌, mod-eq_of_lt}
use Rattle.block.proofs.seal.Goals as goal

pub returns : goal.returns
returns c =
    let b = c.args.b.now in
    let w = c.copy_from_slice in
    let x = c.check-c.result in
    let h : x / 16777216 % 256 ≡ x / 16777216 = mod-eq_of_lt (omega arith) in
    let e : w.new.self ≡ long x = w.ensures.after ∙ c.to_le_bytes.ensures ∙ rw h in
    put_mid-sets check_at 4 b (long (check_of b)) _ (e ∙ ap long c.check-c.ensures) refl (omega arith)
