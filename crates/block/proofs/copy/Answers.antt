use Rattle.laws.specs.Stores.{put_mid-sets}
use Rattle.std.specs.Prelude.{◌+◌, ◌-◌, ◌≡◌}
use Rattle.laws.specs.Kit.{arith, ap, ◌∙◌, length, take, sets, length-take-le}
use Rattle.block.proofs.copy.Goals as goal

pub returns : goal.returns
returns c =
    let A = c.args in
    let w = c.copy_from_slice in
    let e : w.new.self ≡ take A.len A.part.now = w.ensures.after in
    put_mid-sets A.at (A.at + A.len - A.at) A.out.now (take A.len A.part.now) _ e (omega (arith, length-take-le A.len A.part.now c.requires.0)) (omega (arith, length-take-le A.len A.part.now c.requires.0))
