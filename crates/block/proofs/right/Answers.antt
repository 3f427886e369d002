use Rattle.block.specs.Damage.{check_in}
use Rattle.std.specs.Prelude.{◌≡◌}
use Rattle.laws.specs.{Says.{says-eqb}, Kit.{arith}}
use Rattle.block.proofs.right.Goals as goal

pub returns : goal.returns
unfolding check_in
returns c = let e : c.from_le_bytes.result ≡ check_in c.args.b.now = omega (arith, c.from_le_bytes.ensures) in rw (e, c.check.ensures) (says-eqb _ _)
