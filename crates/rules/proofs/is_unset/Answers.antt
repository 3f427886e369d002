use Rattle.std.proofs.Common.{rules}
use Rattle.std.specs.Prelude.{◌≡◌, ◌&&◌}
use Rattle.std.specs.Cmp.Lexicographic.{pointwise}
use Rattle.laws.specs.Kit.{Bool, eqb, ap, ◌∙◌, refl}
use Rattle.rules.specs.Mirror.Test.{noughts}
use Rattle.rules.proofs.Chains.{nought_of_eq}
use Rattle.rules.proofs.is_unset.Goals as goal

pub returns : goal.returns
returns c = let x = c.args.c in
    let e : c.eq.result ≡ (eqb x.writer 0 && (eqb x.status 0 && pointwise eqb x.vector noughts)) = search rules in
    e ∙ ap (λ (b : Bool). eqb x.writer 0 && (eqb x.status 0 && b)) (nought_of_eq x.vector (pointwise eqb x.vector noughts) (search rules) refl)
