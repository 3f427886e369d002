use Rattle.std.proofs.Common.{rules}
use Rattle.laws.specs.Kit.{eq-eqb}
use Rattle.rules.proofs.Chains.{nought_of_eq}
use Rattle.rules.proofs.blank_ok.Goals as goal

pub returns-then-c-eq0 : goal.returns-then-c-eq0
returns-then-c-eq0 c = rw (eq-eqb _ _ c.if-c-eq0.true) (nought_of_eq c.args.c.vector c.eq.result (search rules) c.eq.ensures)
