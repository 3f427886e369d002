use Rattle.std.proofs.Common.{rules}
use Rattle.laws.specs.Kit.{le-ltb}
use Rattle.rules.proofs.Chains.{nought_of_eq}
use Rattle.rules.proofs.Lent.live_ok.Goals as goal

pub returns-else-i-self : goal.returns-else-i-self
returns-else-i-self c = rw (le-ltb _ _ c.if-i-self.false) (nought_of_eq c.args.a c.eq.result (search rules) c.eq.ensures)
