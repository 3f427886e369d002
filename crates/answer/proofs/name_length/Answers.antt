use Rattle.std.proofs.Common.{rules}
use Rattle.laws.specs.Kit.{arith}
use Rattle.answer.specs.Link.NameLengths.{name-length}
use Rattle.answer.proofs.name_length.Goals as goal

pub returns : goal.returns
returns c = let a = c.args in (omega (arith, name-length a.w.writer a.w.number), search rules)
