use Rattle.std.proofs.Common.{rules}
use Rattle.laws.specs.Kit.{refl}
use Rattle.machine.specs.Steps.{Write}
use Rattle.access.specs.Acted.{met_written, part_of_write}
use Rattle.access.proofs.write.Goals as goal

pub acted-answer-requires : goal.acted-answer-requires
acted-answer-requires c d p z a b n ez ea eb en = search (rules, part_of_write)

pub returns : goal.returns
returns c = met_written c.acted-answer.ensures (Write c.args.i c.args.x c.args.v) refl (λ d made left cs os names y. let h = y.met in search rules)
