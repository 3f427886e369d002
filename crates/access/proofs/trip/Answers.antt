use Rattle.std.proofs.Common.{rules}
use Rattle.laws.specs.Kit.{refl}
use Rattle.machine.specs.Steps.{Trip}
use Rattle.access.specs.Acted.{met_looked, part_of_look}
use Rattle.access.proofs.trip.Goals as goal

pub acted-answer-requires : goal.acted-answer-requires
acted-answer-requires c d p z a b n ez ea eb en = search (rules, part_of_look)

pub returns : goal.returns
returns c = met_looked c.acted-answer.ensures (Trip c.args.i c.args.list.now) refl (λ d made left cs os names y. let h = y.met in search rules)
