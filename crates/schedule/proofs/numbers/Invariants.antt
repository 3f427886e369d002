use Rattle.schedule.proofs.ReadTo.{ReadTo}
use Rattle.schedule.proofs.numbers.Given as goal

abbrev pub invariant-loop-t : goal.invariant-loop-t
invariant-loop-t g l = ReadTo l.s l.numbers l.t-end l.t l.at
