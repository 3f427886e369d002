use Rattle.image.specs.Mirror.EntryOrder.{Listed}
use Rattle.image.proofs.order_of.Given as goal

abbrev pub invariant-loop-k : goal.invariant-loop-k
invariant-loop-k l = Listed l.opens l.u l.lo l.k l.p l.initial.order l.order l.at
