use Rattle.image.specs.Mirror.Filled.{PutAll}
use Rattle.image.proofs.records_block.Given as goal

abbrev pub invariant-loop-j : goal.invariant-loop-j
invariant-loop-j g l = PutAll g.F.Fn l.put l.w l.j l.initial.b l.b
