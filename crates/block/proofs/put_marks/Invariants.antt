use Rattle.std.specs.Prelude.{◌≡◌}
use Rattle.laws.specs.{Tab.{tab}, Kit.{sets, get_or}}
use Rattle.block.proofs.put_marks.Given as goal

abbrev pub invariant-loop-t : goal.invariant-loop-t
invariant-loop-t l = l.b ≡ sets l.initial.b l.at (tab l.t (λ k. get_or l.v k 0))
