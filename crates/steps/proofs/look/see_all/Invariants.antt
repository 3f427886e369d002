use Rattle.std.specs.Prelude.{◌≡◌}
use Rattle.laws.specs.Kit.{drop}
use Rattle.steps.specs.Mirror.Trip.{see_all}
use Rattle.steps.proofs.look.see_all.Given as goal

abbrev pub invariant-loop-x : goal.invariant-loop-x
invariant-loop-x l = see_all l.cells l.i l.s (drop l.x-index l.list) ≡ see_all l.cells l.i l.initial.s l.list
