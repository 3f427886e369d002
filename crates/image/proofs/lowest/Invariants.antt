use Rattle.image.specs.{Link.OrderFromCounts.{least}}
use Rattle.table.specs.Model.{applied_m}
use Rattle.std.specs.Prelude.{◌≡◌}
use Rattle.laws.specs.Kit.{suc}
use Rattle.image.proofs.lowest.Given as goal

abbrev pub invariant-loop-i : goal.invariant-loop-i
invariant-loop-i l = l.r ≡ least (applied_m l.desks (suc l.u) (suc l.u)) (λ i. applied_m l.desks i (suc l.u)) l.i
