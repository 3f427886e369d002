use Rattle.std.specs.Prelude.{◌-◌, ◌+◌, ◌≡◌}
use Rattle.laws.specs.{Kit.{none, some}, Loop.{scan}}
use Rattle.machine.specs.{Steps.{first_unapplied, failing}}
use Rattle.clock.specs.{Vectors.{places, place}, Readiness.{fails_at}}
use Rattle.clock.proofs.readiness.Given as goal

abbrev pub invariant-loop-desk : goal.invariant-loop-desk
invariant-loop-desk l = scan (fails_at l.a l.v l.u) (λ d. some (first_unapplied (place l.a) d)) none (places + 1 - l.desk) l.desk ≡ failing places (place l.a) l.u (place l.v)
