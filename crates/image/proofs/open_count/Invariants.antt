use Rattle.image.specs.{Mirror.EntryOrder.{ahead}}
use Rattle.std.specs.Prelude.{◌≡◌, ◌≤◌, ◌*◌}
use Rattle.laws.specs.Kit.{length}
use Rattle.image.proofs.open_count.Given as goal

abbrev pub invariant-loop-u : goal.invariant-loop-u
invariant-loop-u l = (l.r ≡ length (ahead l.n l.desks l.u)) × (l.r ≤ 65536 * l.u)
