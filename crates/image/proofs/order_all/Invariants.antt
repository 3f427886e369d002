use Rattle.table.specs.{Value.{entries}}
use Rattle.image.specs.Mirror.EntryOrder.{ahead, InOrder}
use Rattle.std.specs.Prelude.{◌≡◌}
use Rattle.laws.specs.Kit.{length}
use Rattle.image.proofs.order_all.Given as goal

abbrev pub invariant-loop-u : goal.invariant-loop-u
invariant-loop-u l = InOrder l.opens (ahead l.n l.desks l.u) l.order l.count × (length l.order ≡ entries)
