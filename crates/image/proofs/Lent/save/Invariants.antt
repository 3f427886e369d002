use Rattle.image.specs.{Link.FieldPlaces.{block_at}}
use Rattle.std.specs.Prelude.{◌≡◌}
use Rattle.laws.specs.{Cat.{cat}, Kit.{length, sets}}
use Rattle.table.specs.Model.{model_of, table_with}
use Rattle.image.proofs.Lent.save.Given as goal

abbrev pub invariant-loop-k : goal.invariant-loop-k
invariant-loop-k l = (l.out ≡ sets l.initial.out 0 (cat (block_at l.self.plan.p (model_of (table_with l.self.core.now l.self.cells.now l.self.opens.now))) l.k)) × (length l.out ≡ length l.initial.out)
