use Rattle.std.specs.Prelude.{◌≤◌, ◌≡◌}
use Rattle.laws.specs.Kit.{drop}
use Rattle.text.specs.{Number.{most_number}, Fields.{digits_on}}
use Rattle.text.proofs.digits.Given as goal

abbrev pub invariant-loop-end : goal.invariant-loop-end
invariant-loop-end l = record {
  small : l.value ≤ most_number;
  same : digits_on l.first (drop l.from l.s) ≡ digits_on l.value (drop l.end l.s);
}
