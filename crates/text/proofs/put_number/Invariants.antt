-- What is left, in place of the digits to come, makes the whole number.
use Rattle.std.specs.Prelude.{◌+◌, ◌≡◌}
use Rattle.laws.specs.{Kit.{length, sets}}
use Rattle.text.specs.{Number.{decimal}}
use Rattle.text.proofs.put_number.Given as goal

abbrev pub invariant-loop-p : goal.invariant-loop-p
invariant-loop-p l = record {
  place : l.p ≡ l.at + length (decimal l.left);
  same : sets l.out l.at (decimal l.left) ≡ sets l.initial.out l.at (decimal l.k);
}
