-- What is left of the names makes the whole.
use Rattle.std.specs.Prelude.{◌+◌, ◌≤◌}
use Rattle.laws.specs.{Kit.{length}, Stores.{StoresLeft}}
use Rattle.answer.specs.Link.NameLengths.{names_left}
use Rattle.answer.proofs.put_names.Given as goal

abbrev pub invariant-loop-w : goal.invariant-loop-w
invariant-loop-w l =
    (l.at + length (names_left (length l.w-items) l.w-items 0) ≤ length l.initial.out)
    × StoresLeft l.initial.out l.at (names_left (length l.w-items) l.w-items 0) l.out l.p (names_left (length l.w-items) l.w-items l.w-index)
