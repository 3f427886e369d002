-- The sum so far and what is left are the whole; each name has at most 12 bytes with its space.
use Rattle.std.specs.Prelude.{◌+◌, ◌*◌, ◌≤◌, ◌≡◌}
use Rattle.laws.specs.Kit.{length}
use Rattle.answer.specs.Link.NameLengths.{names_left}
use Rattle.answer.proofs.names_length.Given as goal

abbrev pub invariant-loop-w : goal.invariant-loop-w
invariant-loop-w l = (l.sum ≤ 12 * l.w-index) × (l.sum + length (names_left (length l.w-items) l.w-items l.w-index) ≡ length (names_left (length l.w-items) l.w-items 0))
