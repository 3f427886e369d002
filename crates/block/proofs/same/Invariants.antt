use Rattle.std.specs.Prelude.{◌≡◌, ◌<◌}
use Rattle.laws.specs.{Says.{Says}, Kit.{get_or, ℕ}}
use Rattle.block.proofs.same.Given as goal

abbrev pub invariant-loop-i : goal.invariant-loop-i
invariant-loop-i l = Says l.same ((k : ℕ) → k < l.i → get_or l.a k 0 ≡ get_or l.b k 0)
