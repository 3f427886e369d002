use Rattle.block.specs.Mirror.BlockTests.{Answered}
use Rattle.std.specs.Prelude.{ℕ, ◌<◌, true}
use Rattle.block.proofs.first_failing.Given as goal

abbrev pub invariant-loop-k : goal.invariant-loop-k
invariant-loop-k g l = (j : ℕ) → j < l.k → Answered g.F.Fn l.test l.fn.b j true
