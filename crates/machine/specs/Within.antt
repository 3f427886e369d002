-- 1 to n, as a test.
use Rattle.std.specs.Prelude.{ℕ, leb}
use Rattle.laws.specs.{Says.{Says, says-leb, says_both}, Tests.{Test}}
use Rattle.machine.specs.{Steps.{within}, Rules.{In}}

pub says-within : (n i : ℕ) → Says (within n i) (In n i)
says-within n i = says_both (leb 1 i) (leb i n) (says-leb 1 i) (says-leb i n)

abbrev pub inside : ℕ → ℕ → Test
inside n i = record { passes = within n i; holds = In n i; says = says-within n i }
