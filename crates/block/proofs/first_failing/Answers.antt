use Rattle.block.proofs.Chunks.{get_or-first_chunks}
use Rattle.std.specs.Prelude.{◌≡◌, ◌/◌, ◌<◌}
use Rattle.laws.specs.Kit.{ℕ, arith, below_more, get_or, length, []}
use Rattle.block.specs.{Limits.{block_bytes}, Damage.{block_in, blocks_in}}
use Rattle.block.proofs.first_failing.Given.{Over}
use Rattle.block.proofs.first_failing.Goals as goal
use Rattle.block.proofs.first_failing.Goals.{After-as_chunks}

-- the block that is looked at
block_at : (g : Over) (c : After-as_chunks g) (k : ℕ) → k < blocks_in c.args.b.now → get_or c.as_chunks.result.0.now k [] ≡ block_in c.args.b.now k
block_at g c k h =
    let b = c.args.b.now in rw c.as_chunks.ensures.front (get_or-first_chunks block_bytes (length b / block_bytes) b k [] h)

pub returns-then-not-test : goal.returns-then-not-test
returns-then-not-test g c = record {
  most = omega arith;
  before = c.loop-k.invariant;
  fails = λ l. (record { shown = _; shows = block_at g (goal.at.returns-then-not-test g c).After-as_chunks _ l; says = rw c.if-not-test.true at c.test.ensures });
}

pub loop-k-preserved : goal.loop-k-preserved
loop-k-preserved g c = below_more _ _ c.loop-k.invariant (record { shown = _; shows = block_at g (goal.at.loop-k-preserved g c).After-as_chunks _ (omega arith); says = rw c.if-not-test.false at c.test.ensures })
