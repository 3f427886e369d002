use Rattle.block.specs.{Block.{word}}
use Rattle.std.specs.Prelude.{◌≡◌}
use Rattle.laws.specs.{Cat.{cat}, Kit.{sets, get_or}}
use Rattle.block.proofs.put_words.Given as goal

abbrev pub invariant-loop-t : goal.invariant-loop-t
invariant-loop-t l = l.b ≡ sets l.initial.b l.at (cat (λ k. word (get_or l.v k 0)) l.t)
