use Rattle.std.proofs.Common.{rules}
use Rattle.std.specs.Prelude.{◌≡◌}
use Rattle.laws.specs.{Kit.{ap, length}, Chains.{tab_of_from_fn}}
use Rattle.clock.specs.Vectors.{places, larger_at, joined, clock_of}
use Rattle.clock.proofs.Clock.join.Goals as goal

pub returns : goal.returns
unfolding joined
returns c =
    let n : length c.args.self.at ≡ places = search rules in
    rw n (ap clock_of (tab_of_from_fn 0 (larger_at c.args.self.at c.args.v) c.from_fn.ensures.items (λ i y q b k. search rules)))
