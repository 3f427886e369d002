use Rattle.load.specs.Link.EntryEach.{Writers, Spread}
use Rattle.std.specs.Prelude.{◌≡◌}
use Rattle.laws.specs.Kit.{length}
use Rattle.table.specs.Value.{entries}
use Rattle.load.proofs.Layout.read_opens.Given as goal

abbrev pub invariant-loop-j : goal.invariant-loop-j
invariant-loop-j l = (Writers l.self.p l.self.b.now l.self.n l.self.m l.j → Spread l.self.p l.self.b.now l.self.n l.self.m l.j l.opens) × (length l.opens ≡ entries)
