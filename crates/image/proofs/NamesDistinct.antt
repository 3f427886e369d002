-- No name stands twice in the list of the open writes.
use Rattle.std.specs.Prelude.{◌<◌, ◌≡◌}
use Rattle.laws.specs.Kit.{ℕ, length, get_or}
use Rattle.machine.specs.{Table.{State}, Rules.{Rules}}
use Rattle.image.specs.OpenNames.{names, no_name}
use Rattle.image.proofs.OrderFromCounts.{names-counted}
use Rattle.image.specs.Link.NamesDistinct.{counted_distinct}

pub names_distinct : (s : State) → Rules s → (p q : ℕ) → p < length (names s) → q < length (names s) → get_or (names s) p no_name ≡ get_or (names s) q no_name → p ≡ q
names_distinct s r = rw (names-counted s r) (counted_distinct s.setup.desks s.applied)
