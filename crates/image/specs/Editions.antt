-- Document 02, T-06: the two editions of an image. Which one a table has, and what a block tells of it.
use Rattle.std.specs.Prelude.{◌<◌, ◌≤◌, ◌≡◌}
use Rattle.laws.specs.Kit.{ℕ, List, le-leb, lt-leb}
use Rattle.machine.specs.{Table.{State}}
use Rattle.block.specs.{Damage.{block_in}, Stands.{told_edition}}
use Rattle.block.specs.{Limits.{narrow, broad, places_for}}
use Rattle.image.specs.Encode.{encode_at, encode}

-- "Tables with n up to 8 save in edition 1, byte for byte as today. Larger ones save in edition 2"
pub saves_narrow : (s : State) → s.setup.desks ≤ narrow → encode s ≡ encode_at narrow s
unfolding places_for
saves_narrow s h = rw (le-leb s.setup.desks narrow h)

pub saves_broad : (s : State) → narrow < s.setup.desks → encode s ≡ encode_at broad s
unfolding places_for
saves_broad s h = rw (lt-leb s.setup.desks narrow h)

-- what the block at place k tells
abbrev pub edition_in : List ℕ → ℕ → ℕ
edition_in b k = told_edition (block_in b k)
