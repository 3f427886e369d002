-- Document 01, "Saved image", and document 02, T-06: the bytes of a table. Desks and cells count from 1, so where i counts from 0 the desk is suc i.
use Rattle.std.specs.Prelude.{◌+◌, ◌*◌, ◌∷◌, ◌++◌}
use Rattle.laws.specs.{Kit.{ℕ, suc, List, [], map, Option, none, some, get_or, replicate}, Cat.{cat}}
use Rattle.machine.specs.{Table.{Vec, Name, Cell, blank, set, Open, State}, Steps.{open_count}}
use Rattle.block.specs.{Limits.{cell_bytes, open_bytes, cells_in, opens_in, blocks_for, places_for}, Block.{block_of, vector_words, mark_bytes}}
use Rattle.image.specs.OpenNames.{names}

-- A vector has p places: in edition 1, of which document 01 speaks here, 8, and in edition 2 16. A cell takes 20 or 36 bytes, an open write 28 or
-- 52, as many to a block as fit (edition_1, edition_2).
module _ (p : ℕ) where
  -- "Kind 1, one: payload n, m, open count, a byte each."
  abbrev pub block1 : State → List ℕ
  block1 s = block_of p 1 0 (s.setup.desks ∷ s.setup.cells ∷ open_count s ∷ [])

  -- "Kind 2, one for each desk: desk number, 3 zeros, 8 applied counts, 8 clock places, 16 bits each."
  unfoldable pub bytes_of_desk : ℕ → Vec → Vec → List ℕ
  bytes_of_desk i applied clock = i ∷ 0 ∷ 0 ∷ 0 ∷ (vector_words p applied ++ vector_words p clock)

  abbrev pub block2 : State → ℕ → List ℕ
  block2 s i = block_of p 2 (1 + i) (bytes_of_desk (suc i) (s.applied (suc i)) (s.clock (suc i)))

  -- "20 bytes each: writer (0 unset, then all zero), status, 2 zeros, 8 vector places"
  unfoldable pub bytes_of_cell : Cell → List ℕ
  bytes_of_cell blank = replicate (cell_bytes p) 0
  bytes_of_cell (set v u w) = u ∷ v ∷ 0 ∷ 0 ∷ vector_words p w

  -- "Kind 3, desk by desk, each desk from a new block, 25 cells to a block": those of the q-th block of a desk, j from 0
  unfoldable pub cell_part : State → ℕ → ℕ → ℕ → List ℕ
  cell_part s i q j = bytes_of_cell (s.cell (suc i) (suc (cells_in p * q + j)))

  abbrev pub per_desk : ℕ → ℕ
  per_desk m = blocks_for (cells_in p) m

  abbrev pub block3 : State → ℕ → ℕ → List ℕ
  block3 s i q = block_of p 3 (1 + s.setup.desks + per_desk s.setup.cells * i + q) (cat (cell_part s i q) (cells_in p))

  -- "28 bytes each: writer, status, cell, zero, 8 vector places, then for each of 8 desks .."
  unfoldable pub bytes_of_open : ℕ → Option Open → List ℕ
  bytes_of_open u none = replicate (open_bytes p) 0
  bytes_of_open u (some w) = u ∷ w.status ∷ w.cell ∷ 0 ∷ (vector_words p w.vector ++ mark_bytes p w.marks)

  abbrev pub open_named : State → Name → List ℕ
  open_named s w = bytes_of_open w.writer (s.opens w.writer w.number)

  -- "Kind 4, 18 open writes to a block, by writer then number": those of the q-th block, and zeros past the last
  unfoldable pub open_part : State → ℕ → ℕ → List ℕ
  open_part s q j = get_or (map (open_named s) (names s)) (opens_in p * q + j) (replicate (open_bytes p) 0)

  -- "No kind 4 block when nothing is open."
  abbrev pub open_blocks : State → ℕ
  open_blocks s = blocks_for (opens_in p) (open_count s)

  abbrev pub block4 : State → ℕ → List ℕ
  block4 s q = block_of p 4 (1 + s.setup.desks + per_desk s.setup.cells * s.setup.desks + q) (cat (open_part s q) (opens_in p))

  -- "Blocks stand by kind, 1 to 4, and nothing follows them."
  abbrev pub kind2 : State → List ℕ
  kind2 s = cat (block2 s) s.setup.desks

  abbrev pub kind3 : State → List ℕ
  kind3 s = cat (λ i. cat (block3 s i) (per_desk s.setup.cells)) s.setup.desks

  abbrev pub kind4 : State → List ℕ
  kind4 s = cat (block4 s) (open_blocks s)

  unfoldable pub encode_at : State → List ℕ
  encode_at s = block1 s ++ (kind2 s ++ (kind3 s ++ kind4 s))

  -- of n desks, m cells and so many open writes
  abbrev pub blocks_of : ℕ → ℕ → ℕ → ℕ
  blocks_of n m opens = 1 + n + per_desk m * n + blocks_for (opens_in p) opens

  abbrev pub blocks : State → ℕ
  blocks s = blocks_of s.setup.desks s.setup.cells (open_count s)

-- "Tables with n up to 8 save in edition 1, byte for byte as today. Larger ones save in edition 2": the edition and its places follow from n
abbrev pub encode : State → List ℕ
encode s = encode_at (places_for s.setup.desks) s
