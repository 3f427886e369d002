-- Where each field stands in the image.
use Rattle.std.specs.Prelude.{◌+◌, ◌-◌, ◌*◌, ◌/◌, ◌%◌, ◌<◌, ◌≤◌, ◌≡◌}
use Rattle.laws.specs.Kit.{ℕ, zero, suc, refl, List}
use Rattle.laws.specs.Kit.{map, arith, leb, ltb, ne_eqb, length, replicate}
use Rattle.laws.specs.Kit.{length-replicate, mul-le-mul_left}
use Rattle.laws.specs.{Cat.{part, part-cat, piece-cat, length-cat}, Each.{each_at, each_map}}
use Rattle.machine.specs.{Table.{State}}
use Rattle.block.specs.{Link.BlockPlaces.{length-block, part-block, few_bytes, piece-block, piece-room}, Stands.{KindStands}}
use Rattle.block.specs.{Block.{block_of}, Limits.{Wide, block_bytes, payload_at}}
use Rattle.block.specs.Limits.{payload_bytes, desk_bytes, cell_bytes, open_bytes, cells_in, opens_in, edition_of}
use Rattle.image.specs.OpenNames.{names, OpenName}
use Rattle.image.proofs.OpenNames.{names_open}
use Rattle.image.specs.Encode.{open_named, blocks, bytes_of_desk, cell_part, open_part}
use Rattle.image.specs.{Encode.{open_blocks, encode_at}, Fields.{length-desk, length-cell, length_open}}
use Rattle.image.specs.Link.FieldPlaces.{pick_has, row, opens_from, block_at, at_2, at_3, at_4, encode-is}

module _ (ps : ℕ) (wd : Wide ps) (s : State) where
  length_in : (i q j : ℕ) → length (cell_part ps s i q j) ≡ cell_bytes ps
  unfolding cell_part
  length_in i q j = length-cell ps (s.cell (suc i) (suc (cells_in ps * q + j)))

  length-entry : (q j : ℕ) → length (open_part ps s q j) ≡ open_bytes ps
  unfolding open_part
  length-entry q j =
      each_at (λ (l : List ℕ). length l ≡ open_bytes ps) (map (open_named ps s) (names s)) (replicate (open_bytes ps) 0) (length-replicate {A = ℕ} (open_bytes ps) 0)
      (each_map (λ (l : List ℕ). length l ≡ open_bytes ps) (open_named ps s) (OpenName s) (λ w _. length_open ps w.writer (s.opens w.writer w.number)) (names s) (names_open s))
      (opens_in ps * q + j)

  -- what every block has whose kind can stand there and whose payload fits
  pub every-block : (P : ℕ → List ℕ → Type 0)
      → ((kind k : ℕ) (l : List ℕ) → KindStands k kind → length l ≤ payload_bytes → P k (block_of ps kind k l)) → (k : ℕ) → P k (block_at ps s k)
  unfolding block_at
  every-block P h zero = h 1 0 _ refl (omega arith)
  every-block P h (suc j) =
      let k : ℕ = suc j in
      rw (ne_eqb (suc j) 0 (λ e. omega arith))
      (pick_has (P k) (leb k s.setup.desks)
      (h 2 k _ (omega arith, omega arith) (omega (arith, length-desk ps k (s.applied k) (s.clock k), wd.desk)))
      (pick_has (P k) (ltb k (opens_from ps s))
      (h 3 k _ (omega arith, omega arith) (few_bytes (cell_bytes ps) _ (length_in ((k - (1 + s.setup.desks)) / row ps s) ((k - (1 + s.setup.desks)) % row ps s))))
      (h 4 k _ (omega arith, omega arith) (few_bytes (open_bytes ps) _ (length-entry (k - opens_from ps s))))))

  pub length_at : (k : ℕ) → length (block_at ps s k) ≡ block_bytes
  length_at = every-block (λ _ l. length l ≡ block_bytes) (λ kind k l _. length-block (edition_of ps) kind k l)

  -- the length of the image
  pub length-encode : length (encode_at ps s) ≡ block_bytes * blocks ps s
  length-encode = rw (encode-is ps s) (length-cat (block_at ps s) block_bytes length_at (blocks ps s))

  -- w bytes of the block at place k, from p on
  pub part_at : (k p w : ℕ) → k < blocks ps s → p + w ≤ block_bytes → part (block_bytes * k + p) w (encode_at ps s) ≡ part p w (block_at ps s k)
  part_at k p w h g = rw (encode-is ps s) (part-cat (block_at ps s) (blocks ps s) k (block_bytes * k) p w h (length-cat (block_at ps s) block_bytes length_at k) (omega (arith, length_at k)))

  pub block-at : (k : ℕ) → k < blocks ps s → part (block_bytes * k) block_bytes (encode_at ps s) ≡ block_at ps s k
  block-at k h = rw (encode-is ps s) (piece-cat (block_at ps s) (blocks ps s) k (block_bytes * k) block_bytes h (length-cat (block_at ps s) block_bytes length_at k) (length_at k))

  -- w bytes of a desk's part, from p on
  pub part_2 : (i p w : ℕ) → i < s.setup.desks → p + w ≤ desk_bytes ps → part (block_bytes + (block_bytes * i + (payload_at + p))) w (encode_at ps s) ≡ part p w (bytes_of_desk ps (suc i) (s.applied (suc i)) (s.clock (suc i)))
  part_2 i p w h g =
      let e : block_bytes + (block_bytes * i + (payload_at + p)) ≡ block_bytes * (1 + i) + (payload_at + p) = omega arith in
      rw (e, part_at (1 + i) (payload_at + p) w (omega arith) (omega (arith, wd.desk)), at_2 ps s i h)
      (part-block (edition_of ps) 2 (1 + i) (bytes_of_desk ps (suc i) (s.applied (suc i)) (s.clock (suc i))) p w (omega (arith, length-desk ps (suc i) (s.applied (suc i)) (s.clock (suc i)))))

  -- a cell
  pub part_3 : (i q j : ℕ) → i < s.setup.desks → q < row ps s → j < cells_in ps
      → part (block_bytes + (block_bytes * s.setup.desks + (block_bytes * row ps s * i + (block_bytes * q + (payload_at + cell_bytes ps * j))))) (cell_bytes ps) (encode_at ps s) ≡ cell_part ps s i q j
  part_3 i q j hi hq hj =
      let w = cell_bytes ps in
      let k : ℕ = 1 + s.setup.desks + (row ps s * i + q) in
      let e : block_bytes + (block_bytes * s.setup.desks + (block_bytes * row ps s * i + (block_bytes * q + (payload_at + w * j)))) ≡ block_bytes * k + (payload_at + w * j) = omega arith in
      rw (e, part_at k (payload_at + w * j) w (let l = mul-le-mul_left (row ps s) hi in omega arith) (piece-room w j hj), at_3 ps s i q hi hq)
      (piece-block w (cell_part ps s i q) (length_in i q) (edition_of ps) 3 (1 + s.setup.desks + row ps s * i + q) j hj)

  -- an open write
  pub part_4 : (q j : ℕ) → q < open_blocks ps s → j < opens_in ps
      → part (block_bytes + (block_bytes * s.setup.desks + (block_bytes * row ps s * s.setup.desks + (block_bytes * q + (payload_at + open_bytes ps * j))))) (open_bytes ps) (encode_at ps s) ≡ open_part ps s q j
  part_4 q j hq hj =
      let w = open_bytes ps in
      let e : block_bytes + (block_bytes * s.setup.desks + (block_bytes * row ps s * s.setup.desks + (block_bytes * q + (payload_at + w * j)))) ≡ block_bytes * (opens_from ps s + q) + (payload_at + w * j) = omega arith in
      rw (e, part_at (opens_from ps s + q) (payload_at + w * j) w (omega arith) (piece-room w j hj), at_4 ps s q)
      (piece-block w (open_part ps s q) (length-entry q) (edition_of ps) 4 (opens_from ps s + q) j hj)
