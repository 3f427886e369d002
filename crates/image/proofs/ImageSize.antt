-- Every byte of an image is below 256.
use Rattle.std.specs.Prelude.{◌+◌, ◌-◌, ◌*◌, ◌/◌, ◌%◌, ◌<◌, ◌≤◌, ◌≡◌, ◌∷◌, ◌++◌}
use Rattle.laws.specs.Kit.{ℕ, suc, refl, List, [], map, Option, none, some, arith}
use Rattle.laws.specs.{Kit.{length, replicate, eqb, leb, ltb, leb-true}, Each.{no, and, each_at}}
use Rattle.laws.specs.{Each.{each_append, each-replicate, each-cat, each-tab, each_map}, Loop.{cases}}
use Rattle.machine.specs.{Table.{most_cells, most_writes, Vec, Cell, blank, set, Open, State}, Steps.{open_count}, Rules.{Issued}}
use Rattle.machine.specs.Rules.{Rules}
use Rattle.block.specs.{Check.{Byte, Bytes, check_of, check_most}, Block.{word, vector_words, mark_bytes, long, body, block}, Limits.{Wide}}
use Rattle.block.specs.Limits.{payload_bytes, cell_bytes, open_bytes, cells_in, opens_in}
use Rattle.block.specs.Limits.{edition_of, edition-small}
use Rattle.image.specs.OpenNames.{names, OpenName}
use Rattle.image.proofs.OpenNames.{names_open}
use Rattle.image.specs.Encode.{bytes_of_desk, bytes_of_cell, bytes_of_open, open_named, blocks}
use Rattle.image.specs.{Encode.{cell_part, open_part, encode_at}, Link.FieldPlaces.{pick_has, block_at, encode-is}}
use Rattle.image.specs.ImageSize.{most-blocks}

head : (a b c d : ℕ) (l : List ℕ) → a < 256 → b < 256 → c < 256 → d < 256 → Bytes l → Bytes (a ∷ b ∷ c ∷ d ∷ l)
head a b c d l ha hb hc hd h = and ha (and hb (and hc (and hd h)))

bytes-words : (ps : ℕ) (v : Vec) → ((t : ℕ) → v t ≤ most_writes) → Bytes (vector_words ps v)
unfolding vector_words
bytes-words ps v h = each-cat Byte (λ t. word (v (suc t))) ps (λ t _. and (omega arith) (and (omega (arith, h (suc t))) no))

bytes-block : (edition kind place : ℕ) (l : List ℕ) → edition < 256 → kind < 256 → place ≤ most_writes → Bytes l → Bytes (block edition kind place l)
unfolding block
bytes-block edition kind place l he h g k =
    let z : List ℕ = replicate (payload_bytes - length l) 0 in
    let b : Bytes (body edition kind place l) =
    head kind edition (place % 256) (place / 256) (l ++ z) h he (omega arith) (omega arith) (each_append Byte l z k (each-replicate Byte (payload_bytes - length l) 0 (omega arith))) in
    let c = check_most (body edition kind place l) b in
    each_append Byte (body edition kind place l) (long (check_of (body edition kind place l))) b
    (and (omega arith) (and (omega arith) (and (omega arith) (and (omega arith) no))))

module _ (ps : ℕ) (wd : Wide ps) (s : State) (ok : Rules s) (n-most : s.setup.desks ≤ ps) where
  n_byte : s.setup.desks < 256
  n_byte = omega (arith, n-most, wd.desk)

  m-most : s.setup.cells ≤ most_cells
  m-most = ok.frame.ranges.cells.1

  bytes-vector : (v : Vec) → Issued s v → Bytes (vector_words ps v)
  bytes-vector v h = bytes-words ps v (λ t. omega (arith, h t, ok.frame.ranges.written t))

  bytes-cell : (i x : ℕ) (c : Cell) → s.cell i x ≡ c → Bytes (bytes_of_cell ps c)
  unfolding bytes_of_cell
  bytes-cell i x blank e = each-replicate Byte (cell_bytes ps) 0 (omega arith)
  bytes-cell i x (set v u w) e =
      let h = ok.frame.cell i x v u w e in
      head u v 0 0 (vector_words ps w) (omega (arith, h.writer_in.1, n_byte)) (omega (arith, h.status_in)) (omega arith) (omega arith) (bytes-vector w h.issued)

  bytes_open : (u k : ℕ) (o : Option Open) → u ≤ s.setup.desks → s.opens u k ≡ o → Bytes (bytes_of_open ps u o)
  unfolding bytes_of_open mark_bytes
  bytes_open u k none l e = each-replicate Byte (open_bytes ps) 0 (omega arith)
  bytes_open u k (some w) l e =
      let h = ok.frame.open-write u k w e in
      head u w.status w.cell 0 (vector_words ps w.vector ++ mark_bytes ps w.marks)
      (omega (arith, n_byte)) (omega (arith, h.status_in)) (omega (arith, h.cell.1, m-most)) (omega arith)
      (each_append Byte (vector_words ps w.vector) (mark_bytes ps w.marks) (bytes-vector w.vector h.issued)
      (each-tab Byte (λ t. w.marks (suc t)) ps (λ t _. omega (arith, h.marks_in (suc t)))))

  bytes-opens : (q j : ℕ) → Bytes (open_part ps s q j)
  unfolding open_part
  bytes-opens q j =
      each_at Bytes (map (open_named ps s) (names s)) (replicate (open_bytes ps) 0) (each-replicate Byte (open_bytes ps) 0 (omega arith))
      (each_map Bytes (open_named ps s) (OpenName s) (λ w h. bytes_open w.writer w.number (s.opens w.writer w.number) h.writer_in.1 refl) (names s) (names_open s))
      (opens_in ps * q + j)

  bytes-sizes : Bytes (s.setup.desks ∷ s.setup.cells ∷ open_count s ∷ [])
  bytes-sizes = and n_byte (and {x = s.setup.cells} (omega (arith, m-most)) (and {x = open_count s} (omega (arith, ok.frame.ranges.few)) no))

  bytes-desk : (i : ℕ) → i ≤ s.setup.desks → Bytes (bytes_of_desk ps i (s.applied i) (s.clock i))
  unfolding bytes_of_desk
  bytes-desk i h =
      let most = ok.frame.counts.most i in
      head i 0 0 0 (vector_words ps (s.applied i) ++ vector_words ps (s.clock i)) (omega (arith, n_byte)) (omega arith) (omega arith) (omega arith)
      (each_append Byte (vector_words ps (s.applied i)) (vector_words ps (s.clock i)) (bytes-vector (s.applied i) most) (bytes-vector (s.clock i) (λ t. omega (arith, most t, ok.frame.clocks.below i t))))

  bytes-at : (k : ℕ) → k < blocks ps s → Bytes (block_at ps s k)
  unfolding block_at cell_part
  bytes-at k h =
      let few : k ≤ most_writes = omega (arith, most-blocks ps wd s ok n-most, wd.few) in
      pick_has Bytes (eqb k 0) (bytes-block (edition_of ps) 1 k _ (edition-small ps) (omega arith) few bytes-sizes)
      (cases (leb k s.setup.desks)
      (λ e. rw e (bytes-block (edition_of ps) 2 k _ (edition-small ps) (omega arith) few (bytes-desk k (leb-true k s.setup.desks e))))
      (λ e. rw e (pick_has Bytes (ltb k _)
      (bytes-block (edition_of ps) 3 k _ (edition-small ps) (omega arith) few (each-cat Byte _ (cells_in ps) (λ j _. bytes-cell _ _ _ refl)))
      (bytes-block (edition_of ps) 4 k _ (edition-small ps) (omega arith) few (each-cat Byte _ (opens_in ps) (λ j _. bytes-opens _ j))))))

  -- every byte is below 256
  pub bytes-encode : Bytes (encode_at ps s)
  bytes-encode = rw (encode-is ps s) (each-cat Byte (block_at ps s) (blocks ps s) bytes-at)
