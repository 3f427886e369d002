-- Document 01, "Saved image", and document 02, T-06: the numbers of the layout, each named once. A vector has p places, 8 in edition 1 and 16 in
-- edition 2, and from that the documents' other numbers follow (edition_1, edition_2).
use Rattle.std.specs.Prelude.{◌+◌, ◌-◌, ◌*◌, ◌/◌, ◌<◌, ◌≤◌, ◌≡◌}
use Rattle.laws.specs.Kit.{ℕ, refl, arith, mul-div-le, div-mul-le_self, le-div_iff_mul-le, leb, leb-true}
use Rattle.laws.specs.{Kit.{div-lt_iff_lt-mul, lt-div-mul-add, mul-le-mul, mul-le-mul_left}, Loop.{pick, cases}}
use Rattle.machine.specs.Table.{most_desks, most_writes, most_cells, most_open}

-- "Tables with n up to 8 save in edition 1 .. Larger ones save in edition 2", with vectors of 8 and of 16 places
abbrev pub narrow : ℕ
narrow = 8

abbrev pub broad : ℕ
broad = 16

-- the places of a vector, for a table of n desks
unfoldable pub places_for : ℕ → ℕ
places_for n = pick (leb n narrow) narrow broad

-- the edition, where a vector has p places
unfoldable pub edition_of : ℕ → ℕ
edition_of p = pick (leb p narrow) 1 2

-- "Blocks of 512 bytes .. 4-507 payload, 508-511 check."
abbrev pub block_bytes : ℕ
block_bytes = 512

abbrev pub payload_at : ℕ
payload_at = 4

abbrev pub check_at : ℕ
check_at = 508

abbrev pub payload_bytes : ℕ
payload_bytes = check_at - payload_at

-- a desk, a cell and an open write begin with 4 bytes, and then have a vector, each place of 16 bits
abbrev pub vector_at : ℕ
vector_at = 4

abbrev pub vector_bytes : ℕ → ℕ
vector_bytes p = 2 * p

abbrev pub after_vector : ℕ → ℕ
after_vector p = vector_at + vector_bytes p

-- a desk's clock is a second vector; a cell has nothing more; an open write's marks are a byte each
abbrev pub desk_bytes : ℕ → ℕ
desk_bytes p = after_vector p + vector_bytes p

abbrev pub cell_bytes : ℕ → ℕ
cell_bytes p = after_vector p

abbrev pub open_bytes : ℕ → ℕ
open_bytes p = after_vector p + p

-- to a block: as many as fit
abbrev pub cells_in : ℕ → ℕ
cells_in p = payload_bytes / cell_bytes p

abbrev pub opens_in : ℕ → ℕ
opens_in p = payload_bytes / open_bytes p

-- the blocks that x of them take, c to a block
abbrev pub blocks_for : ℕ → ℕ → ℕ
blocks_for c x = (x + (c - 1)) / c

-- at most: the blocks of a desk's cells, of all desks' cells, of the open writes; the whole image
abbrev pub row_most : ℕ → ℕ
row_most p = blocks_for (cells_in p) most_cells

abbrev pub rows_most : ℕ → ℕ
rows_most p = row_most p * p

abbrev pub opens_most : ℕ → ℕ
opens_most p = blocks_for (opens_in p) most_open

abbrev pub blocks_most : ℕ → ℕ
blocks_most p = 1 + p + rows_most p + opens_most p

abbrev pub image_bytes : ℕ → ℕ
image_bytes p = block_bytes * blocks_most p

-- the documents' numbers
pub record Edition (edition p cell cells open-write opens blocks : ℕ) : Type 0 where
  pub numbered : edition_of p ≡ edition
  pub cell_takes : cell_bytes p ≡ cell
  pub cells_fit : cells_in p ≡ cells
  pub open-takes : open_bytes p ≡ open-write
  pub opens_fit : opens_in p ≡ opens
  pub largest : blocks_most p ≡ blocks

-- document 01: "25 cells to a block: 20 bytes each", "18 open writes to a block .. 28 bytes each", "The largest image is 37 blocks."
pub edition_1 : Edition 1 narrow 20 25 28 18 37
unfolding edition_of
edition_1 = record { numbered = refl; cell_takes = refl; cells_fit = refl; open-takes = refl; opens_fit = refl; largest = refl }

-- document 02: "a cell takes 36 bytes (14 to a block), an open write 52 (9 to a block) .. The largest image is 105 blocks."
pub edition_2 : Edition 2 broad 36 14 52 9 105
unfolding edition_of
edition_2 = record { numbered = refl; cell_takes = refl; cells_fit = refl; open-takes = refl; opens_fit = refl; largest = refl }

-- every table's desks have their places, and the number of places and that of desks tell one edition
pub desks-placed : (n : ℕ) → n ≤ most_desks → n ≤ places_for n
unfolding places_for
desks-placed n h = cases (leb n narrow) (λ e. rw e (leb-true n narrow e)) (λ e. rw e h)

pub places-most : (n : ℕ) → places_for n ≤ broad
unfolding places_for
places-most n = cases (leb n narrow) (λ e. rw e (omega arith)) (λ e. rw e (omega arith))

pub one-edition : (n : ℕ) → edition_of (places_for n) ≡ edition_of n
unfolding edition_of places_for
one-edition n = cases (leb n narrow) (λ e. rw e) (λ e. rw e)

pub edition-small : (p : ℕ) → edition_of p < 256
unfolding edition_of
edition-small p = cases (leb p narrow) (λ e. rw e (omega arith)) (λ e. rw e (omega arith))

-- what the layout needs of p: a desk fits in a block, and the place of every block in 16 bits
pub record Wide (p : ℕ) : Type 0 where
  pub desk : desk_bytes p ≤ payload_bytes
  pub few : blocks_most p ≤ most_writes

-- as many as fit do fit, and one does
pub fit : (w : ℕ) → w * (payload_bytes / w) ≤ payload_bytes
fit w = mul-div-le payload_bytes w

pub one-fits : (w : ℕ) → 1 ≤ w → w ≤ payload_bytes → 1 ≤ payload_bytes / w
one-fits w h g = (le-div_iff_mul-le {k = w} {x = 1} {y = payload_bytes} h).1 (omega arith)

module _ (p : ℕ) (h : Wide p) where
  pub some-cells : 1 ≤ cells_in p
  some-cells = one-fits (cell_bytes p) (omega arith) (omega (arith, h.desk))

  pub some-opens : 1 ≤ opens_in p
  some-opens = one-fits (open_bytes p) (omega arith) (omega (arith, h.desk))

-- the j-th of those that fit ends within the payload
pub piece_inside : (w j : ℕ) → j < payload_bytes / w → w * j + w ≤ payload_bytes
piece_inside w j h = omega (arith, mul-le-mul_left w h, fit w)

-- the first of a block is one of x
pub first-inside : (c x q : ℕ) → 1 ≤ c → q < blocks_for c x → c * q < x
first-inside c x q h g =
    let z : (q + 1) * c ≤ x + (c - 1) = (le-div_iff_mul-le {k = c} {x = q + 1} {y = x + (c - 1)} h).0 (omega arith) in omega arith

-- one of x stands in one of their blocks; fewer take no more blocks
pub block_of_lem : (c x y : ℕ) → 1 ≤ c → y < x → y / c < blocks_for c x
block_of_lem c x y h g =
    (div-lt_iff_lt-mul {k = c} {x = y} {y = blocks_for c x} h).1
    (let z : x + (c - 1) < blocks_for c x * c + c = lt-div-mul-add {a = x + (c - 1)} {b = c} h in omega arith)

pub blocks_mono : (c x y : ℕ) → 1 ≤ c → x ≤ y → blocks_for c x ≤ blocks_for c y
blocks_mono c x y h g =
    (le-div_iff_mul-le {k = c} {x = blocks_for c x} {y = y + (c - 1)} h).1
    (let z : blocks_for c x * c ≤ x + (c - 1) = div-mul-le_self (x + (c - 1)) c in omega arith)

-- one to a block at least: no more blocks than there are of them
pub few_for : (c x : ℕ) → 1 ≤ c → blocks_for c x ≤ x
few_for c x h =
    let z : x + (c - 1) < (x + 1) * c = let y : x * 1 ≤ x * c = mul-le-mul_left x h in omega arith in
    let w : blocks_for c x < x + 1 = (div-lt_iff_lt-mul {k = c} {x = x + (c - 1)} {y = x + 1} h).1 z in
    omega arith

-- both editions have it, and so has any with fewer places
pub wide : (p : ℕ) → p ≤ broad → Wide p
wide p h =
    let rows : rows_most p ≤ most_cells * broad = mul-le-mul (few_for (cells_in p) most_cells (one-fits (cell_bytes p) (omega arith) (omega arith))) h in
    let opens = few_for (opens_in p) most_open (one-fits (open_bytes p) (omega arith) (omega arith)) in
    record { desk = omega arith; few = omega (arith, rows, opens) }

pub wide_for : (n : ℕ) → Wide (places_for n)
wide_for n = wide (places_for n) (places-most n)
