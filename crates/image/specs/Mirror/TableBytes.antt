-- The bytes of a table's parts, as the code puts them: of the desks, of the flat cells, of the entries in their order.
use Rattle.std.specs.Prelude.{◌+◌, ◌*◌, ◌<◌, ◌≤◌, ◌≡◌}
use Rattle.laws.specs.Kit.{ℕ, suc, refl, ◌∙◌, List, Bool, true, false, arith, lt-ltb, le-ltb, ltb, length, get_or}
use Rattle.laws.specs.{Kit.{replicate, length-replicate, sets}, Loop.{pick}, Cat.{cat, length-cat}}
use Rattle.clock.specs.Vectors.{places}
use Rattle.machine.specs.Table as machine
use Rattle.table.specs.{declared.Cell.{Cell}, declared.Open.{Open}, Value.{desk_cells, all_cells, cell_at, entries, open_at}}
use Rattle.table.specs.Model.{cell_m, cells_m}
use Rattle.block.specs.{Link.BlockFill.{sets_more}, Limits.{cell_bytes, open_bytes, cells_in, opens_in}}
use Rattle.image.specs.{Encode.{bytes_of_cell}, Fields.{length-cell}, Link.FieldPlaces.{pick_has}, Mirror.RawBytes.{cell_raw, open_raw}}
use Rattle.image.specs.Mirror.RawBytes.{SmallCell, SmallOpen, length-open_raw}

-- a loop that puts pieces of one length, one after the other: one more
pub one_more : (f : ℕ → List ℕ) (w : ℕ) → ((j : ℕ) → length (f j) ≡ w) → (d₀ : List ℕ) {d r b : List ℕ} (at i : ℕ) {p : ℕ} → d ≡ sets d₀ at (cat f i) → p ≡ at + w * i → b ≡ f i
    → r ≡ sets d p b → r ≡ sets d₀ at (cat f (i + 1))
one_more f w l d₀ at i e ep eb er = er ∙ rw (e, ep, eb) (sets_more f d₀ at i (w * i) (length-cat f w l i))

-- the entries that are to be saved, in their order
pub record OrderFits (os : List Open) (order : List ℕ) (count : ℕ) : Type 0 where
  pub few : count ≤ entries
  pub each : (p : ℕ) → p < count → (get_or order p 0 < entries) × SmallOpen (open_at os (get_or order p 0))

-- where a vector takes ps places in the image
module _ (ps : ℕ) where
  -- Cells --

  -- a cell whose bytes are those of the machine's cell
  pub record CellFits (c : Cell) : Type 0 where
    pub small : SmallCell c
    pub bytes : cell_raw ps c ≡ bytes_of_cell ps (cell_m c)

  abbrev pub CellsFit : List Cell → Type 0
  CellsFit cs = (s : ℕ) → s < all_cells → CellFits (cell_at cs s)

  pub record CellFor (cs : List Cell) (i x : ℕ) (c : Cell) : Type 0 where
    pub small : SmallCell c
    pub bytes : cell_raw ps c ≡ bytes_of_cell ps (cells_m cs (suc i) (suc x))

  -- cell j of block q of desk i, all from 0
  abbrev pub cell_piece : List Cell → ℕ → ℕ → ℕ → List ℕ
  cell_piece cs i q j = bytes_of_cell ps (cells_m cs (suc i) (suc (cells_in ps * q + j)))

  pub length-cell_piece : (cs : List Cell) (i q j : ℕ) → length (cell_piece cs i q j) ≡ cell_bytes ps
  length-cell_piece cs i q j = length-cell ps (cells_m cs (suc i) (suc (cells_in ps * q + j)))

  pub cell-there : (cs : List Cell) (i x s : ℕ) (c : Cell) → i < places → x < desk_cells → s ≡ i * desk_cells + x → CellsFit cs → c ≡ cell_at cs s → CellFor cs i x c
  unfolding cells_m
  cell-there cs i x s c hi hx es f e =
      let g = f s (omega arith) in
      record { small = rw e g.small; bytes = rw (lt-ltb i places hi, lt-ltb x desk_cells hx, e) (g.bytes ∙ rw es) }

  pub cell_past : (cs : List Cell) (i q j : ℕ) → desk_cells ≤ cells_in ps * q + j → cell_piece cs i q j ≡ replicate (cell_bytes ps) 0
  unfolding bytes_of_cell cells_m
  cell_past cs i q j h = rw (le-ltb (cells_in ps * q + j) desk_cells h) (none (ltb i places))
    where
      none : (b : Bool) → bytes_of_cell ps (pick b machine.blank machine.blank) ≡ replicate (cell_bytes ps) 0
      none true = refl
      none false = refl

  -- Open writes: the one at place p of the order, and zeros past the last

  unfoldable pub open_or : List Open → List ℕ → ℕ → ℕ → List ℕ
  open_or os order count p = pick (ltb p count) (open_raw ps (open_at os (get_or order p 0))) (replicate (open_bytes ps) 0)

  abbrev pub open_piece : List Open → List ℕ → ℕ → ℕ → ℕ → List ℕ
  open_piece os order count q j = open_or os order count (opens_in ps * q + j)

  pub length-open_piece : (os : List Open) (order : List ℕ) (count q j : ℕ) → length (open_piece os order count q j) ≡ open_bytes ps
  unfolding open_or
  length-open_piece os order count q j =
      pick_has (λ (l : List ℕ). length l ≡ open_bytes ps) (ltb (opens_in ps * q + j) count) (length-open_raw ps (open_at os (get_or order (opens_in ps * q + j) 0))) (length-replicate {A = ℕ} (open_bytes ps) 0)

  pub open-there : (os : List Open) (order : List ℕ) (count q j : ℕ) {o : Open} → opens_in ps * q + j < count → o ≡ open_at os (get_or order (opens_in ps * q + j) 0) → open_raw ps o ≡ open_piece os order count q j
  unfolding open_or
  open-there os order count q j h e = rw (lt-ltb (opens_in ps * q + j) count h, e)

  pub open-past : (os : List Open) (order : List ℕ) (count q j : ℕ) → count ≤ opens_in ps * q + j → open_piece os order count q j ≡ replicate (open_bytes ps) 0
  unfolding open_or
  open-past os order count q j h = rw (le-ltb (opens_in ps * q + j) count h)
