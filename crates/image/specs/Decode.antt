-- Reading an image leniently: each field at its place, whatever stands around it.
use Rattle.std.specs.Prelude.{◌+◌, ◌*◌, ◌/◌, ◌%◌, ◌≤◌, ◌≡◌, ◌&&◌}
use Rattle.laws.specs.Kit.{ℕ, refl, Bool, true, List}
use Rattle.laws.specs.{Kit.{Option, none, some, arith, eqb, get_or}, Loop.{pick}}
use Rattle.laws.specs.{Tab.{tab}, FromOne.{from1}}
use Rattle.laws.specs.{Find.{first_of}, Cat.{part}}
use Rattle.machine.specs.{Table.{Vec, zeros, name, Cell, blank, Open, sized, State}, Steps.{within, is_open}}
use Rattle.machine.specs.{Steps.{open_count}, Rules.{Flat, Issued, Rules}}
use Rattle.block.specs.{Block.{block}, Limits.{Wide, block_bytes}}
use Rattle.block.specs.Limits.{payload_at, vector_at, vector_bytes, after_vector, cell_bytes, open_bytes, cells_in, opens_in}
use Rattle.block.specs.Limits.{places_for}
use Rattle.image.specs.OpenNames.{OpenName}
use Rattle.image.specs.{Encode.{per_desk, encode_at}, Fields.{vec_of, cell_read}}
use Rattle.image.specs.Fields.{open_read, writer_field, number_field}

-- n, m and the open count of the block of kind 1
abbrev pub n_in : List ℕ → ℕ
n_in b = get_or b payload_at 0

abbrev pub m_in : List ℕ → ℕ
m_in b = get_or b (payload_at + 1) 0

abbrev pub count_in : List ℕ → ℕ
count_in b = get_or b (payload_at + 2) 0

-- the places of its vectors follow from n, wherever that was read; the edition is not looked at
abbrev pub places_in : List ℕ → ℕ
places_in b = places_for (n_in b)

-- where the fields stand: p of a desk's payload; a cell; an open write
abbrev pub desk_place : ℕ → ℕ → ℕ
desk_place p i = block_bytes + (block_bytes * i + (payload_at + p))

-- where a vector has ps places
module _ (ps : ℕ) where
  abbrev pub cell_place : ℕ → ℕ → ℕ → ℕ → ℕ
  cell_place n m i x = block_bytes + (block_bytes * n + (block_bytes * per_desk ps m * i + (block_bytes * (x / cells_in ps) + (payload_at + cell_bytes ps * (x % cells_in ps)))))

  abbrev pub open_place : ℕ → ℕ → ℕ → ℕ
  open_place n m p = block_bytes + (block_bytes * n + (block_bytes * per_desk ps m * n + (block_bytes * (p / opens_in ps) + (payload_at + open_bytes ps * (p % opens_in ps)))))

  -- of n desks, the ps numbers at p
  abbrev pub desk_in_image : ℕ → List ℕ → ℕ → ℕ → Vec
  desk_in_image n b p = from1 zeros n (λ i. vec_of ps (part (desk_place p i) (vector_bytes ps) b))

  abbrev pub cell_in_image : ℕ → ℕ → List ℕ → ℕ → ℕ → Cell
  cell_in_image n m b = from1 (λ x. blank) n (λ i. from1 blank m (λ x. cell_read ps (part (cell_place n m i x) (cell_bytes ps) b)))

  -- the entries of the open writes, as many as counted
  abbrev pub entry_in_image : ℕ → ℕ → List ℕ → ℕ → List ℕ
  entry_in_image n m b p = part (open_place n m p) (open_bytes ps) b

  abbrev pub entries_in_image : ℕ → ℕ → List ℕ → List (List ℕ)
  entries_in_image n m b = tab (count_in b) (entry_in_image n m b)

  -- the write u.k is that of the first entry with its name
  abbrev pub bears : ℕ → ℕ → List ℕ → Bool
  bears u k l = eqb (writer_field l) u && eqb (number_field ps l) k

  abbrev pub find_in : List (List ℕ) → ℕ → ℕ → Option Open
  find_in l u k = first_of (bears u k) (open_read ps) l

  -- u from 1 to n, k from 1 to u's own count
  abbrev pub opens_in_image : ℕ → (ℕ → Vec) → List (List ℕ) → ℕ → ℕ → Option Open
  opens_in_image n a l u k = pick (within n u && within (a u u) k) (find_in l u k) none

  abbrev pub read_in : ℕ → ℕ → (ℕ → Vec) → List ℕ → State
  read_in n m a b =
      record { setup = sized n m; applied = a; clock = desk_in_image n b (after_vector ps); cell = cell_in_image n m b; opens = opens_in_image n a (entries_in_image n m b) }

  unfoldable pub decode_at : List ℕ → State
  decode_at b = read_in (n_in b) (m_in b) (desk_in_image (n_in b) b vector_at) b

  -- the bytes l are those of the open write u.k
  pub record Shows (s : State) (u k : ℕ) (l : List ℕ) : Type 0 where
    pub writer : writer_field l ≡ u
    pub number : number_field ps l ≡ k
    pub whole : some (open_read ps l) ≡ s.opens u k

  module _ (s : State) where
    pub n-back : n_in (encode_at ps s) ≡ s.setup.desks
    unfolding encode_at block
    n-back = refl

    pub m-back : m_in (encode_at ps s) ≡ s.setup.cells
    unfolding encode_at block
    m-back = refl

    pub count-back : count_in (encode_at ps s) ≡ open_count s
    unfolding encode_at block
    count-back = refl

  module _ (wd : Wide ps) (s : State) (ok : Rules s) (few : s.setup.desks ≤ ps) where
    -- a vector of issued writes is zero past the desks
    pub issued-flat : (v : Vec) → Issued s v → Flat ps v
    issued-flat v h t l =
        let i = (ok.frame.counts.inside t t (omega (arith, h t))).0 in (i.0, omega (arith, few))

    -- an open write has its name
    pub open-name : (u k : ℕ) → is_open s u k ≡ true → OpenName s (name u k)
    open-name u k e = let h = (ok.frame.open-exactly u k).0 e in record { writer_in = h.writer; number_in = h.number; stands_open = e }

abbrev pub decode : List ℕ → State
decode b = decode_at (places_in b) b
