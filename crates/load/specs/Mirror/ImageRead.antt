-- The fields of an image as the code reads them: the code's desk, cell and open write from a place on.
use Rattle.std.specs.Prelude.{◌+◌, ◌*◌, ◌/◌, ◌%◌, ◌<◌, ◌≤◌, ◌-◌, ◌≡◌, ◌∷◌, ◌++◌}
use Rattle.laws.specs.Kit.{ℕ, zero, suc, refl, sym, ap, ◌∙◌, false, List, [], arith}
use Rattle.laws.specs.Kit.{dec_lt, ltb-true, lt-ltb, le-ltb, length-append, ltb, mul-le-mul, mul-le-mul_left, mod-lt, length, get_or, take, drop, replicate}
use Rattle.laws.specs.Kit.{get_or-take, get_or-drop, take-take, drop-drop, get_or-append, get_or-append-add, ext_get_or, length-replicate}
use Rattle.laws.specs.{Loop.{pick, cases}, Says.{Says, clash}, Update.{same_or}, FromOne.{from1-is}, Tab.{tab, get_or-tab, length-tab}}
use Rattle.laws.specs.{Cat.{part}}
use Rattle.table.specs.{Beginning.{zeros-at}, declared.Cell.{Cell}, declared.Desk.{Desk}, declared.Open.{Open}, Value.{desk_cells}}
use Rattle.table.specs.{Value.{all_cells, unset_cell, cell_at, put_cell, cell_at_put, cell_at-other, entries}, Model.{cell_m, open_m}}
use Rattle.clock.specs.Vectors.{places, place, clock_of}
use Rattle.load.specs.declared.Layout.{Layout}
use Rattle.block.specs.{Link.BlockFill.{drop-replicate}, Limits.{Wide, wide, fit, some-cells, some-opens, block_of_lem, few_for, block_bytes}}
use Rattle.block.specs.Limits.{payload_at, payload_bytes, vector_at, vector_bytes, after_vector, cell_bytes, open_bytes, cells_in, opens_in}
use Rattle.block.specs.Limits.{blocks_for}
use Rattle.image.specs.{Encode.{per_desk, blocks_of}, Fields.{vec_of, marks_of, cell_read, open_read}, Decode.{n_in, m_in, count_in, desk_place}}
use Rattle.image.specs.Decode.{cell_place, places_in, open_place}

abbrev pub word_at : List ℕ → ℕ → ℕ
word_at b p = get_or b p 0 + 256 * get_or b (p + 1) 0

-- what stands past n, past m, past the open writes
abbrev pub empty_desk : Desk
empty_desk = record { applied = replicate places 0; clock = clock_of (replicate places 0) }

abbrev pub empty_cell : Cell
empty_cell = record { writer = 0; status = 0; vector = replicate places 0 }

-- a test that failed
pub says-no : {P : Type 0} → (P → ⊥) → Says false P
says-no f = record { to = λ e. clash e; from = λ p. absurd (f p) }

pub get_d_part : (b : List ℕ) (p w y : ℕ) → y < w → get_or (part p w b) y 0 ≡ get_or b (p + y) 0
unfolding part
get_d_part b p w y h = get_or-take w (drop p b) y 0 h ∙ get_or-drop p b y 0

part-head : (l : List ℕ) (q v w : ℕ) → q + v ≤ w → take v (drop q (take w l)) ≡ take v (drop q l)
part-head l zero v w h = take-take v w l (omega arith)
part-head [] (suc q) v zero h = refl
part-head [] (suc q) v (suc w) h = refl
part-head (x ∷ l) (suc q) v zero h = absurd (omega arith)
part-head (x ∷ l) (suc q) v (suc w) h = part-head l q v w (omega arith)

pub part_of_part : (b : List ℕ) (p q v w : ℕ) → q + v ≤ w → part q v (part p w b) ≡ part (p + q) v b
unfolding part
part_of_part b p q v w h = part-head (drop p b) q v w h ∙ rw (drop-drop q p b)

-- an array whose first ps places were filled
unfoldable pub padded : ℕ → (ℕ → ℕ) → List ℕ
padded ps f = tab ps f ++ replicate (places - ps) 0

-- as a loop fills zeros
pub fill_zeros : (ps : ℕ) (f : ℕ → ℕ) → ps ≤ places → tab ps f ++ drop ps (replicate places 0) ≡ padded ps f
unfolding padded
fill_zeros ps f h =
    let e : places ≡ ps + (places - ps) = omega arith in
    ap (λ (r : List ℕ). tab ps f ++ r) (ap (λ (k : ℕ). drop ps (replicate {A = ℕ} k 0)) e ∙ drop-replicate {A = ℕ} ps (places - ps) 0)

-- the same of every place, zeros past the first ps
abbrev pub up_to : ℕ → (ℕ → ℕ) → ℕ → ℕ
up_to ps f t = pick (ltb t ps) (f t) 0

padded-at : (ps : ℕ) (f : ℕ → ℕ) (t : ℕ) → t < ps → get_or (padded ps f) t 0 ≡ f t
unfolding padded
padded-at ps f t h = get_or-append (tab ps f) (replicate (places - ps) 0) 0 t (omega (arith, length-tab f ps)) ∙ get_or-tab f ps t 0 h

length-padded : (ps : ℕ) (f : ℕ → ℕ) → ps ≤ places → length (padded ps f) ≡ places
unfolding padded
length-padded ps f h = simp (length-append, length-tab, length-replicate) (omega arith)

padded_past : (ps : ℕ) (f : ℕ → ℕ) (t : ℕ) → ps ≤ t → get_or (padded ps f) t 0 ≡ 0
unfolding padded
padded_past ps f t h =
    let e : t ≡ length (tab ps f) + (t - ps) = omega (arith, length-tab f ps) in
    rw e (get_or-append-add (tab ps f) (replicate (places - ps) 0) (t - ps) 0 ∙ zeros-at (places - ps) (t - ps))

pub padded_is : (ps : ℕ) (f : ℕ → ℕ) → ps ≤ places → tab places (up_to ps f) ≡ padded ps f
padded_is ps f h = ext_get_or 0 (tab places (up_to ps f)) (padded ps f) (length-tab (up_to ps f) places ∙ sym (length-padded ps f h)) (λ t l. at t (dec_lt t ps) (rw (length-tab (up_to ps f) places) at l))
  where
    at : (t : ℕ) → Dec (t < ps) → t < places → get_or (tab places (up_to ps f)) t 0 ≡ get_or (padded ps f) t 0
    at t (yes y) l = get_or-tab (up_to ps f) places t 0 l ∙ rw (lt-ltb t ps y, padded-at ps f t y)
    at t (no y) l = let z : ps ≤ t = omega arith in get_or-tab (up_to ps f) places t 0 l ∙ rw (le-ltb t ps z, padded_past ps f t z)

pub zeros-tab : (n : ℕ) → tab n (λ k. zero) ≡ replicate n 0
zeros-tab n =
    let f : ℕ → ℕ = λ k. 0 in
    ext_get_or 0 (tab n f) (replicate n 0) (length-tab f n ∙ sym (length-replicate {A = ℕ} n 0))
    (λ i h. get_or-tab f n i 0 (rw (length-tab f n) at h) ∙ sym (zeros-at n i))

pub zero_row : (n s : ℕ) → s < n → cell_at (replicate n unset_cell) s ≡ empty_cell
zero_row zero s h = absurd (omega arith)
zero_row (suc n) zero h = refl
zero_row (suc n) (suc s) h = zero_row n s (omega arith)

-- where a vector takes ps places in the image
module _ (ps : ℕ) where
  -- ps numbers of 16 bits; ps of a byte
  abbrev pub words_from : List ℕ → ℕ → List ℕ
  words_from b p = padded ps (λ t. word_at b (p + 2 * t))

  abbrev pub bytes_from : List ℕ → ℕ → List ℕ
  bytes_from b p = padded ps (λ t. get_or b (p + t) 0)

  abbrev pub cell_from : List ℕ → ℕ → Cell
  cell_from b p = record { writer = get_or b p 0; status = get_or b (p + 1) 0; vector = words_from b (p + vector_at) }

  abbrev pub open_from : List ℕ → ℕ → Open
  open_from b p = record { writer = get_or b p 0; status = get_or b (p + 1) 0; cell = get_or b (p + 2) 0; vector = words_from b (p + vector_at); marks = bytes_from b (p + after_vector ps) }

  abbrev pub desk_from : List ℕ → ℕ → Desk
  desk_from b i = record { applied = words_from b (desk_place vector_at i); clock = clock_of (words_from b (desk_place (after_vector ps) i)) }

  unfoldable pub desk_for : List ℕ → ℕ → ℕ → Desk
  desk_for b n i = pick (ltb i n) (desk_from b i) empty_desk

  unfoldable pub cell_for : List ℕ → ℕ → ℕ → ℕ → Cell
  cell_for b n m s = pick (ltb (s / desk_cells) n) (pick (ltb (s % desk_cells) m) (cell_from b (cell_place ps n m (s / desk_cells) (s % desk_cells))) empty_cell) empty_cell

  pub for_cases : (b : List ℕ) (n m s : ℕ) (P : Cell → Type 0) → (s / desk_cells < n → s % desk_cells < m → P (cell_from b (cell_place ps n m (s / desk_cells) (s % desk_cells)))) → P empty_cell → P (cell_for b n m s)
  unfolding cell_for
  for_cases b n m s P f z =
      cases (ltb (s / desk_cells) n)
      (λ a. rw a (cases (ltb (s % desk_cells) m) (λ c. rw c (f (ltb-true (s / desk_cells) n a) (ltb-true (s % desk_cells) m c))) (λ c. rw c z)))
      (λ a. rw a z)

  -- the sizes that an image tells of itself are in range, and its length is theirs
  pub record Fits (b : List ℕ) : Type 0 where
    pub desks : (1 ≤ n_in b) × (n_in b ≤ ps)
    pub cells : (1 ≤ m_in b) × (m_in b ≤ desk_cells)
    pub few : count_in b ≤ entries
    pub size : length b ≡ block_bytes * blocks_of ps (n_in b) (m_in b) (count_in b)

  -- the rows that were read
  abbrev pub CellsRead : List ℕ → ℕ → ℕ → List Cell → Type 0
  CellsRead b n m cs = (s : ℕ) → s < all_cells → cell_at cs s ≡ cell_for b n m s

  -- where a cell and an open write stand, and that they lie within
  pub record Within (b : List ℕ) (n k q r w at : ℕ) : Type 0 where
    pub desks : n ≤ ps
    pub before : k ≤ all_cells
    pub block : q < desk_cells + entries
    pub payload : r < payload_bytes
    pub is : block_bytes + (block_bytes * n + (block_bytes * k + (block_bytes * q + (payload_at + r)))) ≡ at
    pub ends : at + w ≤ length b

  module _ (most : ps ≤ places) (b : List ℕ) (h : Fits b) where
    wd : Wide ps
    wd = wide ps most

    few-blocks : per_desk ps (m_in b) ≤ desk_cells
    few-blocks = omega (arith, few_for (cells_in ps) (m_in b) (some-cells ps wd), h.cells.1)

    row_block : (x : ℕ) → x < m_in b → x / cells_in ps < per_desk ps (m_in b)
    row_block x hx = block_of_lem (cells_in ps) (m_in b) x (some-cells ps wd) hx

    -- a piece of w bytes, the j-th of its block
    module _ (n c i j q w : ℕ) (e : c ≡ per_desk ps (m_in b)) (hn : n ≡ n_in b) (hi : i ≤ n) (some_bytes : 1 ≤ w) (hj : j < payload_bytes / w) (hq : q < desk_cells + entries) (inside : per_desk ps (m_in b) * i + q < per_desk ps (m_in b) * n + blocks_for (opens_in ps) (count_in b)) where
      piece-within : Within b n (c * i) q (w * j) w (block_bytes + (block_bytes * n + (block_bytes * per_desk ps (m_in b) * i + (block_bytes * q + (payload_at + w * j)))))
      piece-within =
          let few : i ≤ places = omega (arith, h.desks.1) in
          let row : c ≤ desk_cells = omega (arith, few-blocks) in
          let f = ap (λ (y : ℕ). y * i) e in
          let d = ap (λ (y : ℕ). per_desk ps (m_in b) * y) hn in
          let l = h.size in
          let r = mul-le-mul_left w hj in
          let a = fit w in
          record { desks = omega (arith, h.desks.1); before = (let y : c * i ≤ desk_cells * places = mul-le-mul row few in omega arith); block = hq; payload = omega arith; is = omega arith; ends = omega arith }

    -- a cell and an open write, at the code's own numbers
    pub cell_where : (n m i x c : ℕ) → n ≡ n_in b → m ≡ m_in b → c ≡ per_desk ps m → i < n → x < m → Within b n (c * i) (x / cells_in ps) (cell_bytes ps * (x % cells_in ps)) (cell_bytes ps) (cell_place ps n m i x)
    cell_where n m i x c en em ec hi hx =
        let a = row_block x (omega arith) in
        let z = few-blocks in
        let k : i < n_in b = omega arith in
        rw (en, em) (piece-within (n_in b) c i (x % cells_in ps) (x / cells_in ps) (cell_bytes ps) (ec ∙ ap (per_desk ps) em) refl (omega arith) (omega arith) (mod-lt x (some-cells ps wd)) (omega arith)
        (let g = mul-le-mul_left (per_desk ps (m_in b)) k in omega arith))

    pub open-where : (n m p c count : ℕ) → n ≡ n_in b → m ≡ m_in b → c ≡ per_desk ps m → count ≡ count_in b → p < count → Within b n (c * n) (p / opens_in ps) (open_bytes ps * (p % opens_in ps)) (open_bytes ps) (open_place ps n m p)
    open-where n m p c count en em ec eq hp =
        let a = block_of_lem (opens_in ps) (count_in b) p (some-opens ps wd) (omega arith) in
        let z : blocks_for (opens_in ps) (count_in b) ≤ entries = omega (arith, few_for (opens_in ps) (count_in b) (some-opens ps wd), h.few) in
        rw (en, em) (piece-within (n_in b) c (n_in b) (p % opens_in ps) (p / opens_in ps) (open_bytes ps) (ec ∙ ap (per_desk ps) em) refl (omega arith) (omega arith) (mod-lt p (some-opens ps wd)) (omega arith) (omega arith))

    pub desks-within : block_bytes + block_bytes * n_in b ≤ length b
    desks-within = omega (arith, h.size)

  -- a row past the n desks' is none
  pub cells_end : (b : List ℕ) (n m s : ℕ) → n * desk_cells ≤ s → cell_for b n m s ≡ empty_cell
  unfolding cell_for
  cells_end b n m s h = rw (le-ltb (s / desk_cells) n (omega arith))

  -- one row more
  pub cells-more : (b : List ℕ) (n m s : ℕ) (l : List Cell) (c : Cell) → ((t : ℕ) → t < s → cell_at l t ≡ cell_for b n m t) → s < all_cells → c ≡ cell_for b n m s → length l ≡ all_cells
      → (t : ℕ) → t < s + 1 → cell_at (put_cell l s c) t ≡ cell_for b n m t
  cells-more b n m s l c h hs e size t ht =
      same_or t s
      (λ q. rw q (cell_at_put l s c hs size ∙ e))
      (λ q. cell_at-other l s c t q ∙ h t (less q))
    where
      less : (t ≡ s → ⊥) → t < s
      less q = omega arith

  -- a row behind it stays
  pub cells_left : {n : ℕ} (s : ℕ) (l : List Cell) (c : Cell) → ((t : ℕ) → s ≤ t → t < n → cell_at l t ≡ empty_cell) → (t : ℕ) → s + 1 ≤ t → t < n → cell_at (put_cell l s c) t ≡ empty_cell
  cells_left s l c h t ht b = cell_at-other l s c t (λ q. omega arith) ∙ h t (omega arith) b

  -- the rows of the n desks read, and the others left
  pub cells-all : (b : List ℕ) (n m s : ℕ) (l : List Cell) → n * desk_cells ≤ s → ((t : ℕ) → t < s → cell_at l t ≡ cell_for b n m t) → ((t : ℕ) → s ≤ t → t < all_cells → cell_at l t ≡ empty_cell) → CellsRead b n m l
  cells-all b n m s l e h r t hb = go (dec_lt t s)
    where
      go : Dec (t < s) → cell_at l t ≡ cell_for b n m t
      go (yes y) = h t y
      go (no y) = r t (omega arith) hb ∙ sym (cells_end b n m t (omega arith))

  -- what is read is what the definitions of document 01's fields read --

  place_past : (f : ℕ → ℕ) (t : ℕ) → (1 ≤ t → t ≤ ps → ⊥) → place (padded ps f) t ≡ 0
  place_past f zero o = refl
  place_past f (suc t) o = padded_past ps f t (past (dec_lt t ps))
    where
      past : Dec (t < ps) → ps ≤ t
      past (yes h) = absurd (o (omega arith) h)
      past (no h) = omega arith

  pub place-words : (b : List ℕ) (p : ℕ) → place (words_from b p) ≡ vec_of ps (part p (vector_bytes ps) b)
  unfolding vec_of
  place-words b p =
      sym (from1-is 0 ps (λ t. get_or (part p (vector_bytes ps) b) (2 * t + 0) 0 + 256 * get_or (part p (vector_bytes ps) b) (2 * t + 1) 0) (place (words_from b p))
      (λ t h.
      let e0 : p + (2 * t + 0) ≡ p + 2 * t = omega arith in
      let e1 : p + (2 * t + 1) ≡ p + 2 * t + 1 = omega arith in
      rw (padded-at ps (λ t. word_at b (p + 2 * t)) t h, get_d_part b p (vector_bytes ps) (2 * t + 0) (omega arith), get_d_part b p (vector_bytes ps) (2 * t + 1) (omega arith), e0, e1))
      (place_past (λ t. word_at b (p + 2 * t))))

  pub place-bytes : (b : List ℕ) (p : ℕ) → place (bytes_from b p) ≡ marks_of ps (part p ps b)
  unfolding marks_of
  place-bytes b p =
      sym (from1-is 0 ps (λ t. get_or (part p ps b) t 0) (place (bytes_from b p))
      (λ t h. rw (padded-at ps (λ t. get_or b (p + t) 0) t h, get_d_part b p ps t h))
      (place_past (λ t. get_or b (p + t) 0)))

  pub cell-read : (b : List ℕ) (p : ℕ) → cell_m (cell_from b p) ≡ cell_read ps (part p (cell_bytes ps) b)
  unfolding cell_read
  cell-read b p =
      let z : p + 0 ≡ p = omega arith in
      rw (place-words b (p + vector_at), get_d_part b p (cell_bytes ps) 0 (omega arith), get_d_part b p (cell_bytes ps) 1 (omega arith), part_of_part b p vector_at (vector_bytes ps) (cell_bytes ps) (omega arith), z)

  pub open-read : (b : List ℕ) (p : ℕ) → open_m (open_from b p) ≡ open_read ps (part p (open_bytes ps) b)
  unfolding open_read
  open-read b p =
      rw (place-words b (p + vector_at), place-bytes b (p + after_vector ps), get_d_part b p (open_bytes ps) 1 (omega arith), get_d_part b p (open_bytes ps) 2 (omega arith), part_of_part b p vector_at (vector_bytes ps) (open_bytes ps) (omega arith), part_of_part b p (after_vector ps) ps (open_bytes ps) (omega arith))

-- the sizes that the code goes by are those of the image
pub record SizesOf (b : List ℕ) (z : Layout) : Type 0 where
  pub p_is : z.p ≡ places_in b
  pub most : z.p ≤ places
  pub fits : Fits z.p b
  pub n_is : z.n ≡ n_in b
  pub m_is : z.m ≡ m_in b
  pub count_is : z.count ≡ count_in b
  pub c_is : z.c ≡ per_desk z.p z.m
