-- What the code reads of an image that a table has is that table.
use Rattle.std.specs.Prelude.{◌+◌, ◌-◌, ◌*◌, ◌/◌, ◌%◌, ◌<◌, ◌≤◌, ◌≡◌}
use Rattle.laws.specs.Kit.{ℕ, zero, suc, refl, sym, ap, ◌∙◌, fun_ext, true, not, List, Option, none}
use Rattle.laws.specs.Kit.{some, arith, dec_lt, ltb-true, lt-ltb, le-ltb, ne_eqb, ltb, get_or, replicate, length-replicate, take_all}
use Rattle.laws.specs.{Kit.{div-add-mod, mod-lt, le_refl}, Loop.{cases}, Says.{apart, clash}, FromOne.{from1, from1-is}, Tab.{tab}}
use Rattle.laws.specs.{Tab.{get_or-tab, get_or-tab_out}, Each.{each_in}, Cat.{part}}
use Rattle.clock.specs.Vectors.{places}
use Rattle.machine.specs.Table as machine
use Rattle.machine.specs.{Table.{State, Vec, zeros, Name, name}, Steps.{is_none, is_open, open_count}, Rules.{In, Rules}}
use Rattle.table.specs.{declared.Cell.{Cell}, declared.Desk.{Desk}, declared.Open.{Open}, declared.Table.{Table}, Value.{desk0, desk_cells}}
use Rattle.table.specs.{Value.{all_cells, cell_at, entries, open_at, is_free}, EntryNames.{entry_number, named_at, free_named, own-named}}
use Rattle.table.specs.{EntryNames.{named-is}, Model.{cell_m, open_m, applied_vec, clock_vec, applied_m, clock_m, cells_m, opens_m, cell_in}}
use Rattle.table.specs.{Model.{model_of, state_path}, Link.OpensModel.{Unique, opens_at, opens-none}, Sound.{SoundTable, AllZero}}
use Rattle.table.specs.Beginning.{zeros-at, place-zeros}
use Rattle.block.specs.Limits.{places_for, wide_for, desks-placed, Wide, some-cells, block_of_lem, vector_at, vector_bytes, after_vector}
use Rattle.block.specs.{Limits.{cell_bytes, open_bytes, cells_in}, Link.BlockFill.{drop-replicate}}
use Rattle.image.specs.OpenNames.{names, no_name, OpenName}
use Rattle.image.proofs.OpenNames.{length-names, names_open, open-named}
use Rattle.image.proofs.NamesDistinct.{names_distinct}
use Rattle.image.specs.Encode.{cell_part, bytes_of_cell, encode_at, encode}
use Rattle.image.proofs.FieldPlaces.{length-encode, part_3}
use Rattle.image.specs.Fields.{zero-words}
use Rattle.image.specs.{Fields.{vec_words, vec_of, cell_read, writer_field, number_field}, Decode.{n_in, m_in, count_in, desk_place, cell_place}}
use Rattle.image.specs.Decode.{open_place, desk_in_image, cell_in_image, n-back, m-back, count-back}
use Rattle.image.proofs.Decode.{applied_back, clock-back, cell-back, shows-at}
use Rattle.image.specs.Decode.{open-name, places_in}
use Rattle.load.specs.{Link.EntryEach.{Spread, OpensRead}, Mirror.ImageRead.{cell_from, open_from, desk_from, empty_desk, desk_for, cell_for}}
use Rattle.load.specs.Mirror.ImageRead.{Fits, CellsRead, for_cases, get_d_part, part_of_part, place-words, cell-read, open-read}

-- where a vector takes ps places in the image
module _ (ps : ℕ) where
  -- desks: one part of them, read at p of the payload
  module _ (b : List ℕ) (n : ℕ) (h : n ≤ places) (g : Desk → Vec) (p : ℕ) (reads : (i : ℕ) → g (desk_from ps b i) ≡ vec_of ps (part (desk_place p i) (vector_bytes ps) b)) (past : g empty_desk ≡ zeros) (none-there : g desk0 ≡ zeros) where
    desk-at : (i : ℕ) → i < n → g (get_or (tab places (desk_for ps b n)) i desk0) ≡ vec_of ps (part (desk_place p i) (vector_bytes ps) b)
    unfolding desk_for
    desk-at i l = rw (get_or-tab (desk_for ps b n) places i desk0 (omega arith), lt-ltb i n l) (reads i)

    desk_off : (i : ℕ) → n ≤ i → g (get_or (tab places (desk_for ps b n)) i desk0) ≡ zeros
    unfolding desk_for
    desk_off i l = go (dec_lt i places)
      where
        go : Dec (i < places) → g (get_or (tab places (desk_for ps b n)) i desk0) ≡ zeros
        go (yes q) = rw (get_or-tab (desk_for ps b n) places i desk0 q, le-ltb i n l) past
        go (no q) = let o : places ≤ i = omega arith in rw (get_or-tab_out (desk_for ps b n) places i desk0 o) none-there

    -- all of them
    desks-read : (f : ℕ → Vec) → f 0 ≡ zeros → ((i : ℕ) → f (suc i) ≡ g (get_or (tab places (desk_for ps b n)) i desk0)) → f ≡ desk_in_image ps n b p
    desks-read f z e = sym (from1-is zeros n (λ i. vec_of ps (part (desk_place p i) (vector_bytes ps) b)) f (λ i l. sym (e i ∙ desk-at i l)) off)
      where
        off : (i : ℕ) → (1 ≤ i → i ≤ n → ⊥) → f i ≡ zeros
        off zero o = z
        off (suc i) o = e i ∙ desk_off i (beyond (dec_lt i n))
          where
            beyond : Dec (i < n) → n ≤ i
            beyond (yes l) = absurd (o (omega arith) l)
            beyond (no l) = omega arith

  -- the desks that were read are those of the definition
  module _ (b : List ℕ) (n : ℕ) (h : n ≤ places) where
    pub applied-read : applied_m (tab places (desk_for ps b n)) ≡ desk_in_image ps n b vector_at
    unfolding applied_m
    applied-read =
        desks-read b n h applied_vec vector_at (λ i. place-words ps b (desk_place vector_at i)) (place-zeros places) (place-zeros 0)
        (applied_m (tab places (desk_for ps b n))) (place-zeros 0) (λ i. refl)

    pub clock-read : clock_m (tab places (desk_for ps b n)) ≡ desk_in_image ps n b (after_vector ps)
    unfolding clock_m
    clock-read =
        desks-read b n h clock_vec (after_vector ps) (λ i. place-words ps b (desk_place (after_vector ps) i)) (place-zeros places) (place-zeros 0)
        (clock_m (tab places (desk_for ps b n))) (place-zeros 0) (λ i. refl)

  -- cells
  module _ (b : List ℕ) (n m : ℕ) (hn : n ≤ places) (hm : m ≤ desk_cells) (cs : List Cell) (read : CellsRead ps b n m cs) where
    row_of : (i x : ℕ) → x < desk_cells → ((i * desk_cells + x) / desk_cells ≡ i) × ((i * desk_cells + x) % desk_cells ≡ x)
    row_of i x h = (omega arith, omega arith)

    at_row : (i x : ℕ) → i < places → x < desk_cells → cells_m cs (suc i) (suc x) ≡ cell_m (cell_for ps b n m (i * desk_cells + x))
    at_row i x hi hx =
        let a : suc i - 1 ≡ i = omega arith in
        let c : suc x - 1 ≡ x = omega arith in
        rw (a, c) at (cell_in cs (suc i) (suc x) (omega arith, omega arith) (omega arith, omega arith)) ∙ ap cell_m (read (i * desk_cells + x) (omega arith))

    cell-on : (i x : ℕ) → i < n → x < m → cell_read ps (part (cell_place ps n m i x) (cell_bytes ps) b) ≡ cells_m cs (suc i) (suc x)
    unfolding cell_for
    cell-on i x hi hx =
        let r = row_of i x (omega arith) in
        sym (at_row i x (omega arith) (omega arith) ∙ rw (r.0, r.1, lt-ltb i n hi, lt-ltb x m hx) (cell-read ps b (cell_place ps n m i x)))

    cell_off : (i x : ℕ) → (In n i → In m x → ⊥) → cells_m cs i x ≡ machine.blank
    unfolding cells_m
    cell_off zero x o = refl
    cell_off (suc i) zero o = refl
    cell_off (suc i) (suc x) o =
        cases (ltb i places)
        (λ a. rw a (cases (ltb x desk_cells)
        (λ c. let l = ltb-true i places a in let k = ltb-true x desk_cells c in
        rw (c, read (i * desk_cells + x) (omega arith))
        (for_cases ps b n m (i * desk_cells + x) (λ (z : Cell). cell_m z ≡ machine.blank) (λ p q. absurd (o (omega arith, omega arith) (omega arith, omega arith))) refl))
        (λ c. rw c)))
        (λ a. rw a)

    pub cells-read : cells_m cs ≡ cell_in_image ps n m b
    cells-read =
        sym (from1-is (λ x. machine.blank) n (λ i. from1 machine.blank m (λ x. cell_read ps (part (cell_place ps n m i x) (cell_bytes ps) b))) (cells_m cs)
        (λ i hi. from1-is machine.blank m (λ x. cell_read ps (part (cell_place ps n m i x) (cell_bytes ps) b)) (cells_m cs (suc i)) (λ x hx. cell-on i x hi hx) (λ x o. cell_off (suc i) x (λ p q. o q.0 q.1)))
        (λ i o. fun_ext (λ x. cell_off i x (λ p q. o p.0 p.1))))

  -- open writes: what stands at a place of the image, as the code reads it
  module _ (b : List ℕ) (n m p : ℕ) where
    writer-read : (open_from ps b (open_place ps n m p)).writer ≡ writer_field (part (open_place ps n m p) (open_bytes ps) b)
    writer-read =
        let z : open_place ps n m p + 0 ≡ open_place ps n m p = omega arith in
        sym (get_d_part b (open_place ps n m p) (open_bytes ps) 0 (omega arith) ∙ rw z)

    number_read : entry_number (open_from ps b (open_place ps n m p)) ≡ number_field ps (part (open_place ps n m p) (open_bytes ps) b)
    unfolding number_field
    number_read = rw (← writer-read, part_of_part b (open_place ps n m p) vector_at (vector_bytes ps) (open_bytes ps) (omega arith), ← place-words ps b (open_place ps n m p + vector_at))

  -- all of it, of the image of a table s that keeps the rules
  module _ (wd : Wide ps) (s : State) (ok : Rules s) (few : s.setup.desks ≤ ps) where
    abbrev at : ℕ → Name
    at p = get_or (names s) p no_name

    stands_open : (p : ℕ) → p < open_count s → OpenName s (at p)
    stands_open p h = each_in (OpenName s) (names s) no_name (names_open s) p (omega (arith, length-names s))

    abbrev from : ℕ → Open
    from p = open_from ps (encode_at ps s) (open_place ps s.setup.desks s.setup.cells p)

    name-from : (p : ℕ) → p < open_count s → ((from p).writer ≡ (at p).writer) × (entry_number (from p) ≡ (at p).number)
    name-from p h =
        let w = shows-at ps wd s ok few p h in
        (writer-read (encode_at ps s) s.setup.desks s.setup.cells p ∙ w.writer, number_read (encode_at ps s) s.setup.desks s.setup.cells p ∙ w.number)

    has-writer : (p : ℕ) → p < open_count s → (from p).writer ≡ 0 → ⊥
    has-writer p h e = let w = (name-from p h).0 in let i = (stands_open p h).writer_in.0 in omega arith

    -- the entries, wherever they stand
    module _ (os : List Open) (read : OpensRead ps (encode_at ps s) s.setup.desks s.setup.cells (open_count s) os) where
      spread : Spread ps (encode_at ps s) s.setup.desks s.setup.cells (open_count s) os
      spread = read has-writer

      name-is : (p : ℕ) → p < open_count s → ((open_at os (spread.at p)).writer ≡ (at p).writer) × (entry_number (open_at os (spread.at p)) ≡ (at p).number)
      name-is p h = rw (spread.there p h) (name-from p h)

      named_so : (p : ℕ) → p < open_count s → named_at os (at p).writer (at p).number (spread.at p) ≡ true
      named_so p h =
          let w = name-is p h in
          rw (← w.0, ← w.1) (own-named (open_at os (spread.at p)) (ne_eqb (open_at os (spread.at p)).writer 0 (λ e. (let i = (stands_open p h).writer_in.0 in omega (arith, w.0)))))

      -- an entry with a name is one of those that were counted, and the name is its own
      counted_as : (e u k : ℕ) → e < entries → named_at os u k e ≡ true → (p : ℕ) × (p < open_count s) × (e ≡ spread.at p) × (at p ≡ name u k)
      counted_as e u k h t =
          let a = spread.rest e h (cases (is_free (open_at os e)) (λ f. absurd (apart (named_at os u k e) t (free_named (open_at os e) u k f))) (λ f. f)) in
          let q = named-is (open_at os (spread.at a.p)) u k (rw a.is at t) in
          let w = name-is a.p a.small in
          let x : (at a.p).writer ≡ u = sym w.0 ∙ q.1 in
          let y : (at a.p).number ≡ k = sym w.1 ∙ q.2 in
          (a.p, a.small, a.is, λ i. record { writer = x i; number = y i })

      pub unique-read : Unique os
      unique-read e j he hj ne u k t r =
          let a = counted_as e u k he t in
          let b = counted_as j u k hj r in
          let q : a.0 ≡ b.0 = names_distinct s ok a.0 b.0 (omega (arith, a.1, length-names s)) (omega (arith, b.1, length-names s)) (a.3 ∙ sym b.3) in
          ne (a.2 ∙ ap spread.at q ∙ sym b.2)

      opens-is : (u k : ℕ) (o : Option machine.Open) → s.opens u k ≡ o → opens_m os u k ≡ o
      opens-is u k none e =
          opens-none os u k (λ j h. cases (named_at os u k j)
          (λ t. let a = counted_as j u k h t in
          let i : is_open s u k ≡ true = rw a.3 at (stands_open a.0 a.1).stands_open in
          clash (sym (ap (λ (o : Option machine.Open). not (is_none o)) e) ∙ i))
          (λ t. t))
      opens-is u k (some w) e =
          let g = open-named s u k (open-name ps wd s ok few u k (ap (λ (o : Option machine.Open). not (is_none o)) e)) in
          let p : ℕ = g.at in
          let c : p < open_count s = omega (arith, g.small, length-names s) in
          let sh = rw g.is at (shows-at ps wd s ok few p c).whole in
          opens_at os (spread.at p) u k unique-read (spread.inside p c) (rw g.is at (named_so p c))
          ∙ ap some (ap open_m (spread.there p c) ∙ open-read ps (encode_at ps s) (open_place ps s.setup.desks s.setup.cells p)) ∙ sh ∙ e

      pub opens-read : opens_m os ≡ s.opens
      opens-read = fun_ext (λ u. fun_ext (λ k. opens-is u k (s.opens u k) refl))

  -- unset cells
  zero-vector : (t : ℕ) → vec_of ps (replicate (vector_bytes ps) 0) t ≡ 0
  zero-vector t = ap (λ (v : Vec). v t) (ap (vec_of ps) (sym (zero-words ps)) ∙ vec_words ps zeros (λ u l. absurd (omega arith)))

  zero-part : part {A = ℕ} vector_at (vector_bytes ps) (replicate (cell_bytes ps) 0) ≡ replicate (vector_bytes ps) 0
  unfolding part
  zero-part = rw (drop-replicate {A = ℕ} vector_at (vector_bytes ps) 0) (take_all (vector_bytes ps) (replicate (vector_bytes ps) 0) (rw (length-replicate {A = ℕ} (vector_bytes ps) 0) (le_refl (vector_bytes ps))))

  module _ (b : List ℕ) (p : ℕ) where
    blank-from : part p (cell_bytes ps) b ≡ replicate (cell_bytes ps) 0 → AllZero (cell_from ps b p)
    unfolding part
    blank-from e =
        record {
          status = sym (get_d_part b p (cell_bytes ps) 1 (omega arith)) ∙ ap (λ (l : List ℕ). get_or l 1 0) e ∙ zeros-at (cell_bytes ps) 1;
          vector = λ t. ap (λ (v : Vec). v t) (place-words ps b (p + vector_at) ∙ ap (vec_of ps) (sym (part_of_part b p vector_at (vector_bytes ps) (cell_bytes ps) (omega arith)) ∙ ap (λ (l : List ℕ). part vector_at (vector_bytes ps) l) e ∙ zero-part)) ∙ zero-vector t;
        }

  module _ (wd : Wide ps) (s : State) (ok : Rules s) (few : s.setup.desks ≤ ps) where
    blank-cell : (i x p : ℕ) (c : machine.Cell) → s.cell i x ≡ c → part p (cell_bytes ps) (encode_at ps s) ≡ bytes_of_cell ps c → (cell_from ps (encode_at ps s) p).writer ≡ 0 → AllZero (cell_from ps (encode_at ps s) p)
    unfolding bytes_of_cell
    blank-cell i x p machine.blank q e w = blank-from (encode_at ps s) p e
    blank-cell i x p (machine.set v u y) q e w =
        let z : p + 0 ≡ p = omega arith in
        let a : get_or (part p (cell_bytes ps) (encode_at ps s)) 0 0 ≡ 0 = get_d_part (encode_at ps s) p (cell_bytes ps) 0 (omega arith) ∙ rw z w in
        let c : u ≡ 0 = sym (ap (λ (l : List ℕ). get_or l 0 0) e) ∙ a in
        absurd (omega (arith, (ok.frame.cell i x v u y q).writer_in.0))

    pub blanks-read : (cs : List Cell) → CellsRead ps (encode_at ps s) s.setup.desks s.setup.cells cs → (t : ℕ) → t < all_cells → (cell_at cs t).writer ≡ 0 → AllZero (cell_at cs t)
    unfolding cell_part
    blanks-read cs read t h =
        rw (read t h)
        (for_cases ps (encode_at ps s) s.setup.desks s.setup.cells t (λ (c : Cell). c.writer ≡ 0 → AllZero c)
        (λ a c.
        let i : ℕ = t / desk_cells in
        let x : ℕ = t % desk_cells in
        blank-cell (suc i) (suc x) (cell_place ps s.setup.desks s.setup.cells i x) (s.cell (suc i) (suc x)) refl
        (rw (div-add-mod x (cells_in ps)) at (part_3 ps wd s i (x / cells_in ps) (x % cells_in ps) a (block_of_lem (cells_in ps) s.setup.cells x (some-cells ps wd) c) (mod-lt x (some-cells ps wd)))))
        (λ w. record { status = refl; vector = λ k. ap (λ (v : Vec). v k) (place-zeros places) }))

    -- its sizes fit
    pub fits-image : Fits ps (encode_at ps s)
    fits-image =
        record {
          desks = rw (n-back ps s) (ok.frame.ranges.desks.0, few);
          cells = rw (m-back ps s) ok.frame.ranges.cells;
          few = rw (count-back ps s) ok.frame.ranges.few;
          size = rw (n-back ps s, m-back ps s, count-back ps s) (length-encode ps wd s);
        }

  -- a table whose parts were read from b
  pub record ReadAs (b : List ℕ) (t : Table) : Type 0 where
    pub n_is : t.core.n ≡ n_in b
    pub m_is : t.core.m ≡ m_in b
    pub desks : t.core.desks ≡ tab places (desk_for ps b (n_in b))
    pub cells : CellsRead ps b (n_in b) (m_in b) t.cells
    pub opens : OpensRead ps b (n_in b) (m_in b) (count_in b) t.opens

  pub read-image : (wd : Wide ps) (s : State) → Rules s → s.setup.desks ≤ ps → (t : Table) → ReadAs (encode_at ps s) t → (model_of t ≡ s) × SoundTable t
  read-image wd s ok few t h =
      let few-desks = ok.frame.ranges.desks.1 in
      let m64 = ok.frame.ranges.cells.1 in
      let en : t.core.n ≡ s.setup.desks = h.n_is ∙ n-back ps s in
      let em : t.core.m ≡ s.setup.cells = h.m_is ∙ m-back ps s in
      let ed : t.core.desks ≡ tab places (desk_for ps (encode_at ps s) s.setup.desks) = rw (n-back ps s) at h.desks in
      let rc : CellsRead ps (encode_at ps s) s.setup.desks s.setup.cells t.cells = rw (n-back ps s, m-back ps s) at h.cells in
      let ro : OpensRead ps (encode_at ps s) s.setup.desks s.setup.cells (open_count s) t.opens = rw (n-back ps s, m-back ps s, count-back ps s) at h.opens in
      let e : model_of t ≡ s = state_path (model_of t) s (λ j. machine.sized (en j) (em j))
      (ap applied_m ed ∙ applied-read (encode_at ps s) s.setup.desks few-desks ∙ applied_back ps wd s ok few)
      (ap clock_m ed ∙ clock-read (encode_at ps s) s.setup.desks few-desks ∙ clock-back ps wd s ok few)
      (cells-read (encode_at ps s) s.setup.desks s.setup.cells few-desks m64 t.cells rc ∙ cell-back ps wd s ok few)
      (opens-read wd s ok few t.opens ro) in
      (e, record { rules = rw e ok; blanks = blanks-read wd s ok few t.cells rc; unique = unique-read wd s ok few t.opens ro })

-- a reader that reads images right
abbrev pub ReadsRight : List ℕ → Table → Type 0
ReadsRight b t = (s : State) → Rules s → encode s ≡ b → (model_of t ≡ s) × SoundTable t

-- at the places that follow from n
module _ (b : List ℕ) (s : State) (ok : Rules s) (e : encode s ≡ b) where
  abbrev width : ℕ
  width = places_for s.setup.desks

  wide_enough : Wide width
  wide_enough = wide_for s.setup.desks

  placed : s.setup.desks ≤ width
  placed = desks-placed s.setup.desks ok.frame.ranges.desks.1

  width_in : places_in b ≡ width
  width_in = ap places_in (sym e) ∙ ap places_for (n-back width s)

  read_so : (t : Table) → ReadAs (places_in b) b t → (model_of t ≡ s) × SoundTable t
  read_so t h = read-image width wide_enough s ok placed t (rw (width_in, ← e) at h)

  -- the sizes of an image fit
  pub fits_so : Fits (places_in b) b
  fits_so = rw width_in (rw e at (fits-image width wide_enough s ok placed))

pub reads_right : (b : List ℕ) (t : Table) → ReadAs (places_in b) b t → ReadsRight b t
reads_right b t h s ok e = read_so b s ok e t h
