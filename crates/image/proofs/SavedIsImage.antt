-- What the code puts for a table that keeps the rules is the image of its model.
use Rattle.std.specs.Prelude.{◌+◌, ◌*◌, ◌/◌, ◌%◌, ◌<◌, ◌≤◌, ◌≡◌, ◌∷◌}
use Rattle.laws.specs.Kit.{ℕ, suc, sym, ap, ◌∙◌, fun_ext, not, List, map, Option, some}
use Rattle.laws.specs.Kit.{arith, dec_lt, eqb-true, lt-ltb, le-ltb, eqb, length, get_or, replicate}
use Rattle.laws.specs.{Kit.{get_or-eq_default, length-map}, Loop.{cases}, Says.{clash}, Each.{each_in, get_or-map_in}}
use Rattle.clock.specs.Vectors.{places, place}
use Rattle.machine.specs.Table as machine
use Rattle.machine.specs.{Table.{most_writes, Name, State}, Steps.{is_none, open_count}, Rules.{Rules}}
use Rattle.table.specs.{declared.Cell.{Cell}, declared.Open.{Open}, declared.Table.{Table}, Value.{desk_cells, cell_at, entries}}
use Rattle.table.specs.{Value.{open_at}, EntryNames.{named-is}, Model.{model_of, cell_m, open_m, applied_m, cells_m, opens_m, slot}}
use Rattle.table.specs.{Model.{cell_in}, Link.OpensModel.{opens_at}, Sound.{SoundTable, AllZero}}
use Rattle.block.specs.{Block.{vector_words}, Damage.{block_in}, Limits.{Wide, some-cells, some-opens}}
use Rattle.block.specs.Limits.{block_of_lem, blocks_mono, block_bytes, vector_bytes, cell_bytes, open_bytes, cells_in, opens_in, blocks_for}
use Rattle.block.specs.Limits.{opens_most, wide, places_for, places-most, desks-placed}
use Rattle.image.specs.OpenNames.{names, no_name, OpenName}
use Rattle.image.proofs.OpenNames.{length-names, names_open}
use Rattle.image.specs.Link.OrderFromCounts.{low, counted}
use Rattle.image.specs.Link.OrderFromCounts.{open-low}
use Rattle.image.proofs.OrderFromCounts.{names-counted}
use Rattle.image.specs.Encode.{bytes_of_cell, bytes_of_open, blocks, blocks_of}
use Rattle.image.specs.{Encode.{open_named, per_desk, encode_at, encode}, ImageSize.{most-blocks}}
use Rattle.image.specs.declared.Plan.{Plan}
use Rattle.image.specs.Link.FieldPlaces.{block_at}
use Rattle.image.proofs.FieldPlaces.{length-encode, block-at}
use Rattle.image.specs.{Mirror.RawBytes.{cell_raw, open_raw}, Mirror.TableBytes.{CellsFit, OrderFits, open_or}}
use Rattle.image.specs.{Mirror.EntryOrder.{HoldsWrite, InOrder, Known}, Fields.{zero-words}}
use Rattle.image.specs.Link.SavedIsImage.{Planned, planned_wide, encoded}

-- an unset cell is all zero
unset-bytes : (ps : ℕ) (c : Cell) → c.writer ≡ 0 → AllZero c → cell_raw ps c ≡ replicate (cell_bytes ps) 0
unfolding cell_raw
unset-bytes ps c w z =
    let v : place c.vector ≡ (λ t. 0) = fun_ext z.vector in
    let e : 4 + vector_bytes ps ≡ suc (suc (suc (suc (vector_bytes ps)))) = omega arith in
    rw (w, z.status, e) (ap (λ (r : List ℕ). 0 ∷ 0 ∷ 0 ∷ 0 ∷ r) (ap (vector_words ps) v ∙ zero-words ps))

module _ (ps : ℕ) (most : ps ≤ places) {t : Table} (ok : SoundTable t) (fits : t.core.n ≤ ps) where
  wd : Wide ps
  wd = wide ps most

  abbrev st : State
  st = model_of t

  abbrev n : ℕ
  n = t.core.n

  abbrev os : List Open
  os = t.opens

  r : Rules st
  r = ok.rules

  few-desks : n ≤ places
  few-desks = r.frame.ranges.desks.1

  -- cells --

  all_cells_fit : CellsFit ps t.cells
  unfolding bytes_of_cell cell_raw
  all_cells_fit s h =
      let i : ℕ = s / desk_cells in
      let x : ℕ = s % desk_cells in
      let cell = cell_at t.cells s in
      let e : slot (suc i) (suc x) ≡ s = omega arith in
      let g : cells_m t.cells (suc i) (suc x) ≡ cell_m cell = rw e at (cell_in t.cells (suc i) (suc x) (omega arith, omega arith) (omega arith, omega arith)) in
      cases (eqb cell.writer 0)
      (λ b. let w = eqb-true cell.writer 0 b in
      let z = ok.blanks s h w in
      record { small = record { writer = omega arith; status = omega (arith, z.status) }; bytes = rw b (unset-bytes ps cell w z) })
      (λ b. let k = r.frame.cell (suc i) (suc x) cell.status cell.writer (place cell.vector) (rw b at g) in
      record { small = record { writer = omega (arith, k.writer_in.1, few-desks); status = omega (arith, k.status_in) }; bytes = rw b })

  -- open writes --

  counted_is : length (counted n (applied_m t.core.desks)) ≡ open_count st
  counted_is = ap length (sym (names-counted st r)) ∙ length-names st

  pub known : Known n t.core.desks os
  known =
      record {
        few = omega (arith, counted_is, r.frame.ranges.few);
        found = λ u k h a b e.
            (let t = open-low st r (suc u) k (omega arith, h) (omega arith, b) ∙ lt-ltb (low n st.applied (suc u)) k a in
            clash (sym (ap (λ (o : Option machine.Open). not (is_none o)) e) ∙ t));
      }

  module _ {order : List ℕ} {count : ℕ} (ord : InOrder os (counted n (applied_m t.core.desks)) order count) where
    ord_names : InOrder os (names st) order count
    ord_names = rw (names-counted st r) ord

    abbrev at : ℕ → Name
    at p = get_or (names st) p no_name

    abbrev entry : ℕ → Open
    entry p = open_at os (get_or order p 0)

    held_as : (p : ℕ) → p < count → HoldsWrite os (at p) (get_or order p 0)
    held_as p h = ord_names.each p (omega (arith, ord_names.size))

    is-there : (p : ℕ) → p < count → opens_m os (at p).writer (at p).number ≡ some (open_m (entry p))
    is-there p h = let e = held_as p h in opens_at os (get_or order p 0) (at p).writer (at p).number ok.unique e.0 e.1

    writer-is : (p : ℕ) → p < count → (entry p).writer ≡ (at p).writer
    writer-is p h = (named-is (entry p) (at p).writer (at p).number (held_as p h).1).1

    all-order-fits : OrderFits os order count
    all-order-fits =
        record {
          few = omega (arith, ord.size, known.few);
          each = λ p h.
              (let w = each_in (OpenName st) (names st) no_name (names_open st) p (omega (arith, ord_names.size)) in
              let o = r.frame.open-write (at p).writer (at p).number (open_m (entry p)) (is-there p h) in (
                (held_as p h).0,
                record {
                  writer = omega (arith, writer-is p h, w.writer_in.1, few-desks);
                  status = omega (arith, o.status_in);
                  cell = omega (arith, o.cell.1, r.frame.ranges.cells.1);
                  marks = λ t. omega (arith, o.marks_in (suc t));
                },
              ));
        }

    piece-at : (p : ℕ) → open_or ps os order count p ≡ get_or (map (open_named ps st) (names st)) p (replicate (open_bytes ps) 0)
    unfolding open_or bytes_of_open open_raw
    piece-at p = go (dec_lt p count)
      where
        go : Dec (p < count) → open_or ps os order count p ≡ get_or (map (open_named ps st) (names st)) p (replicate (open_bytes ps) 0)
        go (yes h) =
            rw (lt-ltb p count h, get_or-map_in (open_named ps st) (names st) p no_name (replicate (open_bytes ps) 0) (omega (arith, ord_names.size)), is-there p h, writer-is p h)
        go (no h) =
            let l : length (map (open_named ps st) (names st)) ≤ p = rw (length-map (names st) (open_named ps st)) (omega (arith, ord_names.size)) in
            let g : count ≤ p = omega arith in
            rw (le-ltb p count g, get_or-eq_default (map (open_named ps st) (names st)) (replicate (open_bytes ps) 0) l)

    pub planned : {c e d : ℕ} → ps ≡ places_for n → c ≡ per_desk ps t.core.m → e ≡ 1 + n + c * n → d ≡ blocks_for (opens_in ps) count
        → Planned t order (record { p = ps; count = count; row = c; ahead = e; total = e + d })
    planned {c} {e} {d} ep ec ee ed =
        let m = t.core.m in
        let few : d ≤ opens_most ps = rw ed (blocks_mono (opens_in ps) count entries (some-opens ps wd) all-order-fits.few) in
        let all : e + d ≡ blocks ps st = rw (ee, ec, ed, ord.size ∙ counted_is) in
        record {
          p_is = ep;
          most = most;
          desks = few-desks;
          cells = r.frame.ranges.cells.1;
          few = all-order-fits.few;
          row = ec;
          row_some = rw ec (let z = block_of_lem (cells_in ps) m 0 (some-cells ps wd) r.frame.ranges.cells.0 in omega arith);
          row_few = rw ec (blocks_mono (cells_in ps) m desk_cells (some-cells ps wd) r.frame.ranges.cells.1);
          opens_from = ee;
          opens_few = omega arith;
          total_is = all;
          total_few = omega (arith, all, most-blocks ps wd st r fits, wd.few);
          counted_right = ord.size ∙ counted_is;
          cells_fit = all_cells_fit;
          order_fits = all-order-fits;
          piece = piece-at;
        }

  length_by : block_bytes * blocks_of ps n t.core.m (length (counted n (applied_m t.core.desks))) ≡ length (encode_at ps st)
  length_by = rw counted_is (sym (length-encode ps wd st))

-- the length, by the counts alone
pub length-is : {t : Table} → SoundTable t
    → (let n = t.core.n in block_bytes * blocks_of (places_for n) n t.core.m (length (counted n (applied_m t.core.desks))) ≡ length (encode (model_of t)))
length-is {t} ok = let n = t.core.n in length_by (places_for n) (places-most n) ok (desks-placed n ok.rules.frame.ranges.desks.1)

-- of all its blocks
module _ {t : Table} {order : List ℕ} {plan : Plan} (P : Planned t order plan) where
  abbrev s : State
  s = model_of t

  pub planned_length : length (encode s) ≡ block_bytes * plan.total
  planned_length = rw (encoded P) (length-encode plan.p (planned_wide P) s ∙ rw P.total_is)

  pub same_block : (b : List ℕ) (k : ℕ) → k < plan.total → encode s ≡ b → block_at plan.p s k ≡ block_in b k
  same_block b k h e = sym (block-at plan.p (planned_wide P) s k (rw (← P.total_is) h)) ∙ ap (λ (l : List ℕ). block_in l k) (sym (encoded P) ∙ e)
