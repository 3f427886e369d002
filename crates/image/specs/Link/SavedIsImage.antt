-- What the code puts for a table that keeps the rules is the image of its model.
use Rattle.std.specs.Prelude.{◌+◌, ◌-◌, ◌*◌, ◌/◌, ◌%◌, ◌<◌, ◌≤◌, ◌≡◌, ◌∷◌}
use Rattle.laws.specs.Kit.{ℕ, suc, sym, ap, ◌∙◌, fun_ext, List, [], map}
use Rattle.laws.specs.Kit.{arith, ne_eqb, le-leb, lt-leb, lt-ltb, le-ltb, length, get_or, replicate}
use Rattle.laws.specs.{Kit.{sets}, Cat.{cat}}
use Rattle.clock.specs.Vectors.{places, place}
use Rattle.machine.specs.{Table.{most_writes, State}, Steps.{open_count}}
use Rattle.table.specs.{declared.Table.{Table}, Value.{desk0, desk_cells, entries}}
use Rattle.table.specs.{Model.{model_of, applied_m, clock_m}}
use Rattle.block.specs.{Block.{block_of}, Damage.{block_in}, Link.BlockFill.{cat_parts}, Limits.{Wide}}
use Rattle.block.specs.Limits.{block_bytes, open_bytes, cells_in, opens_in}
use Rattle.block.specs.Limits.{row_most, opens_most, wide, places_for}
use Rattle.image.specs.OpenNames.{names}
use Rattle.image.specs.Encode.{bytes_of_desk, blocks}
use Rattle.image.specs.{Encode.{open_named, cell_part, open_part, per_desk, encode_at, encode}}
use Rattle.image.specs.declared.Plan.{Plan}
use Rattle.image.specs.Link.FieldPlaces.{block_at, encode-is}
use Rattle.image.specs.{Mirror.TableBytes.{CellsFit, cell_piece, OrderFits, open_or, open_piece}}

-- the image of s stands in the buffer from its start on, what lies behind it is as it was, and the result is its length
pub record Saved (s : State) (before after : List ℕ) (r : ℕ) : Type 0 where
  pub stored : after ≡ sets before 0 (encode s)
  pub size : r ≡ length (encode s)

-- what the blocks of a table are made of, once its open writes are in order and its blocks are counted
pub record Planned (t : Table) (order : List ℕ) (plan : Plan) : Type 0 where
  pub p_is : plan.p ≡ places_for t.core.n
  pub most : plan.p ≤ places
  pub desks : t.core.n ≤ places
  pub cells : t.core.m ≤ desk_cells
  pub few : plan.count ≤ entries
  pub row : plan.row ≡ per_desk plan.p t.core.m
  pub row_some : 1 ≤ plan.row
  pub row_few : plan.row ≤ row_most plan.p
  pub opens_from : plan.ahead ≡ 1 + t.core.n + plan.row * t.core.n
  pub opens_few : plan.total ≤ plan.ahead + opens_most plan.p
  pub total_is : plan.total ≡ blocks plan.p (model_of t)
  pub total_few : plan.total ≤ most_writes
  pub counted_right : plan.count ≡ open_count (model_of t)
  pub cells_fit : CellsFit plan.p t.cells
  pub order_fits : OrderFits t.opens order plan.count
  pub piece : (p : ℕ) → open_or plan.p t.opens order plan.count p ≡ get_or (map (open_named plan.p (model_of t)) (names (model_of t))) p (replicate (open_bytes plan.p) 0)

-- the block of the code at place k, by its kind
module _ {t : Table} {order : List ℕ} {plan : Plan} (P : Planned t order plan) (k : ℕ) {b : List ℕ} where
  pub sizes-at : k ≡ 0 → b ≡ block_of plan.p 1 0 (t.core.n ∷ t.core.m ∷ plan.count ∷ []) → b ≡ block_at plan.p (model_of t) k
  unfolding block_at
  sizes-at ek eb = rw (eb, P.counted_right, ek)

  pub desk-at : (k ≡ 0 → ⊥) → k ≤ t.core.n → (let d = get_or t.core.desks (k - 1) desk0 in b ≡ block_of plan.p 2 k (bytes_of_desk plan.p k (place d.applied) (place d.clock.at))) → b ≡ block_at plan.p (model_of t) k
  unfolding block_at applied_m clock_m
  desk-at z h eb =
      let e : suc (k - 1) ≡ k = omega arith in
      rw (ne_eqb k 0 z, le-leb k t.core.n h) (eb ∙ ap (λ (j : ℕ). block_of plan.p 2 k (bytes_of_desk plan.p k (applied_m t.core.desks j) (clock_m t.core.desks j))) e)

  pub cells_at : t.core.n < k → k < plan.ahead
      → b ≡ block_of plan.p 3 k (cat (cell_piece plan.p t.cells ((k - (1 + t.core.n)) / plan.row) ((k - (1 + t.core.n)) % plan.row)) (cells_in plan.p)) → b ≡ block_at plan.p (model_of t) k
  unfolding block_at cell_part
  cells_at h g eb =
      let l : k < 1 + t.core.n + per_desk plan.p t.core.m * t.core.n = rw (P.opens_from, P.row) at g in
      rw (eb, ne_eqb k 0 (λ z. omega arith), lt-leb k t.core.n h, lt-ltb k _ l, P.row)

  pub opens-at-place : t.core.n < k → plan.ahead ≤ k
      → b ≡ block_of plan.p 4 k (cat (open_piece plan.p t.opens order plan.count (k - plan.ahead)) (opens_in plan.p)) → b ≡ block_at plan.p (model_of t) k
  unfolding block_at open_part
  opens-at-place h g eb =
      let e = plan.ahead in
      let q : e ≡ 1 + t.core.n + per_desk plan.p t.core.m * t.core.n = P.opens_from ∙ rw P.row in
      let l : 1 + t.core.n + per_desk plan.p t.core.m * t.core.n ≤ k = rw q at g in
      let f : open_piece plan.p t.opens order plan.count (k - e) ≡ open_part plan.p (model_of t) (k - e) = fun_ext (λ j. P.piece (opens_in plan.p * (k - e) + j)) in
      rw (eb, f, ne_eqb k 0 (λ z. omega arith), lt-leb k t.core.n h, le-ltb k _ l, q)

-- all of them
module _ {t : Table} {order : List ℕ} {plan : Plan} (P : Planned t order plan) where
  abbrev s : State
  s = model_of t

  pub planned_wide : Wide plan.p
  planned_wide = wide plan.p P.most

  pub encoded : encode s ≡ encode_at plan.p s
  encoded = ap (λ (p : ℕ). encode_at p s) (sym P.p_is)

  pub all_blocks : (out : List ℕ) {out' : List ℕ} {k : ℕ} → out' ≡ sets out 0 (cat (block_at plan.p s) k) → k ≡ plan.total → out' ≡ sets out 0 (encode s)
  all_blocks out e q = e ∙ rw (q, P.total_is, ← encode-is plan.p s, encoded)

  -- b is the image exactly if each of its blocks is
  pub blocks-same : (b : List ℕ) → length b ≡ block_bytes * plan.total
      → ((k : ℕ) → k < plan.total → block_at plan.p s k ≡ block_in b k) → encode s ≡ b
  blocks-same b l h =
      encoded ∙ encode-is plan.p s ∙ rw (← P.total_is) (cat_parts (block_at plan.p s) block_bytes plan.total b l h)
