use Rattle.block.specs.Limits.{payload_at, payload_bytes, block_bytes, cell_bytes, cells_in, fit, first-inside, piece_inside}
use Rattle.image.specs.Mirror.Filled.{filled_block}
use Rattle.image.specs.{Mirror.RawBytes.{cell_raw}, Mirror.TableBytes.{cell_piece, length-cell_piece, cell-there, cell_past}}
use Rattle.std.specs.Prelude.{◌≡◌, ◌+◌, ◌*◌, ◌≤◌, ◌<◌}
use Rattle.std.proofs.Common.{rules}
use Rattle.std.proofs.iter.Serving.{serving}
use Rattle.laws.specs.Kit.{ℕ, ap, refl, ◌∙◌, arith, sets}
use Rattle.table.specs.Value.{desk_cells, cell_at}
use Rattle.image.proofs.cell_block.Goals as goal
use Rattle.image.proofs.cell_block.Goals.{After-cells_in-room}

-- the first cell of the block
first : (c : After-cells_in-room) → (let A = c.args in (c.cells_in-room.result * A.q ≡ cells_in A.p * A.q) × (cells_in A.p * A.q < desk_cells))
first c =
    let A = c.args in
    let r = c.cells_in-room.ensures in
    (ap (λ (x : ℕ). x * A.q) r.0, first-inside (cells_in A.p) desk_cells A.q (rw r.0 at r.1.0) c.requires.1.1.0)

pub records_block-requires-clause-callable : goal.records_block-requires-clause-callable
records_block-requires-clause-callable c = λ j b h.
    let A = c.args in
    let e = first (goal.at.records_block-requires-clause-callable c).After-cells_in-room in
    let few : j < cells_in A.p = omega arith in
    let x : c.cells_in-room.result * A.q + j < desk_cells = omega (arith, e) in
    let s : A.i * desk_cells + (c.cells_in-room.result * A.q + j) < 1024 = omega (arith, x) in
    let t = cell-there A.p A.cells.now A.i (cells_in A.p * A.q + j) (A.i * desk_cells + (c.cells_in-room.result * A.q + j)) _ c.requires.1.0 (omega (arith, e)) (omega (arith, e)) c.requires.1.1.1 refl in
    let small = t.small in
    let wr = small.writer in
    let st = small.status in
    let inside : payload_at + c.cell_bytes.result * j + cell_bytes A.p ≤ block_bytes = let k : c.cell_bytes.result * j + cell_bytes A.p ≤ payload_bytes = rw c.cell_bytes.ensures (piece_inside (cell_bytes A.p) j few) in omega (arith, k) in
    grind serving

pub returns : goal.returns
unfolding cell_raw
returns c =
    let A = c.args in
    let f = cell_piece A.p A.cells.now A.i A.q in
    let w = c.cell_bytes.result in
    let e = first (goal.at.returns c).After-cells_in-room in
    filled_block _ _ f w (λ j. rw c.cell_bytes.ensures (length-cell_piece A.p A.cells.now A.i A.q j)) (cells_in A.p) c.records_block.ensures (omega arith) (rw c.cell_bytes.ensures (fit (cell_bytes A.p)))
    (λ j a b h m.
    let t = cell-there A.p A.cells.now A.i (cells_in A.p * A.q + j) (A.i * desk_cells + (c.cells_in-room.result * A.q + j)) _ c.requires.1.0 (omega (arith, e)) (omega (arith, e)) c.requires.1.1.1 refl in
    let z : b.now ≡ sets a.now (payload_at + w * j) (cell_raw A.p (cell_at A.cells.now (A.i * desk_cells + (c.cells_in-room.result * A.q + j)))) = search rules in
    z ∙ ap (sets a.now (payload_at + w * j)) t.bytes)
    (λ j g m. rw c.cell_bytes.ensures (cell_past A.p A.cells.now A.i A.q j (omega (arith, e))))
