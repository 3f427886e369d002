use Rattle.block.specs.Limits.{payload_at, payload_bytes, block_bytes, open_bytes, opens_in, fit, piece_inside}
use Rattle.image.specs.Mirror.Filled.{filled_block}
use Rattle.image.specs.Mirror.RawBytes.{open_raw}
use Rattle.image.specs.Mirror.TableBytes.{open_piece, length-open_piece, open-there, open-past}
use Rattle.std.specs.Prelude.{◌≡◌, ◌+◌, ◌*◌, ◌≤◌, ◌<◌}
use Rattle.std.proofs.Common.{rules}
use Rattle.std.proofs.iter.Serving.{serving}
use Rattle.laws.specs.Kit.{ℕ, ap, get_or, ◌∙◌, arith, sets}
use Rattle.table.specs.Value.{open_at}
use Rattle.image.proofs.open_block.Goals as goal
use Rattle.image.proofs.open_block.Goals.{After-opens_in-room}

-- the first open write of the block
first : (c : After-opens_in-room) → (let A = c.args in c.opens_in-room.result * A.q ≡ opens_in A.p * A.q)
first c = ap (λ (x : ℕ). x * c.args.q) c.opens_in-room.ensures.0

-- the j-th of the block lies within it
pub records_block-requires-clause-callable : goal.records_block-requires-clause-callable
records_block-requires-clause-callable c = λ j b h.
    let A = c.args in
    let few : j < opens_in A.p = omega arith in
    let k : c.open_bytes.result * j + open_bytes A.p ≤ payload_bytes = rw c.open_bytes.ensures (piece_inside (open_bytes A.p) j few) in
    let inside : payload_at + c.open_bytes.result * j + open_bytes A.p ≤ block_bytes = omega (arith, k) in
    let x : c.opens_in-room.result * A.q + j < A.count = omega arith in
    let fits = c.requires.1.1.each (c.opens_in-room.result * A.q + j) x in
    let there = fits.0 in
    let small = fits.1 in
    let most = c.requires.1.1.few in
    grind serving

pub returns : goal.returns
returns c =
    let A = c.args in
    let f = open_piece A.p A.opens.now A.order.now A.count A.q in
    let w = c.open_bytes.result in
    let e = first (goal.at.returns c).After-opens_in-room in
    filled_block _ _ f w (λ j. rw c.open_bytes.ensures (length-open_piece A.p A.opens.now A.order.now A.count A.q j)) (opens_in A.p) c.records_block.ensures (omega arith) (rw c.open_bytes.ensures (fit (open_bytes A.p)))
    (λ j a b h m.
    let t = open-there A.p A.opens.now A.order.now A.count A.q j (omega (arith, e)) (ap (λ (x : ℕ). open_at A.opens.now (get_or A.order.now (x + j) 0)) e) in
    let z : b.now ≡ sets a.now (payload_at + w * j) (open_raw A.p (open_at A.opens.now (get_or A.order.now (c.opens_in-room.result * A.q + j) 0))) = search rules in
    z ∙ ap (sets a.now (payload_at + w * j)) t)
    (λ j g m. rw c.open_bytes.ensures (open-past A.p A.opens.now A.order.now A.count A.q j (omega (arith, e))))
