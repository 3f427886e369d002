use Rattle.std.proofs.Common.{rules}
use Rattle.block.specs.Limits.{places-most, desks-placed}
use Rattle.image.specs.Link.SavedIsImage.{Planned}
use Rattle.image.proofs.SavedIsImage.{known, planned}
use Rattle.table.specs.Model.{table_with}
use Rattle.std.specs.Prelude.{◌+◌}
use Rattle.laws.specs.Kit.{arith, ◌∙◌}
use Rattle.image.proofs.planned.Goals as goal
use Rattle.image.proofs.planned.Goals.{After-blocks_for}

-- once all blocks are counted
plan : (c : goal.After-blocks_for)
    → (let A = c.args in
    let o = c.order_all-count in
    let e = c.cells_end-ahead.result in
    Planned (table_with A.core A.cells.now A.opens.now) o.new.order
    (record { p = c.places_for-p.result; count = o.result; row = c.per_desk-row.result; ahead = e; total = e + c.blocks_for.result }))
plan c =
    let A = c.args in
    let ok = c.requires in
    let p = c.places_for-p.ensures in
    planned _ p.1 ok (rw p.0 (desks-placed A.core.n ok.rules.frame.ranges.desks.1)) c.order_all-count.ensures p.0 c.per_desk-row.ensures.0 c.cells_end-ahead.ensures.0 (c.blocks_for.ensures.0 ∙ rw c.opens_in.ensures.0)

pub order_all-count-requires : goal.order_all-count-requires
order_all-count-requires c =
    let A = c.args in
    let ok = c.requires in
    let n = ok.rules.frame.ranges.desks.1 in
    (n, (search rules, known _ (places-most A.core.n) ok (desks-placed A.core.n n)))

pub blocks_for-requires : goal.blocks_for-requires
blocks_for-requires c =
    let A = c.args in
    let ok = c.requires in
    let e = c.opens_in.ensures in
    (e.1.0, (e.1.1, omega (arith, c.order_all-count.ensures.size, (known _ (places-most A.core.n) ok (desks-placed A.core.n ok.rules.frame.ranges.desks.1)).few)))

pub returns : goal.returns
returns c = plan c
