use Rattle.block.specs.Limits.{cell_bytes}
use Rattle.image.specs.Decode.{cell_place}
use Rattle.table.specs.Value.{desk_cells}
use Rattle.load.specs.Mirror.ImageRead.{Within, cell_where, cell_for}
use Rattle.std.specs.Prelude.{◌<◌, ◌*◌, ◌/◌, ◌%◌}
use Rattle.laws.specs.Kit.{lt-ltb, le-ltb, arith, ◌∙◌}
use Rattle.load.proofs.Layout.cell_or.Goals as goal
use Rattle.load.proofs.Layout.cell_or.Goals.{After-cells_in-room}

-- where the cell stands
stands : (c : goal.After-cells_in-room)
    → (let A = c.args in
    let z = A.self.now in
    let x = A.s % desk_cells in
    Within z.p A.self.now.b.now z.n (z.c * (A.s / desk_cells)) (x / c.cells_in-room.result) (c.cell_bytes-w.result * (x % c.cells_in-room.result)) (cell_bytes z.p) (cell_place z.p z.n z.m (A.s / desk_cells) x))
stands c =
    let A = c.args in
    let z = A.self.now in
    let S = c.requires.0 in
    rw (c.cell_bytes-w.ensures, c.cells_in-room.ensures.0)
    (cell_where z.p S.most A.self.now.b.now S.fits z.n z.m (A.s / desk_cells) (A.s % desk_cells) z.c S.n_is S.m_is S.c_is (omega (arith, c.requires.1)) c.if-x-self.true)

pub read_cell-requires : goal.read_cell-requires
read_cell-requires c = let w = stands (goal.at.read_cell-requires c).After-cells_in-room in (c.requires.0.most, omega (arith, w.is, w.ends, c.field_place-at.ensures))

pub returns-then-x-self : goal.returns-then-x-self
unfolding cell_for
returns-then-x-self c =
    let A = c.args in
    let i : A.s / desk_cells < A.self.now.n = omega (arith, c.requires.1) in
    c.read_cell.ensures ∙ rw (lt-ltb _ _ i, lt-ltb _ _ c.if-x-self.true, c.field_place-at.ensures ∙ (stands (goal.at.returns-then-x-self c).After-cells_in-room).is)

pub returns : goal.returns
unfolding cell_for
returns c =
    let A = c.args in
    let i : A.s / desk_cells < A.self.now.n = omega (arith, c.requires.1) in
    rw (lt-ltb _ _ i, le-ltb _ _ c.if-x-self.false)
