use Rattle.block.specs.Limits.{open_bytes}
use Rattle.image.specs.Decode.{open_place}
use Rattle.load.specs.Mirror.ImageRead.{Within, open-where}
use Rattle.std.specs.Prelude.{◌*◌, ◌/◌, ◌%◌}
use Rattle.laws.specs.Kit.{arith}
use Rattle.load.proofs.Layout.open_of.Goals as goal
use Rattle.load.proofs.Layout.open_of.Goals.{After-opens_in-room}

-- where the open write stands
stands : (c : goal.After-opens_in-room)
    → (let A = c.args in
    let z = A.self.now in
    Within z.p A.self.now.b.now z.n (z.c * z.n) (A.j / c.opens_in-room.result) (c.open_bytes-w.result * (A.j % c.opens_in-room.result)) (open_bytes z.p) (open_place z.p z.n z.m A.j))
stands c =
    let A = c.args in
    let z = A.self.now in
    let S = c.requires.0 in
    rw (c.open_bytes-w.ensures, c.opens_in-room.ensures.0)
    (open-where z.p S.most A.self.now.b.now S.fits z.n z.m A.j z.c z.count S.n_is S.m_is S.c_is S.count_is c.requires.1)

pub field_place-at-requires : goal.field_place-at-requires
field_place-at-requires c = let w = stands (goal.at.field_place-at-requires c).After-opens_in-room in (omega (arith, w.desks, c.requires.0.most), (w.before, (w.block, w.payload)))

pub read_open-requires : goal.read_open-requires
read_open-requires c = let w = stands (goal.at.read_open-requires c).After-opens_in-room in (c.requires.0.most, omega (arith, w.is, w.ends, c.field_place-at.ensures))
