use Rattle.std.proofs.Common.{rules}
use Rattle.laws.specs.{Kit.{sym, ◌∙◌}, Lists.{every-at}}
use Rattle.machine.specs.{Steps.{within}, Within.{says-within}}
use Rattle.table.specs.Value.{desk_cells}
use Rattle.steps.specs.Mirror.Trip.{see_next, see_end}
use Rattle.steps.proofs.look.see_all.Goals as goal

pub slot_of-requires : goal.slot_of-requires
slot_of-requires c =
    let l = c.args.list.now in
    (c.requires.0, rw c.from.ensures ((says-within _ _).to (every-at (within desk_cells) l c.loop-x.x-index 0 c.loop-x-test.true c.requires.1)))

pub loop-x-preserved : goal.loop-x-preserved
loop-x-preserved c =
    let L = c.loop-x in
    rw (c.see-s.ensures, c.slot_of.ensures.0, c.from.ensures)
    (sym (see_next c.args.cells.now c.args.i L.s c.args.list.now L.x-index c.loop-x-test.true) ∙ L.invariant)

pub returns : goal.returns
returns c =
    let L = c.loop-x in
    sym (see_end c.args.cells.now c.args.i L.s c.args.list.now L.x-index (search rules)) ∙ L.invariant
