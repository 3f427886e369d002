use Rattle.std.specs.Prelude.{◌≡◌, ◌≢◌}
use Rattle.laws.specs.Kit.{arith, length}
use Rattle.table.specs.Model.{table_with}
use Rattle.load.specs.Loading.{zeros_so}
use Rattle.capi.specs.Link.ImageStart.{empty_starts, image-starts}
use Rattle.capi.proofs.start.Goals as goal

pub returns-then-is_empty : goal.returns-then-is_empty
returns-then-is_empty c =
    let k = c.fresh_core in
    let a = c.args in
    let e : length a.image.now ≡ 0 = grind arith in
    empty_starts a.image.now (table_with k.result a.cells.now a.opens.now) e (zeros_so k.ensures c.requires.0 c.requires.1)

pub returns : goal.returns
returns c =
    let l = c.load_into in
    let n : length c.args.image.now ≢ 0 = grind arith in
    image-starts c.args.image.now l.result l.new.cells l.new.opens n l.ensures
