use Rattle.std.proofs.Common.{rules}
use Rattle.std.specs.Prelude.{◌<◌}
use Rattle.laws.specs.{Kit.{arith, get_or}, Owned.{unmapped}}
use Rattle.table.specs.{Model.{table_with}, TypeShape.{Shaped, each_full}}
use Rattle.rules.specs.{Link.CodeLaws.{fit_of}, TestIsRules.{keeps-says}}
use Rattle.rules.proofs.keeps_rules.Goals as goal

pub returns : goal.returns
returns c = let g = c.args in
    let e = c.own_counts-own.ensures in
    let s : Shaped (table_with g.core g.cells.now g.opens.now) = record { desks = c.desks_shape.ensures; cells = c.cells_shape.ensures; opens = c.opens_shape.ensures } in
    rw (c.passes.ensures, e) (keeps-says _ (each_full s) (fit_of _ _ e (λ t. let b : get_or c.own_counts-own.result t 0 < 65536 = search (rules, unmapped) in omega arith)))
