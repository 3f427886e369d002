use Rattle.std.proofs.Common.{rules}
use Rattle.std.specs.Prelude.{◌≡◌, ◌<◌, ◌∷◌}
use Rattle.laws.specs.{Kit.{arith, length, []}, Owned.{unmapped, at_own}}
use Rattle.table.specs.{Value.{all_cells, cell0, FullCell}, declared.Cell.{Cell}}
use Rattle.table.specs.contracts.Cell.{the_type}
use Rattle.table.proofs.Cell.TheLaws.{the_laws, the_copy}
use borrow.Kind.Array.{e_struct}
use mir.Val.{Val}
use denote.Shadow.{shadow}
use Rattle.table.proofs.cell_values.Goals as goal

-- what owning a cell tells of its list
full_cell : (x : Cell) (u : Val) → shadow ((e_struct the_type the_laws the_copy).ty.own_val x (u ∷ [])) → FullCell x
full_cell x u o = record { vector = search (rules, unmapped) }

pub returns : goal.returns
returns c = let n : length c.args.cells ≡ all_cells = search (rules, unmapped) in
    record {
      count = n;
      each = λ i h. (let b : i < length c.args.cells = omega arith in
          at_own Cell FullCell (e_struct the_type the_laws the_copy).ty.own_val c.args.cells _ i cell0 b c.well_formed.0.1.1 full_cell);
    }
