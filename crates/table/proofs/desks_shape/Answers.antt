use Rattle.std.proofs.Common.{rules}
use Rattle.clock.specs.Vectors.{places}
use Rattle.std.specs.Prelude.{◌≡◌, ◌<◌, ◌∷◌}
use Rattle.laws.specs.{Kit.{arith, length, []}, Owned.{unmapped, at_own}}
use Rattle.table.specs.{Value.{desk0}, TypeShape.{DeskShape}, declared.Desk.{Desk}}
use Rattle.table.specs.contracts.Desk.{the_type}
use Rattle.table.proofs.Desk.TheLaws.{the_laws, the_copy}
use borrow.Kind.Array.{e_struct}
use mir.Val.{Val}
use denote.Shadow.{shadow}
use Rattle.table.proofs.desks_shape.Goals as goal

-- what owning a desk tells of its lists
desk_shape : (x : Desk) (u : Val) → shadow ((e_struct the_type the_laws the_copy).ty.own_val x (u ∷ [])) → DeskShape x
desk_shape x u o = record { applied = search (rules, unmapped); clock = search (rules, unmapped) }

pub returns : goal.returns
returns c = let n : length c.args.desks ≡ places = search (rules, unmapped) in
    record {
      count = n;
      each = λ i h. (let b : i < length c.args.desks = omega arith in
          at_own Desk DeskShape (e_struct the_type the_laws the_copy).ty.own_val c.args.desks _ i desk0 b c.well_formed.0.1.1 desk_shape);
    }
