use Rattle.std.proofs.Common.{rules}
use Rattle.std.specs.Prelude.{◌≡◌, ◌<◌, ◌∷◌}
use Rattle.laws.specs.{Kit.{arith, length, []}, Owned.{unmapped, at_own}}
use Rattle.table.specs.{Value.{entries, open0, FullOpen}, declared.Open.{Open}}
use Rattle.table.specs.contracts.Open.{the_type}
use Rattle.table.proofs.Open.TheLaws.{the_laws, the_copy}
use borrow.Kind.Array.{e_struct}
use mir.Val.{Val}
use denote.Shadow.{shadow}
use Rattle.table.proofs.open_values.Goals as goal

-- what owning an entry tells of its lists
full_open : (x : Open) (u : Val) → shadow ((e_struct the_type the_laws the_copy).ty.own_val x (u ∷ [])) → FullOpen x
full_open x u o = record { vector = search (rules, unmapped); marks = search (rules, unmapped) }

pub returns : goal.returns
returns c = let n : length c.args.opens ≡ entries = search (rules, unmapped) in
    record {
      count = n;
      each = λ i h. (let b : i < length c.args.opens = omega arith in
          at_own Open FullOpen (e_struct the_type the_laws the_copy).ty.own_val c.args.opens _ i open0 b c.well_formed.0.1.1 full_open);
    }
