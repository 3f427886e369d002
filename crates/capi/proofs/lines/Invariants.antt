use Rattle.std.specs.Prelude.{◌-◌, ◌≡◌}
use Rattle.laws.specs.Kit.{length}
use Rattle.session.specs.{Session.{Session}, Holds.{Holds}}
use Rattle.capi.specs.{Mirror.AccessParts.{most_part}, Link.RunsOfLines.{Lining}}
use Rattle.table.specs.Model.{table_with}
use Rattle.capi.proofs.lines.Given as goal

abbrev pub invariant-loop-place : goal.invariant-loop-place
invariant-loop-place l =
    (length l.part ≡ most_part) × ((z : Session) → Holds (table_with l.initial.core l.initial.cells l.initial.opens) z → Lining z l.text l.initial.place l.put l.initial.out l.from (table_with l.core l.cells l.opens) l.place l.len l.out)

abbrev pub decreases-loop-place : goal.decreases-loop-place
decreases-loop-place l = length l.text - l.place
