use Rattle.std.specs.Prelude.{◌-◌}
use Rattle.laws.specs.Kit.{length}
use Rattle.table.specs.Model.{table_with}
use Rattle.session.specs.Run.{InLoop}
use Rattle.session.proofs.run.Given as goal

abbrev pub invariant-loop-place : goal.invariant-loop-place
invariant-loop-place l =
    InLoop (table_with l.initial.running.core l.initial.cells l.initial.opens) l.text l.initial.place l.initial.out l.running.own (table_with l.running.core l.cells l.opens) l.place l.len l.out

abbrev pub decreases-loop-place : goal.decreases-loop-place
decreases-loop-place l = length l.text - l.place
