use Rattle.std.specs.Prelude.{◌+◌, ◌-◌, ◌≡◌}
use Rattle.laws.specs.{Kit.{none, some, length}, Loop.{scan}}
use Rattle.machine.specs.Table.{State, most_open}
use Rattle.table.specs.{Value.{open_at}, Model.{open_m}}
use Rattle.steps.specs.Link.Cascade.{midst, from, due_in, Running, NextReady, CascadeGoing, Safe}
use Rattle.steps.proofs.deliver.cascade.Given as goal

abbrev pub invariant-loop-t : goal.invariant-loop-t
invariant-loop-t l = scan (due_in l.counts l.own l.opens l.i) some none (l.n + 1 - l.t) l.t ≡ scan (due_in l.counts l.own l.opens l.i) some none l.n 1

abbrev pub invariant-apply : goal.invariant-apply
invariant-apply l =
    Safe l.n l.i l.counts l.opens l.len l.writer l.entry × (length l.names ≡ most_open) × ((b : State) → Running b l.n l.i l.initial.counts l.own l.initial.cells l.initial.opens → NextReady l.n l.initial.counts l.initial.opens l.initial.writer l.initial.entry
    → CascadeGoing (from most_open (midst b l.i l.initial.counts l.initial.cells l.initial.opens) l.i l.initial.writer
    (open_m (open_at l.initial.opens l.initial.entry))) b l.n l.i l.counts l.own l.cells l.opens l.initial.names l.names l.len l.writer l.entry)

abbrev pub decreases-apply : goal.decreases-apply
decreases-apply l = most_open - l.len
