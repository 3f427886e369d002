use Rattle.std.specs.Prelude.{Some}
use Rattle.laws.specs.Kit.{refl, ap, ◌∙◌}
use Rattle.schedule.specs.declared.Line.{Line}
use Rattle.machine.specs.Steps as steps
use Rattle.steps.specs.Turn.{answer_in}
use Rattle.session.specs.Link.LineTurn.{acted_step, acted_quiet}
use Rattle.session.proofs.act.Goals as goal

pub deliver_at-requires : goal.deliver_at-requires
deliver_at-requires c = let a = rw (c.in-Some-Deliver.is ∙ ap (λ (x : Line). Some x) (rw c.in-Some-Deliver.is at c.in-Some-Deliver.field-0-is)) at c.requires.1 in (_, a.desks, a.placed)

pub read_at-requires : goal.read_at-requires
read_at-requires c = let a = rw (c.in-Some-Read.is ∙ ap (λ (x : Line). Some x) (rw c.in-Some-Read.is at c.in-Some-Read.field-0-is)) at c.requires.1 in record { desks = a.desks; opens = _; own = _; placed = a.placed }

pub write_at-requires : goal.write_at-requires
write_at-requires c = let a = rw (c.in-Some-Write.is ∙ ap (λ (x : Line). Some x) (rw c.in-Some-Write.is at c.in-Some-Write.field-0-is)) at c.requires.1 in record { desks = a.desks; own = _; placed = a.placed }

pub trip_at-requires : goal.trip_at-requires
trip_at-requires c = let a = rw (c.in-Some-Trip.is ∙ ap (λ (x : Line). Some x) (rw c.in-Some-Trip.is at c.in-Some-Trip.field-0-is)) at c.requires.1 in record { desks = a.desks; opens = _; own = _; placed = a.placed }

pub returns-in-Some-Deliver : goal.returns-in-Some-Deliver
returns-in-Some-Deliver c ds p =
    let e = c.in-Some-Deliver.is ∙ ap (λ (x : Line). Some x) (rw c.in-Some-Deliver.is at c.in-Some-Deliver.field-0-is) in
    rw e (acted_step (steps.Deliver _ _ _) (c.deliver_at.ensures.turn _ ds (rw e at p)).stepped)

pub returns-in-Some-Read : goal.returns-in-Some-Read
returns-in-Some-Read c ds p =
    let e = c.in-Some-Read.is ∙ ap (λ (x : Line). Some x) (rw c.in-Some-Read.is at c.in-Some-Read.field-0-is) in
    rw e (acted_quiet (steps.Read _ _) (answer_in c.read_at.result) c.args.names.now refl (c.read_at.ensures.turn ds _ _ (rw e at p)))

pub returns-in-Some-Write : goal.returns-in-Some-Write
returns-in-Some-Write c ds p =
    let e = c.in-Some-Write.is ∙ ap (λ (x : Line). Some x) (rw c.in-Some-Write.is at c.in-Some-Write.field-0-is) in
    rw e (acted_quiet (steps.Write _ _ _) (answer_in c.write_at.result) c.args.names.now refl (c.write_at.ensures.turn ds _ (rw e at p)))

pub returns-in-Some-Trip : goal.returns-in-Some-Trip
returns-in-Some-Trip c ds p =
    let e = c.in-Some-Trip.is ∙ ap (λ (x : Line). Some x) (rw c.in-Some-Trip.is at c.in-Some-Trip.field-0-is) in
    rw e (acted_quiet (steps.Trip _ _) (answer_in c.trip_at.result) c.args.names.now refl (c.trip_at.ensures.turn ds _ _ (rw e at p)))
