use Rattle.std.proofs.Common.{rules}
use Rattle.std.specs.Prelude.{◌≡◌}
use Rattle.laws.specs.Kit.{sym, ◌∙◌, true}
use Rattle.clock.specs.{Readiness.{ready_at}}
use Rattle.table.specs.Value.{open_at}
use Rattle.steps.specs.Link.DeliverReceive.{missing-some, missing-none, next_of_arrival, late_here, received-ready, received-held}
use Rattle.steps.proofs.deliver.receive.Goals as goal
use Rattle.steps.proofs.deliver.receive.Goals.{In-Some, Joined-else-not-ready, else-not-ready-via-else-not-ready, else-not-ready-via-then-not-ready+in-None-1}

pub missing-requires : goal.missing-requires
missing-requires c = late_here c.requires.2

pub returns-clause-turn : goal.returns-clause-turn
returns-clause-turn c b k r = received-held c.args.names.now c.args.desk.now r (missing-some _ _ _ c.missing.result c.missing.ensures c.in-Some.is) c.put_mark.ensures.is

-- the other way: it is ready
is-ready : (c : goal.Joined-else-not-ready) → (let g = c.args in ready_at g.desk.now.applied (open_at g.opens.now g.e).vector g.u ≡ true)
is-ready c =
    (elim c.else-not-ready.branch [
      | else-not-ready-via-else-not-ready w ↦ sym c.ready.ensures ∙ w.if-not-ready.false
      | else-not-ready-via-then-not-ready+in-None-1 w ↦ missing-none _ _ _ w.missing.result w.missing.ensures (search rules)
    ])

pub cascade-len-requires : goal.cascade-len-requires
cascade-len-requires c =
    let p = c.requires in
    (p.0, p.2.running, next_of_arrival p.2 (is-ready (goal.at.cascade-len-requires c).Joined-else-not-ready))

pub returns-2-clause-turn : goal.returns-2-clause-turn
returns-2-clause-turn c b k r = received-ready c.args.desk.now r (is-ready (goal.at.returns-2-clause-turn c).Joined-else-not-ready) c.cascade-len.ensures
