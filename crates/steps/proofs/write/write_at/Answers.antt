use Rattle.std.specs.Prelude.{◌<◌, ◌≤◌}
use Rattle.laws.specs.Kit.{refl, inl, inr, ap, not, leb-true, ltb-true}
use Rattle.laws.specs.Says.{says-leb, says-ltb}
use Rattle.machine.specs.{Table.{most_status, most_writes}, Rules.{In}, Within.{says-within}}
use Rattle.reply.specs.declared.Refusal.TheVariants.{NoDesk, NoCell, NoStatus, Spent, Full}
use Rattle.steps.specs.{Link.LookStepped.{stops, passes, refused_on, stepped_as}, OpenCount.{full_many}}
use Rattle.steps.specs.Link.Write.{written_start, write-stepped}
use Rattle.steps.proofs.write.write_at.Goals as goal
use Rattle.steps.proofs.write.write_at.Goals.{In_ok-need-2, In_ok-need-3, In_ok-need-4}

-- the rows that have passed
placed : (k : goal.In_ok-need-2) → (let g = k.args in In g.n g.i × In g.m g.x)
placed k = (
  passes (says-within _ _) k.inside.ensures (ap not k.in_ok-need.ensures.passes),
  passes (says-within _ _) k.inside-2.ensures (ap not k.in_ok-need-2.ensures.passes),
)

status : (k : goal.In_ok-need-3) → k.args.v ≤ most_status
status k = leb-true _ _ k.in_ok-need-3.ensures.passes

unspent : (k : goal.In_ok-need-4) → k.at_place-k.result < most_writes
unspent k = ltb-true _ _ k.in_ok-need-4.ensures.passes

pub returns-in_err-need-clause-turn : goal.returns-in_err-need-clause-turn
returns-in_err-need-clause-turn c ds own p =
    let f = c.in_err-need.ensures.fails in
    refused_on p _ NoDesk _ c.from_residual.ensures.1 f.1 (inl (stops (says-within _ _) c.inside.ensures (ap not f.0), refl))

pub returns-in_err-need-2-clause-turn : goal.returns-in_err-need-2-clause-turn
returns-in_err-need-2-clause-turn c ds own p =
    let f = c.in_err-need-2.ensures.fails in
    refused_on p _ NoCell _ c.from_residual-in_err-need-2.ensures.1 f.1
    (inr (
      passes (says-within _ _) c.inside.ensures (ap not c.in_ok-need.ensures.passes),
      inl (stops (says-within _ _) c.inside-2.ensures (ap not f.0), refl),
    ))

pub returns-in_err-need-3-clause-turn : goal.returns-in_err-need-3-clause-turn
returns-in_err-need-3-clause-turn c ds own p =
    let f = c.in_err-need-3.ensures.fails in
    let r = placed (goal.at.returns-in_err-need-3-clause-turn c).In_ok-need-2 in
    refused_on p _ NoStatus _ c.from_residual-in_err-need-3.ensures.1 f.1
    (inr (r.0, inr (r.1, inl (stops (says-leb _ _) refl (ap not f.0), refl))))

pub returns-in_err-need-4-clause-turn : goal.returns-in_err-need-4-clause-turn
returns-in_err-need-4-clause-turn c ds own p =
    let f = c.in_err-need-4.ensures.fails in
    let w = goal.at.returns-in_err-need-4-clause-turn c in
    let r = placed w.In_ok-need-2 in
    let spent = stops (says-ltb _ _) refl (ap not f.0) in
    refused_on p _ Spent _ c.from_residual-in_err-need-4.ensures.1 f.1
    (inr (r.0, inr (r.1, inr (status w.In_ok-need-3, inl (rw (written_start p r.0, ← c.at_place-k.ensures) spent, refl)))))

pub returns-in_err-spot-clause-turn : goal.returns-in_err-spot-clause-turn
returns-in_err-spot-clause-turn c ds own p =
    let f = c.in_err-spot.ensures in
    let w = goal.at.returns-in_err-spot-clause-turn c in
    let r = placed w.In_ok-need-2 in
    refused_on p _ Full _ c.from_residual-in_err-spot.ensures.1 f.0
    (inr (r.0, inr (r.1, inr (status w.In_ok-need-3, inr (rw (written_start p r.0, ← c.at_place-k.ensures) (unspent w.In_ok-need-4), inl (full_many p.sound f.1.1, refl))))))

pub returns-clause-turn : goal.returns-clause-turn
returns-clause-turn c ds own p =
    let w = goal.at.returns-clause-turn c in
    let r = placed w.In_ok-need-2 in
    let e = c.write.ensures in
    rw (e.cells, e.opens) (stepped_as e.turn
    (write-stepped p r.0 (rw (← c.at_place-k.ensures) (unspent w.In_ok-need-4)) _ _ r.1 _ (status w.In_ok-need-3) c.in_ok-spot.ensures))
