use Rattle.laws.specs.{Kit.{refl, inl, inr, ap, not}, Lists.{says-every}}
use Rattle.machine.specs.Within.{says-within}
use Rattle.reply.specs.declared.Refusal.TheVariants.{NoDesk, NoCell, TripSize}
use Rattle.steps.specs.{Link.LookStepped.{stops, passes, in_places, in_cells, refused_on, stepped_as}, Link.LookTrip.{trip_stepped}}
use Rattle.steps.proofs.look.trip_at.Goals as goal

pub returns-in_err-need-clause-turn : goal.returns-in_err-need-clause-turn
returns-in_err-need-clause-turn c ds os own p =
    let f = c.in_err-need.ensures.fails in
    refused_on p _ NoDesk _ c.from_residual.ensures.1 f.1 (inl (stops (says-within _ _) c.inside.ensures (ap not f.0), refl))

pub returns-in_err-need-2-clause-turn : goal.returns-in_err-need-2-clause-turn
returns-in_err-need-2-clause-turn c ds os own p =
    let f = c.in_err-need-2.ensures.fails in
    refused_on p _ TripSize _ c.from_residual-in_err-need-2.ensures.1 f.1
    (inr (
      passes (says-within _ _) c.inside.ensures (ap not c.in_ok-need.ensures.passes),
      inl (stops (says-within _ _) c.inside-2.ensures (ap not f.0), refl),
    ))

pub returns-in_err-need-3-clause-turn : goal.returns-in_err-need-3-clause-turn
returns-in_err-need-3-clause-turn c ds os own p =
    let f = c.in_err-need-3.ensures.fails in
    refused_on p _ NoCell _ c.from_residual-in_err-need-3.ensures.1 f.1
    (inr (
      passes (says-within _ _) c.inside.ensures (ap not c.in_ok-need.ensures.passes),
      inr (
        passes (says-within _ _) c.inside-2.ensures (ap not c.in_ok-need-2.ensures.passes),
        inl (stops (says-every _ (says-within _) _) c.all_inside.ensures (ap not f.0), refl),
      ),
    ))

pub travel-requires : goal.travel-requires
travel-requires c =
    let p = c.requires.placed in
    let all = passes (says-every _ (says-within _) _) c.all_inside.ensures (ap not c.in_ok-need-3.ensures.passes) in (
      in_places p (passes (says-within _ _) c.inside.ensures (ap not c.in_ok-need.ensures.passes)),
      (says-every _ (says-within _) _).from (λ x h. in_cells p (all x h)),
    )

pub returns-clause-turn : goal.returns-clause-turn
returns-clause-turn c ds os own p =
    stepped_as c.travel.ensures
    (trip_stepped p (passes (says-within _ _) c.inside.ensures (ap not c.in_ok-need.ensures.passes)) _
    (passes (says-within _ _) c.inside-2.ensures (ap not c.in_ok-need-2.ensures.passes))
    (passes (says-every _ (says-within _) _) c.all_inside.ensures (ap not c.in_ok-need-3.ensures.passes)))
