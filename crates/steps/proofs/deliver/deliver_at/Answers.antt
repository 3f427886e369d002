use Rattle.std.specs.Prelude.{◌-◌, ◌<◌, ◌≡◌, get_or}
use Rattle.laws.specs.Kit.{refl, sym, ◌∙◌, true, eqb-true, eqb-false}
use Rattle.clock.specs.Vectors.{place, place_at}
use Rattle.reply.specs.declared.Refusal.TheVariants.{Received}
use Rattle.table.specs.{Value.{entries, open_at}, EntryNames.{named_at, found_at}, Link.OpensModel.{found_none}}
use Rattle.steps.specs.Link.Deliver.{failed, known, none_open, known_open, meets_refused_on, arrival}
use Rattle.steps.specs.Link.Deliver.{meets_received}
use Rattle.steps.proofs.deliver.deliver_at.Goals as goal
use Rattle.steps.proofs.deliver.deliver_at.Goals.{In_ok-e}

entry : (c : goal.In_ok-e) → (let g = c.args in (c.in_ok-e.e < entries) × (named_at g.opens.now g.u g.k c.in_ok-e.e ≡ true))
entry c = found_at _ c.find.result _ c.find.ensures c.in_ok-e.ensures.ok_part

mark-is : (c : goal.In_ok-e) → (let g = c.args in get_or (open_at g.opens.now c.in_ok-e.e).marks (g.i - 1) 0 ≡ place (open_at g.opens.now c.in_ok-e.e).marks g.i)
mark-is c = sym (place_at (open_at c.args.opens.now c.in_ok-e.e).marks c.args.i c.in_ok-tests.ensures.0.0.0)

pub returns-in_err-tests-clause-turn : goal.returns-in_err-tests-clause-turn
returns-in_err-tests-clause-turn c m ds p =
    let g = c.args in
    meets_refused_on p g.u g.k _ g.names.now _ c.from_residual.ensures.1 refl (failed p g.u g.k _ c.in_err-tests.ensures)

pub returns-in_err-e-clause-turn : goal.returns-in_err-e-clause-turn
returns-in_err-e-clause-turn c m ds p =
    let g = c.args in
    let a = c.in_ok-tests.ensures in
    let f = c.in_err-e.ensures in
    let none = f.ok_part in
    let why : c.in_err-e.field-0.0 ≡ Received = let v = rw none at f.value in cc in
    meets_refused_on p g.u g.k Received g.names.now _ c.from_residual-in_err-e.ensures.1 why
    (known p g.u g.k a (none_open p g.u g.k a (found_none g.opens.now g.u g.k c.find.result c.find.ensures none)))

pub returns-in_err-need-clause-turn : goal.returns-in_err-need-clause-turn
returns-in_err-need-clause-turn c m ds p =
    let w = goal.at.returns-in_err-need-clause-turn c in
    let h = entry w.In_ok-e in
    let g = c.args in
    let a = c.in_ok-tests.ensures in
    let f = c.in_err-need.ensures.fails in
    meets_refused_on p g.u g.k Received g.names.now _ c.from_residual-in_err-need.ensures.1 f.1
    (known p g.u g.k a (known_open p g.u g.k a _ h.0 h.1 (λ q. eqb-false _ _ f.0 (mark-is w.In_ok-e ∙ q))))

pub receive-requires : goal.receive-requires
receive-requires c =
    let w = goal.at.receive-requires c in
    let h = entry w.In_ok-e in
    let g = c.args in
    let q = sym (mark-is w.In_ok-e) ∙ eqb-true _ _ c.in_ok-need.ensures.passes in
    (_, _, arrival c.requires.2 g.u g.k c.in_ok-tests.ensures _ h.0 h.1 q)

pub returns-clause-turn : goal.returns-clause-turn
returns-clause-turn c m ds p =
    let w = goal.at.returns-clause-turn c in
    let h = entry w.In_ok-e in
    let g = c.args in
    let a = c.in_ok-tests.ensures in
    let q = sym (mark-is w.In_ok-e) ∙ eqb-true _ _ c.in_ok-need.ensures.passes in
    meets_received p g.u g.k a _ h.0 h.1 q (c.receive.ensures.turn _ _ (arrival p g.u g.k a _ h.0 h.1 q))
