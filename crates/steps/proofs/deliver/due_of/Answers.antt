use Rattle.std.specs.Prelude.{◌+◌, ◌-◌, ◌<◌, ◌≤◌, ◌≡◌, ◌&&◌}
use Rattle.laws.specs.Kit.{ℕ, suc, refl, sym, ap, ◌∙◌, true, arith, add-one, eq-eqb, ne_eqb, eqb, List, get_or}
use Rattle.laws.specs.Loop.{cases}
use Rattle.machine.specs.Table.{held}
use Rattle.clock.specs.{Vectors.{place, place_at}, Readiness.{ready_at}}
use Rattle.table.specs.{Value.{entries, open_at}, EntryNames.{named_at}, Link.OpensModel.{opens-none}}
use Rattle.steps.specs.Link.Cascade.{due_in, due_late, due-none, due-held}
use Rattle.steps.proofs.deliver.due_of.Goals as goal
use Rattle.steps.proofs.deliver.due_of.Goals.{In_ok-e}

-- the number that is searched for is that of the writer's next write
next-is : (u : ℕ) (a : List ℕ) → 1 ≤ u → get_or a (u - 1) 0 + 1 ≡ suc (place a u)
next-is u a h = add-one _ ∙ ap suc (sym (place_at a u h))

entry : (c : goal.In_ok-e) → (let g = c.args in
    (c.in_ok-e.e < entries) × (named_at g.opens.now g.u (suc (place g.a g.u)) c.in_ok-e.e ≡ true))
entry c = let f = c.in_ok-e.ensures in (f.0, rw (← next-is c.args.u c.args.a c.requires.1.0.0) f.1)

-- with the count below the writer's own
due : (c : goal.In_ok-e) → (let g = c.args in
    place g.a g.u < place g.own g.u
    → due_in g.a g.own g.opens.now g.i g.u ≡ (eqb (get_or (open_at g.opens.now c.in_ok-e.e).marks (g.i - 1) 0) held && ready_at g.a (open_at g.opens.now c.in_ok-e.e).vector g.u))
due c l =
    let g = c.args in
    let p = c.requires in
    let h = entry c in
    due-held g.a g.own g.opens.now g.i g.u _ _ p.0.0 l p.1.1 h.0 h.1 refl

late : (u : ℕ) (a own : List ℕ) → 1 ≤ u → get_or a (u - 1) 0 < get_or own (u - 1) 0 → place a u < place own u
late u a own h f = omega (arith, place_at a u h, place_at own u h, f)

pub returns-then-own-u : goal.returns-then-own-u
returns-then-own-u c =
    let g = c.args in
    let h = c.requires.1.0.0 in
    due_late g.a g.own g.opens.now g.i g.u (omega (arith, place_at g.a g.u h, place_at g.own g.u h, c.if-own-u.true))

pub returns-in_err-e : goal.returns-in_err-e
returns-in_err-e c =
    let g = c.args in
    let none = opens-none g.opens.now g.u (suc (place g.a g.u)) (rw (← next-is g.u g.a c.requires.1.0.0) c.in_err-e.ensures) in
    rw c.from_residual.ensures (due-none g.a g.own g.opens.now g.i g.u none)

pub returns-then-opens-e-ne-HELD : goal.returns-then-opens-e-ne-HELD
returns-then-opens-e-ne-HELD c =
    let g = c.args in
    due (goal.at.returns-then-opens-e-ne-HELD c).In_ok-e (late g.u g.a g.own c.requires.1.0.0 c.if-own-u.false) ∙ rw (ne_eqb _ _ c.if-opens-e-ne-HELD.true)

pub returns : goal.returns
returns c =
    let g = c.args in
    let w = (goal.at.returns c).In_ok-e in
    let h = entry w in
    let d = due w (late g.u g.a g.own c.requires.1.0.0 c.if-own-u.false) ∙ rw (eq-eqb _ _ c.if-opens-e-ne-HELD.false) (sym c.ready.ensures) in
    rw c.then_some.ensures (cases c.ready.result
    (λ t. rw t (record { is_due = d ∙ t; small = h.0; holds = h.1; is_ready = sym c.ready.ensures ∙ t }))
    (λ t. rw t (d ∙ t)))
