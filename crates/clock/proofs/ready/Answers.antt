use Rattle.std.proofs.Common.{rules}
use Rattle.std.specs.Prelude.{◌≡◌}
use Rattle.laws.specs.Kit.{sym, ◌∙◌, length}
use Rattle.machine.specs.Rules.{In}
use Rattle.clock.specs.{Vectors.{places}, Readiness.{ready_out, ready_late, ready-next}}
use Rattle.clock.proofs.ready.Goals as goal

pub returns-then-not-contains : goal.returns-then-not-contains
returns-then-not-contains c = let g = c.args in
    let out : In places g.u → ⊥ = search rules in
    c.covers.ensures ∙ sym (ready_out places g.a g.v g.u out)

pub returns-then-from : goal.returns-then-from
returns-then-from c = let g = c.args in
    sym (ready_late places g.a g.v g.u (search rules) (λ q. c.if-from.true (search rules)))

pub returns : goal.returns
returns c = let g = c.args in
    let n : length g.v ≡ places = search rules in
    c.covers-2.ensures ∙ sym (ready-next places g.a g.v g.u (search rules) (search rules))
