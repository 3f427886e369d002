use Rattle.std.specs.Prelude.{◌≡◌}
use Rattle.laws.specs.{Kit.{length, lt-leb, sym, ◌∙◌, arith}, Says.{apart, says-eqb, says_as}}
use Rattle.clock.specs.Vectors.{places}
use Rattle.machine.specs.{Steps.{begins}, Rules.{In}}
use Rattle.rules.specs.Mirror.Test.{sizes_test}
use Rattle.table.specs.Value.{desk_cells, entries}
use Rattle.block.specs.Limits.{places-most, desks-placed}
use Rattle.image.specs.Decode.{n_in, m_in, count_in}
use Rattle.load.specs.Mirror.ImageRead.{says-no}
use Rattle.load.proofs.sizes_fit.Goals as goal
use Rattle.load.proofs.sizes_fit.Goals.{After-from-count, Else-not-begins}

-- the sizes that were read
told : (c : goal.After-from-count) → (let b = c.args.b.now in (c.from-n.result ≡ n_in b) × ((c.from-m.result ≡ m_in b) × (c.from-count.result ≡ count_in b)))
told c = (c.from-n.ensures, (c.from-m.ensures, c.from-count.ensures))

-- behind the test of both
in_range : (c : goal.Else-not-begins) → In places c.from-n.result × In desk_cells c.from-m.result
in_range c = (sizes_test _ _).says.to (sym c.begins.ensures ∙ c.if-not-begins.false)

pub returns-then-not-begins : goal.returns-then-not-begins
returns-then-not-begins c =
    let t = told (goal.at.returns-then-not-begins c).After-from-count in
    says-no (λ h. let n = c.from-n.result in let m = c.from-m.result in apart (begins n m) ((sizes_test n m).says.from (rw t.0 (h.desks.0, omega (arith, h.desks.1, places-most (n_in c.args.b.now))), rw t.1.0 h.cells)) (sym c.begins.ensures ∙ c.if-not-begins.true))

pub returns-then-count-le-OPENS : goal.returns-then-count-le-OPENS
returns-then-count-le-OPENS c =
    let t = told (goal.at.returns-then-count-le-OPENS c).After-from-count in
    let g = in_range (goal.at.returns-then-count-le-OPENS c).Else-not-begins in
    says_as _ (says-eqb (length c.args.b.now) c.length_of.result)
    (λ e. record { desks = rw (← t.0) (g.0.0, desks-placed _ g.0.1); cells = rw (← t.1.0) g.1; few = omega (arith, t.1.1, c.if-count-le-OPENS.true); size = rw (t.0, t.1.0, t.1.1) at (e ∙ c.length_of.ensures) })
    (λ h. h.size ∙ sym (rw (t.0, t.1.0, t.1.1) at c.length_of.ensures))

pub returns-else-count-le-OPENS : goal.returns-else-count-le-OPENS
returns-else-count-le-OPENS c = let t = told (goal.at.returns-else-count-le-OPENS c).After-from-count in rw (lt-leb c.from-count.result entries c.if-count-le-OPENS.false) (says-no (λ h. omega (arith, t, h.few, c.if-count-le-OPENS.false)))
