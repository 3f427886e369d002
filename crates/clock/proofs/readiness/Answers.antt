use Rattle.std.proofs.Common.{rules}
use Rattle.std.specs.Prelude.{◌+◌}
use Rattle.laws.specs.{Kit.{ℕ, refl, sym, ap, ◌∙◌, some}, Loop.{scan-here, scan-next, scan_end}}
use Rattle.machine.specs.{Table.{name}, Steps.{failing}}
use Rattle.clock.specs.Vectors.{places}
use Rattle.clock.proofs.readiness.Goals as goal

pub loop-desk-init : goal.loop-desk-init
unfolding failing
loop-desk-init c = refl

pub returns-then-fails : goal.returns-then-fails
returns-then-fails c = let L = c.loop-desk in
    ap (λ (j : ℕ). some (name L.desk j)) c.first_unapplied.ensures ∙ sym (scan-here _ _ _ (places + 1) L.desk (search rules) (cc)) ∙ L.invariant

pub loop-desk-preserved : goal.loop-desk-preserved
loop-desk-preserved c = let L = c.loop-desk in sym (scan-next _ _ _ (places + 1) L.desk (search rules) (cc)) ∙ L.invariant

pub returns : goal.returns
returns c = let L = c.loop-desk in sym (scan_end _ _ _ (places + 1) L.desk (search rules)) ∙ L.invariant
