use Rattle.image.proofs.SavedIsImage.{planned_length}
use Rattle.laws.specs.{Says.{clash}, Kit.{length, ne_eqb, sym, ap, ◌∙◌}}
use Rattle.image.proofs.is_image.Goals as goal

pub returns-else-b-plan : goal.returns-else-b-plan
returns-else-b-plan c =
    let P = c.planned-plan.ensures in
    rw (ne_eqb _ _ c.if-b-plan.false) (record { to = λ e. clash e; from = λ e. absurd (c.if-b-plan.false (sym (ap length e) ∙ planned_length P)) })
