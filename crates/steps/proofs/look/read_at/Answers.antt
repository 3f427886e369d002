use Rattle.std.specs.Prelude.{◌≡◌}
use Rattle.laws.specs.{Kit.{refl, sym, ◌∙◌, inl, inr, ap, not, eqb}, Loop.{cases}}
use Rattle.table.specs.declared.Cell.{Cell}
use Rattle.reply.specs.{declared.Refusal.{Refusal}, declared.Answer.TheVariants.{Refused}}
use Rattle.steps.specs.{Turn.{Turn}, Mirror.Look.{shown_cell}}
use Rattle.machine.specs.Within.{says-within}
use Rattle.reply.specs.declared.Refusal.TheVariants.{NoDesk, NoCell}
use Rattle.steps.specs.{Link.LookStepped.{stops, passes, refused_on, stepped_as}, Link.Look.{read-stepped}}
use Rattle.steps.proofs.look.read_at.Goals as goal

pub returns-in_err-need-clause-turn : goal.returns-in_err-need-clause-turn
returns-in_err-need-clause-turn c ds os own p =
    let f = c.in_err-need.ensures.fails in
    refused_on p _ NoDesk _ c.from_residual.ensures.1 f.1 (inl (stops (says-within _ _) c.inside.ensures (ap not f.0), refl))

pub returns-in_err-need-2-clause-turn : goal.returns-in_err-need-2-clause-turn
returns-in_err-need-2-clause-turn c ds os own p =
    let f = c.in_err-need-2.ensures.fails in
    refused_on p _ NoCell _ c.from_residual-in_err-need-2.ensures.1 f.1
    (inr (
      passes (says-within _ _) c.inside.ensures (ap not c.in_ok-need.ensures.passes),
      inl (stops (says-within _ _) c.inside-2.ensures (ap not f.0), refl),
    ))

pub returns-clause-turn : goal.returns-clause-turn
returns-clause-turn c ds os own p =
    stepped_as c.look.ensures
    (read-stepped p (passes (says-within _ _) c.inside.ensures (ap not c.in_ok-need.ensures.passes)) _
    (passes (says-within _ _) c.inside-2.ensures (ap not c.in_ok-need-2.ensures.passes)))

-- what a cell shows is no refusal
shown_apart : (c : Cell) (why : Refusal) → shown_cell c ≡ Refused why → ⊥
unfolding shown_cell
shown_apart c why e = cases (eqb c.writer 0) (λ t. let f = rw t at e in cc) (λ t. let f = rw t at e in cc)

pub returns-clause-apart : goal.returns-clause-apart
returns-clause-apart c why e = shown_apart _ why (sym (ap (λ (t : Turn). t.answer) c.look.ensures) ∙ e)
