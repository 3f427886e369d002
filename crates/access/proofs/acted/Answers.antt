use Rattle.std.proofs.Common.{of_calls}
use Rattle.std.specs.Prelude.{◌≡◌}
use Rattle.laws.specs.Kit.{refl, sym, ap, ◌∙◌, not, inl, inr, arith, ℕ, get_or}
use Rattle.clock.specs.Vectors.{places}
use Rattle.table.specs.Value.{desk0}
use Rattle.rules.specs.Mirror.Test.{owns}
use Rattle.steps.specs.{Stepped.{Placed}, Seat.{seat_of, seat_is}, Link.LookStepped.{stops}}
use Rattle.access.specs.Met.{placed}
use Rattle.access.proofs.acted.Given.{Over}
use Rattle.access.proofs.acted.Goals as goal
use Rattle.access.proofs.acted.Goals.{After-seat-p}

module _ (g : Over) (c : goal.After-seat-p g) where
  stands : get_or c.args.t.core.desks (seat_of c.args.i) desk0 ≡ get_or c.args.t.core.desks c.seat-p.result desk0
  stands = ap (λ (k : ℕ). get_or c.args.t.core.desks k desk0) (sym c.seat-p.ensures.0)

  here : Placed c.args.t (owns c.args.t.core.desks) c.args.i (get_or c.args.t.core.desks c.seat-p.result desk0)
  here =
      placed c.keeps_rules.ensures (ap not c.if-not-keeps_rules.false) c.table_shape.ensures refl
      (λ h. ap (λ (k : ℕ). get_or c.args.t.core.desks k desk0) (sym (seat_is places c.args.i (omega arith) h)) ∙ stands)

pub step-made-requires : goal.step-made-requires
step-made-requires g c =
    let p = here g (goal.at.step-made-requires g c).After-seat-p in
    let h = c.requires _ p in search of_calls parts 8

pub returns-then-not-keeps_rules : goal.returns-then-not-keeps_rules
returns-then-not-keeps_rules g c = inl (stops c.keeps_rules.ensures refl (ap not c.if-not-keeps_rules.true), refl)

pub returns : goal.returns
returns g c =
    let w = (goal.at.returns g c).After-seat-p in
    inr (record {
      desk = _;
      here = stands g w;
      placed = here g w;
      made = c.step-made.result;
      left = _;
      cells = c.step-made.new.arg3;
      opens = c.step-made.new.arg4;
      names = c.step-made.new.arg5;
      gives = record { desk = _; cells = _; opens = _; beside = _; shows = (refl, refl, refl, refl); desk_left = _; cells_left = _; opens_left = _; beside_left = _; leaves = (refl, refl, refl, refl); met = c.step-made.ensures };
      is = rw (c.said.ensures, c.seat-p.ensures.0);
    })
