use Rattle.std.proofs.Common.{rules}
use mir.{Val.{Fits}, Syntax.{w16}}
use Rattle.std.specs.Prelude.{◌-◌}
use Rattle.laws.specs.Kit.{refl, sym, ap, get_or}
use Rattle.clock.specs.Vectors.{places, place, place_at}
use Rattle.machine.specs.{Table.{name}, Steps.{is_none}}
use Rattle.machine.proofs.Ready.{NamesFailing, failing-at, fails-lacks}
use Rattle.steps.proofs.deliver.missing.Goals as goal
use Rattle.steps.proofs.deliver.missing.Goals.{In_ok-missing}

-- it is a write that the vector counts, so its number is a place's
named : (c : goal.In_ok-missing) → (let g = c.args in NamesFailing places (place g.a) g.u (place g.v) (name c.in_ok-missing.missing.desk c.in_ok-missing.missing.number))
named c = failing-at places _ _ _ _ (sym c.in_ok-missing.ensures)

pub returns : goal.returns
returns c = record { what = name c.in_ok-missing.missing.desk c.in_ok-missing.missing.number; named = sym c.in_ok-missing.ensures; is = refl }

pub overflow_cast-result : goal.overflow_cast-result
overflow_cast-result c = let f = named (goal.at.overflow_cast-result c).In_ok-missing in search rules

pub overflow_cast-result-2 : goal.overflow_cast-result-2
overflow_cast-result-2 c =
    let g = c.args in
    let f = named (goal.at.overflow_cast-result-2 c).In_ok-missing in
    let t = c.in_ok-missing.missing.desk in
    let l = fails-lacks (place g.a) g.u (place g.v) c.requires t f.there in
    let h : Fits w16 (get_or g.v (t - 1) 0) = search rules in
    let e = place_at g.v t f.desk.0 in
    search rules

pub returns-in_err-missing : goal.returns-in_err-missing
returns-in_err-missing c = rw c.from_residual.ensures (ap is_none (sym c.in_err-missing.ensures))
