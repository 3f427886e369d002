use Rattle.std.proofs.lemmas.Result.{err_from_is_err_and}
use Rattle.laws.specs.Kit.{refl, ◌∙◌}
use Rattle.table.specs.{Beginning.{fresh_table}}
use Rattle.image.specs.Load.{fault_refusal}
use Rattle.load.specs.Loading.{fault_of}
use Rattle.capi.specs.Link.ImageStart.{call-refused, call-begun}
use Rattle.capi.proofs.run_saved.Goals as goal

pub start-requires : goal.start-requires
unfolding fresh_table
start-requires c = (refl, refl)

pub returns-in_err-core : goal.returns-in_err-core
returns-in_err-core c =
    let a = c.args in
    let p = err_from_is_err_and c.from_residual.result c.from_residual.ensures.1 in
    rw (p.1, p.2) (call-refused a.image.now a.schedule.now a.answers.now a.image_out.now a.lengths.now (fault_refusal (fault_of _)) c.in_err-core.ensures)

pub returns : goal.returns
returns c =
    let a = c.args in
    let s = c.in_ok-core.ensures in
    c.run_from.ensures s.session s.holds ∙ call-begun a.image.now a.schedule.now a.answers.now a.image_out.now a.lengths.now s
