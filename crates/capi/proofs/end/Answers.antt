use Rattle.std.proofs.lemmas.Result.{err_from_is_err_and}
use Rattle.laws.specs.Kit.{List, ℕ, refl, sym, ap, ◌∙◌, arith, length, take_all, sets}
use Rattle.table.specs.Model.{table_with}
use Rattle.session.specs.Transcript.{session_from}
use Rattle.capi.specs.Link.CallFrom.{run-refused, run-accepted, first-all, first-left}
use Rattle.capi.proofs.end.Goals as goal

pub returns-in_err-room : goal.returns-in_err-room
returns-in_err-room c text at t h z w g b =
    let a = c.args in
    let e = c.in_err-room.ensures in
    let p = err_from_is_err_and c.from_residual.result c.from_residual.ensures.1 in
    rw (p.1, p.2, e.0) (run-refused z text a.answers.now a.image_out.now a.lengths.now
    (λ m. e.1 (session_from z text 0) a.cells.now a.opens.now (first-left b h (table_with a.core a.cells.now a.opens.now) g) (omega (arith, m.answers_room, ap length (first-all b h))) m.image_room))

pub returns : goal.returns
returns c text at t h z w g b =
    let a = c.args in
    let e = c.in_ok-room.ensures in
    let y = first-left b h (table_with a.core a.cells.now a.opens.now) g in
    let i = c.save.ensures (session_from z text 0) y in
    rw i.1 (run-accepted z text a.answers.now a.image_out.now a.lengths.now
    (record { text_room = t; answers_room = omega (arith, e.0, ap length (first-all b h)); image_room = e.1 (session_from z text 0) a.cells.now a.opens.now y; lengths_room = c.requires.lengths })
    (c.copy.ensures ∙ ap (λ (l : List ℕ). sets a.answers.now 0 l) (take_all (length a.first.now) a.first.now (omega arith) ∙ sym (first-all b h)))
    i.0 (ap length (sym (first-all b h))) refl)
