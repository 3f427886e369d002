use Rattle.std.proofs.lemmas.Result.{err_from_is_err_and}
use Rattle.laws.specs.Kit.{refl, arith}
use Rattle.session.specs.Transcript.{session_from}
use Rattle.capi.specs.Link.CallFrom.{run-refused, run-accepted, all_left, all-long, all_put}
use Rattle.capi.proofs.finish.Goals as goal

pub returns-in_err-room : goal.returns-in_err-room
returns-in_err-room c z w h b =
    let a = c.args in
    let l = c.lines-e.ensures w h in
    let e = c.in_err-room.ensures in
    let p = err_from_is_err_and c.from_residual.result c.from_residual.ensures.1 in
    rw (l.stored, p.1, p.2, e.0) (run-refused z a.text.now a.answers.now a.image_out.now a.lengths.now
    (λ m. e.1 (session_from z a.text.now 0) c.lines-e.new.cells c.lines-e.new.opens (all_left b l) (omega (arith, m.answers_room, all-long b l refl)) m.image_room))

pub returns : goal.returns
returns c z w h b =
    let a = c.args in
    let l = c.lines-e.ensures w h in
    let e = c.in_ok-room.ensures in
    let y = all_left b l in
    let i = c.save.ensures (session_from z a.text.now 0) y in
    rw i.1 (run-accepted z a.text.now a.answers.now a.image_out.now a.lengths.now
    (record { text_room = c.requires.lengths.0; answers_room = omega (arith, e.0, all-long b l refl); image_room = e.1 (session_from z a.text.now 0) c.lines-e.new.cells c.lines-e.new.opens y; lengths_room = c.requires.lengths.1 })
    (all_put b a.answers.now l.stored (c.put_answers.ensures w h))
    i.0 (all-long b l refl) refl)
