use Rattle.laws.specs.Kit.{arith, length, take_all}
use Rattle.session.specs.Transcript.{transcript_from}
use Rattle.capi.specs.Link.CallFrom.{both_put}
use Rattle.capi.proofs.put_answers.Goals as goal

pub returns : goal.returns
returns c w h =
    let a = c.args in
    let first = a.first.now in
    rw (take_all (length first) first (omega arith)) at (both_put first (length first) (transcript_from w a.text.now a.at) a.answers.now (omega arith) c.copy.ensures (c.lines.ensures w h).stored)
