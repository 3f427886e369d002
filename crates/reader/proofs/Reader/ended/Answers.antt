use Rattle.schedule.specs.Link.LineLaws.{ended_end}
use Rattle.reader.proofs.Reader.ended.Goals as goal

pub returns : goal.returns
returns c = rw c.end.ensures (ended_end _ _)
