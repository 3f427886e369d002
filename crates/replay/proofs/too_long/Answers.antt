use Rattle.session.specs.TranscriptLaws.{transcript-long}
use Rattle.replay.specs.Answers.{long_comes}
use Rattle.replay.proofs.too_long.Goals as goal

pub print-done-requires : goal.print-done-requires
print-done-requires g c = long_comes _ c.requires

pub all_sent-requires : goal.all_sent-requires
all_sent-requires g c = rw (transcript-long _ c.requires)

pub returns : goal.returns
returns g c = rw (transcript-long _ c.requires) c.print-done.ensures
