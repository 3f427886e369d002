use Rattle.std.specs.Prelude.{◌≡◌, ◌-◌}
use Rattle.laws.specs.Kit.{length, take}
use Rattle.std.specs.Io.KnownBytes.{Appends}
use Rattle.session.specs.Transcript.{transcript}
use Rattle.replay.specs.Answers.{Reading}
use Rattle.replay.proofs.lines.Given as goal

abbrev pub invariant-loop-at : goal.invariant-loop-at
invariant-loop-at g l = record {
  going : Reading l.text l.core l.cells l.opens l.at l.sent;
  room : length l.out ≡ 16384;
  written : Appends (g.W.Write.contents l.initial.to) (g.W.Write.contents l.to) (take l.sent (transcript l.text));
}

abbrev pub decreases-loop-at : goal.decreases-loop-at
decreases-loop-at g l = length l.text - l.at
