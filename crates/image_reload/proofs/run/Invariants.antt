use Rattle.std.specs.Prelude.{◌≡◌, ◌≤◌, ◌-◌, length}
use Rattle.image_reload.specs.Live.{BothLive}
use Rattle.image_reload.proofs.run.Given as goal

abbrev pub invariant-loop-reader : goal.invariant-loop-reader
invariant-loop-reader g l = (l.reader.text.now ≡ l.text) × (l.reader.at ≤ length l.text) × BothLive l.t

abbrev pub decreases-loop-reader : goal.decreases-loop-reader
decreases-loop-reader g l = length l.text - l.reader.at
