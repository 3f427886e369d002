use Rattle.image_reload.specs.Live.{live_none}
use Rattle.image_reload.proofs.nothing.Goals as goal

pub returns : goal.returns
returns c = rw c.fresh-none.ensures (live_none, live_none)
