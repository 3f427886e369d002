use Rattle.image_reload.specs.Live.{live_none, live_loaded}
use Rattle.image_reload.proofs.loaded.Goals as goal

pub returns-in_ok-print-in-Ok : goal.returns-in_ok-print-in-Ok
returns-in_ok-print-in-Ok g c = live_loaded _ c.in-Ok.t c.in-Ok.ensures

pub returns-in_ok-print-in-Err : goal.returns-in_ok-print-in-Err
returns-in_ok-print-in-Err g c = rw c.fresh.ensures live_none
