use Rattle.std.proofs.Common.{arith}
use Rattle.image_reload.proofs.step.Goals as goal

pub shared_ref_as_front-result : goal.shared_ref_as_front-result
shared_ref_as_front-result c = let r = c.run-p.ensures c.requires.session c.requires.holds in omega (arith, r.len_is, r.fits, c.saturating_sub.ensures)

pub returns : goal.returns
returns c = let r = c.run-p.ensures c.requires.session c.requires.holds in record { session = r.session; holds = r.holds }
