use Rattle.std.proofs.Common.{refl, ap, ◌∙◌, ◌≤◌, length, length-take-le, arith}
use Rattle.std.proofs.Math.{Option.{none}, Seq.{length-sets}}
use Rattle.session.specs.Holds.{zero-holds}
use Rattle.image_rules.proofs.replay.Goals as goal

pub run-p-requires : goal.run-p-requires
run-p-requires g c = rw c.start-core.ensures zero-holds

pub slice_bounds-out-end : goal.slice_bounds-out-end
slice_bounds-out-end g c =
    let r = c.run-p.ensures none (rw c.start-core.ensures refl) in
    omega (arith, r.len_is, r.fits, ap length r.stored ∙ length-sets _ 0 r.lines)

pub slice_bounds-write_all-end : goal.slice_bounds-write_all-end
slice_bounds-write_all-end g c =
    let r = c.run-p.ensures none (rw c.start-core.ensures refl) in
    let n : c.run-p.result.len ≤ length c.run-p.new.out = omega (arith, r.len_is, r.fits, ap length r.stored ∙ length-sets _ 0 r.lines) in
    omega (arith, length-take-le c.run-p.result.len c.run-p.new.out n)
