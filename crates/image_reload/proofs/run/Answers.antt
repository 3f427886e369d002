use Rattle.std.proofs.Common.{length, length-drop, sym, ap, ◌∙◌, arith}
use Rattle.reader.specs.Ended.{ended_on}
use Rattle.image_reload.proofs.run.Goals as goal

pub slice_bounds-one-count : goal.slice_bounds-one-count
slice_bounds-one-count g c =
    let i = c.loop-reader.invariant in
    let r = c.loop-reader.reader in
    let f = ended_on r.text.now r.at (omega (arith, ap length i.0, i.1)) (sym c.ended.ensures ∙ c.loop-reader-test.true) in
    omega (arith, f.0, c.after-next.ensures.1)

pub slice_bounds-one-start : goal.slice_bounds-one-start
slice_bounds-one-start g c =
    let i = c.loop-reader.invariant in
    let r = c.loop-reader.reader in
    let f = ended_on r.text.now r.at (omega (arith, ap length i.0, i.1)) (sym c.ended.ensures ∙ c.loop-reader-test.true) in
    omega (arith, f.0, f.1, ap length i.0, c.after-next.ensures.1)

pub slice_bounds-one-end : goal.slice_bounds-one-end
slice_bounds-one-end g c =
    let i = c.loop-reader.invariant in
    let r = c.loop-reader.reader in
    let f = ended_on r.text.now r.at (omega (arith, ap length i.0, i.1)) (sym c.ended.ensures ∙ c.loop-reader-test.true) in
    omega (arith, length-drop r.at c.args.text.now, f.1, ap length i.0, c.after-next.ensures.1)

pub loop-reader-smaller : goal.loop-reader-smaller
loop-reader-smaller g c =
    let i = c.loop-reader.invariant in
    let r = c.loop-reader.reader in
    let f = ended_on r.text.now r.at (omega (arith, ap length i.0, i.1)) (sym c.ended.ensures ∙ c.loop-reader-test.true) in
    omega (arith, f.0, f.1, ap length i.0, c.after-next.ensures.1)

pub loop-reader-preserved : goal.loop-reader-preserved
loop-reader-preserved g c =
    let i = c.loop-reader.invariant in
    let r = c.loop-reader.reader in
    let f = ended_on r.text.now r.at (omega (arith, ap length i.0, i.1)) (sym c.ended.ensures ∙ c.loop-reader-test.true) in
    (ap (λ t. t.now) c.after-next.ensures.0 ∙ i.0, omega (arith, f.1, ap length i.0, c.after-next.ensures.1), c.in_ok-t.ensures)
