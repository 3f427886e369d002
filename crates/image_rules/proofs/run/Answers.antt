use Rattle.std.proofs.Common.{length, sym, ap, ◌∙◌, arith}
use Rattle.reader.specs.Ended.{ended_on}
use Rattle.image_rules.proofs.run.Goals as goal

pub loop-reader-smaller : goal.loop-reader-smaller
loop-reader-smaller g c =
    let i = c.loop-reader.invariant in
    let r = c.loop-reader.reader in
    let f = ended_on r.text.now r.at (omega (arith, ap length i.0, i.2)) (sym c.ended.ensures ∙ c.loop-reader-test.true) in
    omega (arith, f.0, f.1, ap length i.0, c.after-reader.ensures.1)

pub loop-reader-preserved : goal.loop-reader-preserved
loop-reader-preserved g c =
    let i = c.loop-reader.invariant in
    let r = c.loop-reader.reader in
    let f = ended_on r.text.now r.at (omega (arith, ap length i.0, i.2)) (sym c.ended.ensures ∙ c.loop-reader-test.true) in
    (ap (λ t. t.now) c.after-reader.ensures.0 ∙ i.0, omega (arith, f.0, c.after-reader.ensures.1, c.in_ok-from.ensures), omega (arith, f.1, ap length i.0, c.after-reader.ensures.1))
