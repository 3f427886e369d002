use Rattle.laws.specs.Kit.{arith}
use Rattle.capi.specs.Link.CallFrom.{run-refused, ran_behind}
use Rattle.capi.proofs.run_from.Goals as goal

pub returns-then-text-gt-LONGEST_TEXT : goal.returns-then-text-gt-LONGEST_TEXT
returns-then-text-gt-LONGEST_TEXT c z h =
    let a = c.args in
    run-refused z a.text.now a.answers.now a.image_out.now a.lengths.now (λ m. omega (arith, m.text_room, m.lengths_room, c.then-text-gt-LONGEST_TEXT.either))

pub returns-then-p-text : goal.returns-then-p-text
returns-then-p-text c z h = let r = c.run-p.ensures z h in c.finish.ensures z r.session r.holds (ran_behind r)

pub returns-else-p-text : goal.returns-else-p-text
returns-else-p-text c z h =
    let r = c.run-p.ensures z h in
    c.end.ensures c.args.text.now c.run-p.result.at (omega (arith, c.if-text-gt-LONGEST_TEXT.false)) c.if-p-text.false z r.session r.holds (ran_behind r)
