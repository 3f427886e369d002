use Rattle.std.specs.Prelude.{◌≤◌}
use Rattle.laws.specs.Kit.{ap, ◌∙◌, arith, rules, length, length-sets, length-take-le}
use Rattle.session.specs.{Transcript.{transcript}, Run.{ran_progress}}
use Rattle.table.specs.Value.{unset_cell, free_open}
use Rattle.replay.specs.Answers.{reading_start, reading_comes, reading_sum, reading_on, reading_end}
use Rattle.replay.specs.Answers.{written-none, written-on, written-all}
use Rattle.replay.proofs.lines.Goals as goal

pub loop-at-init : goal.loop-at-init
loop-at-init g c = record {
  going = rw c.start-core.ensures (reading_start c.requires);
  room = search rules;
  written = written-none _ (transcript c.args.text.now);
}

pub run-p-requires : goal.run-p-requires
run-p-requires g c = let r = c.loop-at.invariant.going in record { session = r.session; holds = r.holds }

pub overflow_add-next : goal.overflow_add-next
overflow_add-next g c =
    let r = c.loop-at.invariant.going in
    record { fits = omega (arith, reading_sum r (c.run-p.ensures r.session r.holds)) }

pub slice_bounds-out-end : goal.slice_bounds-out-end
slice_bounds-out-end g c =
    let r = c.run-p.ensures c.loop-at.invariant.going.session c.loop-at.invariant.going.holds in
    omega (arith, r.len_is, r.fits, ap length r.stored ∙ length-sets c.loop-at.out 0 r.lines)

pub slice_bounds-print-end : goal.slice_bounds-print-end
slice_bounds-print-end g c =
    let r = c.run-p.ensures c.loop-at.invariant.going.session c.loop-at.invariant.going.holds in
    let n : c.run-p.result.len ≤ length c.run-p.new.out = omega (arith, r.len_is, r.fits, ap length r.stored ∙ length-sets c.loop-at.out 0 r.lines) in
    omega (arith, length-take-le c.run-p.result.len c.run-p.new.out n)

pub print-requires : goal.print-requires
print-requires g c =
    let r = c.loop-at.invariant.going in
    reading_comes r (c.run-p.ensures r.session r.holds)

pub loop-at-smaller : goal.loop-at-smaller
loop-at-smaller g c =
    let r = c.run-p.ensures c.loop-at.invariant.going.session c.loop-at.invariant.going.holds in
    let h = c.loop-at-test.true in
    omega (arith, h, ran_progress r h (omega (arith, c.loop-at.invariant.room)))

pub loop-at-preserved : goal.loop-at-preserved
loop-at-preserved g c =
    let i = c.loop-at.invariant in
    let r = c.run-p.ensures i.going.session i.going.holds in
    record {
      going = reading_on i.going r;
      room = ap length r.stored ∙ length-sets c.loop-at.out 0 r.lines ∙ i.room;
      written = written-on _ _ _ (reading_comes i.going r) i.written c.in_ok-print.ensures;
    }

pub all_sent-requires : goal.all_sent-requires
all_sent-requires g c = reading_end c.loop-at.invariant.going c.loop-at-test.false

pub returns : goal.returns
returns g c =
    let i = c.loop-at.invariant in
    written-all _ _ (transcript c.args.text.now) _ (reading_end i.going c.loop-at-test.false) i.written
