use Rattle.std.proofs.Common.{rules}
use Rattle.std.specs.Prelude.{◌<◌}
use Rattle.laws.specs.{Kit.{refl, ◌∙◌, arith, length}, Stores.{stored-long}}
use Rattle.session.proofs.RunGoesOn.{going_on}
use Rattle.session.specs.Run.{going_start, going_end, said-is, next_place}
use Rattle.session.proofs.run.Goals as goal
use Rattle.session.proofs.run.Goals.{then-loop-place-test+else-out-len-ge-LONGEST_ANSWER, else-loop-place-test}

pub loop-place-init : goal.loop-place-init
loop-place-init c = record { own_is = c.own_counts-own.ensures; long = refl; room = search rules; going = λ z h. going_start h }

pub turn-answer-requires : goal.turn-answer-requires
turn-answer-requires c =
    let L = c.loop-place in
    let p = c.requires in
    let g = L.invariant.going p.session p.holds in
    (c.said-s.ensures.few, record { some = record { session = g.session; holds = g.holds }; counted = L.invariant.own_is })

pub loop-place-preserved : goal.loop-place-preserved
loop-place-preserved c =
    let w = c.print-len.ensures in
    let L = c.loop-place in
    let r = L.invariant in
    let t = c.turn-answer.ensures in
    let b : L.place < length c.args.text.now = c.loop-place-test.true in
    let e = c.first_line-line.ensures.0 in
    let room = rw r.long at w.within in
    record {
      own_is = t.counted;
      long = stored-long w.stored ∙ r.long;
      room = room;
      going = λ z hz.
          let g = r.going z hz in
          going_on g _ b (omega (arith, c.if-out-len-ge-LONGEST_ANSWER.true, r.long, r.room)) (t.turned g.session g.holds)
          (c.said-s.ensures.is ∙ said-is _ _ (omega (arith, b)) e refl refl) w.stored room
          (next_place c.args.text.now L.place (omega (arith, b)) e refl (search rules));
    }

pub returns : goal.returns
returns c z h =
    let r = c.loop-place.invariant in
    going_end (r.going z h)
    (λ l. elim c.loop-place-test.branch [
      | then-loop-place-test+else-out-len-ge-LONGEST_ANSWER w ↦ omega (arith, w.if-out-len-ge-LONGEST_ANSWER.false, r.long, r.room)
      | else-loop-place-test w ↦ absurd (omega (arith, w.loop-place-test.false))
    ])
