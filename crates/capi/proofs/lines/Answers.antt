use Rattle.std.specs.Prelude.{◌+◌, ◌≡◌}
use Rattle.laws.specs.{Kit.{◌∙◌, take, sets}, Loop.{pick}}
use Rattle.capi.specs.{Link.RunsOfLines.{lining_room}}
use Rattle.capi.specs.Link.RunsOfLines.{lining_part, lining_less, lining_on, lining_end}
use Rattle.capi.proofs.lines.Goals as goal
use Rattle.capi.proofs.lines.Goals.{Joined-put, then-put, else-put}

-- the buffer after a turn
put_out : (c : goal.Joined-put)
    → (let a = c.args in let L = c.loop-place in let u = c.run-p in
    c.if-put.out ≡ pick a.put (sets L.out (a.from + L.len) (take u.result.len u.new.out)) L.out)
put_out c =
    elim c.if-put.branch [
      | then-put w ↦ rw w.if-put.true (w.out-is ∙ w.copy.ensures)
      | else-put w ↦ rw w.if-put.false w.out-is
    ]

pub copy-requires : goal.copy-requires
copy-requires c =
    let p = c.requires in
    let L = c.loop-place in
    let g = L.invariant.1 p.some_session.session p.some_session.holds in
    let r = c.run-p.ensures g.session g.holds in
    (lining_part g r, lining_room g r (p.room.1 p.some_session.session p.some_session.holds c.if-put.true))

pub loop-place-smaller : goal.loop-place-smaller
loop-place-smaller c =
    let p = c.requires in
    let L = c.loop-place in
    let g = L.invariant.1 p.some_session.session p.some_session.holds in
    let r = c.run-p.ensures g.session g.holds in
    lining_less g r L.invariant.0 c.loop-place-test.true

pub loop-place-preserved : goal.loop-place-preserved
loop-place-preserved c =
    let L = c.loop-place in
    let u = c.run-p in (
      u.auto.out ∙ L.invariant.0,
      λ z h. let g = L.invariant.1 z h in lining_on g (u.ensures g.session g.holds) L.invariant.0 c.loop-place-test.true (put_out (goal.at.loop-place-preserved c).Joined-put),
    )

pub returns : goal.returns
returns c z h = lining_end (c.loop-place.invariant.1 z h) c.requires.room.0 c.loop-place-test.false
