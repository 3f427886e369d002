use Rattle.std.specs.Prelude.{◌≡◌, ◌<◌, Option, Some, None, MatchOption}
use Rattle.std.proofs.Common.{rules}
use Rattle.laws.specs.Kit.{ℕ, sym, ap, get_or, get_or-set_same, arith}
use Rattle.clock.specs.Vectors.{places}
use Rattle.schedule.specs.{declared.Line.{Line}, declared.Line.TheVariants.{New, Read, Write, Deliver, Trip}}
use Rattle.table.specs.{Value.{desk0}, Model.{table_with}}
use Rattle.steps.specs.Seat.{seat_of}
use Rattle.session.specs.{Mirror.LineValue.{line_actor, line_desk, line_in}, Link.LineTurn.{Seated, acting, turned_act}, Session.{Session}, Holds.{Holds, owns_put}}
use Rattle.session.proofs.Running.next.Goals as goal
use Rattle.session.proofs.Running.next.Goals.{After-map_or-p}

-- the seat of the desk that a line names, and the first where it names none
desk_seat : (s : Option Line) (p : ℕ) → MatchOption (line_desk s) (p ≡ 0) (λ i. p ≡ seat_of i) → p ≡ seat_of (line_actor s)
desk_seat (Some (New n m)) p h = h
desk_seat (Some (Read i x)) p h = h
desk_seat (Some (Write i x v)) p h = h
desk_seat (Some (Deliver i u k)) p h = h
desk_seat (Some (Trip i n)) p h = h
desk_seat None p h = h

-- the place in the array of desks is the seat of the line's desk
seat_is : (c : goal.After-map_or-p) → c.map_or-p.result ≡ seat_of (line_actor c.args.s)
seat_is c =
    let h : MatchOption c.actor.result (c.map_or-p.result ≡ 0) (λ i. c.map_or-p.result ≡ seat_of i) = search rules in
    desk_seat c.args.s _ (rw c.actor.ensures at h)

seat_in : (c : goal.After-map_or-p) → c.map_or-p.result < places
seat_in c = search rules

-- what a line asks, of any session that the values hold
seated : (c : goal.After-map_or-p) (z : Session)
    → let g = c.args.self.now in
    Holds (table_with g.core c.args.cells.now c.args.opens.now) z
    → Seated (table_with g.core c.args.cells.now c.args.opens.now) g.own (line_actor c.args.s) (get_or g.core.desks c.map_or-p.result desk0) z
seated c z h = record {
  holds = h;
  own_is = c.requires.some.1.counted;
  shape = c.desks_shape.ensures;
  cells_shape = c.cells_shape.ensures;
  opens_shape = c.opens_shape.ensures;
  desk = ap (λ (k : ℕ). get_or c.args.self.now.core.desks k desk0) (sym (seat_is c));
}

pub act-made-requires : goal.act-made-requires
act-made-requires c =
    let some = c.requires.some.1.some in
    (c.requires.some.0, acting some.session c.requires.begun (seated (goal.at.act-made-requires c).After-map_or-p some.session some.holds))

pub returns : goal.returns
returns c =
    let g = c.args.self.now in
    let q = (goal.at.returns c).After-map_or-p in
    record {
      counted =
          rw (c.requires.some.1.counted, get_or-set_same g.core.desks c.map_or-p.result c.act-made.new.desk desk0 (omega (arith, c.desks_shape.ensures.count, seat_in q)))
          (sym (owns_put g.core.desks c.map_or-p.result c.act-made.new.desk c.desks_shape.ensures.count (seat_in q)));
      turned = λ z h. rw (seat_is q) (turned_act z (line_in c.args.s c.args.list.now) c.requires.begun (seated q z h) (λ p. c.act-made.ensures g.core.desks p));
    }
