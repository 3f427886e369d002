-- Where a desk stands among the desks: the place that a step is lent, whatever number a line names.
use Rattle.std.specs.Prelude.{◌≡◌, ◌-◌, ◌≤◌}
use Rattle.laws.specs.{Kit.{List, ℕ, ◌∙◌, false, arith, get_or, set, set-get_or}, Loop.{pick, cases}, Says.{apart}}
use Rattle.clock.specs.Vectors.{places}
use Rattle.machine.specs.{Paper.{actor}, Rules.{In}, Steps.{Step, within}, Within.{says-within}}
use Rattle.machine.specs.Answer as machine
use Rattle.table.specs.{declared.Cell.{Cell}, declared.Desk.{Desk}, declared.Open.{Open}, declared.Table.{Table}, Value.{desk0}}
use Rattle.table.specs.Model.{model_of}
use Rattle.steps.specs.{Stepped.{Stepped, put_desk}, Unique.{outside}}

-- the place of desk i, and the first for a number that is no desk: the step then leaves that one as it is
abbrev pub seat_of : ℕ → ℕ
seat_of i = pick (within places i) (i - 1) 0

pub seat_is : (n i : ℕ) → n ≤ places → In n i → seat_of i ≡ i - 1
seat_is n i few h = rw ((says-within places i).from (h.0, omega (arith, h.1)))

-- the desk at its seat stored there
pub seat_stays : (ds : List Desk) (i : ℕ) (d : Desk) → get_or ds (seat_of i) desk0 ≡ d → set ds (seat_of i) d ≡ ds
seat_stays ds i d here = rw (← here) (set-get_or ds (seat_of i) desk0)

-- and another one
pub put_seat : (n : ℕ) (ds : List Desk) (i : ℕ) (d d' : Desk) → n ≤ places → get_or ds (seat_of i) desk0 ≡ d → (within n i ≡ false → d' ≡ d)
    → set ds (seat_of i) d' ≡ put_desk n ds i d'
put_seat n ds i d d' few here out =
    cases (within n i)
    (λ t. rw (t, seat_is n i few ((says-within n i).to t)))
    (λ t. rw (t, out t) (seat_stays ds i d here))

-- a desk that is none is left as it is
pub outside_keeps : {t : Table} {i : ℕ} {d d' : Desk} {cs : List Cell} {os : List Open} {answer : machine.Answer} (a : Step) → actor a ≡ i → Stepped t i d a d' cs os answer
    → within t.core.n i ≡ false → d' ≡ d
outside_keeps {t} {i} a who s e =
    let off : In t.core.n (actor a) → ⊥ = rw who (λ h. apart (within t.core.n i) ((says-within t.core.n i).from h) e) in
    s.refused_desk machine.no_desk (s.answer_is ∙ outside (model_of t) a off)
