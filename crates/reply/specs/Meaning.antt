-- What the code's answers mean: the machine's answer for every case, and so document 01's numbers and values.
use Rattle.std.specs.Prelude.{◌≤◌, ◌≡◌}
use Rattle.laws.specs.{Kit.{ℕ, min, List, get_or}, Tab.{tab}}
use Rattle.machine.specs.Table.{Name as MachineName, name, most_open}
use Rattle.machine.specs.Answer as machine
use Rattle.reply.specs.{declared.Refusal.{Refusal}, declared.Refusal.TheVariants.{NoDesk, NoCell, NoStatus, Spent, Full, OwnWrite}}
use Rattle.reply.specs.declared.Refusal.TheVariants.{NoWrite, Received, TripSize, NoStep, NoSize, Damaged, Broken, Short, WrongLength}
use Rattle.reply.specs.{declared.Name.{Name}, declared.Answer.{Answer}, declared.Answer.TheVariants.{Begun, Unset, Shown, Wrote, Held, Applied, Yes, No}}
use Rattle.reply.specs.declared.Answer.TheVariants.{Unknown, Refused}

abbrev pub refusal_of : Refusal → machine.Refusal
refusal_of NoDesk = machine.no_desk
refusal_of NoCell = machine.no_cell
refusal_of NoStatus = machine.no_status
refusal_of Spent = machine.spent
refusal_of Full = machine.full
refusal_of OwnWrite = machine.own_write
refusal_of NoWrite = machine.no_write
refusal_of Received = machine.received
refusal_of TripSize = machine.trip_size
refusal_of NoStep = machine.no_step
refusal_of NoSize = machine.no_size
refusal_of Damaged = machine.damaged
refusal_of Broken = machine.broken
refusal_of Short = machine.short
refusal_of WrongLength = machine.wrong_length

abbrev pub name_of : Name → MachineName
name_of w = name w.writer w.number

-- name j of an array of names
abbrev pub name_at : List Name → ℕ → MachineName
name_at names j = name_of (get_or names j record { writer = 0; number = 0 })

-- the first count names, or the first 64 where count is larger
unfoldable pub names_of : ℕ → List Name → List MachineName
names_of count names = tab (min count most_open) (name_at names)

-- an answer with the array of names beside it
abbrev pub answer_of : Answer → List Name → machine.Answer
answer_of Begun names = machine.began
answer_of Unset names = machine.shows machine.unset
answer_of (Shown status w) names = machine.shows (machine.shown status w.writer w.number)
answer_of (Wrote w) names = machine.wrote (name_of w)
answer_of (Held w) names = machine.holds (name_of w)
answer_of (Applied count) names = machine.applies (names_of count names)
answer_of Yes names = machine.judged machine.Yes
answer_of No names = machine.judged machine.No
answer_of Unknown names = machine.judged machine.Unknown
answer_of (Refused r) names = machine.refused (refusal_of r)

-- no more names are counted than the array holds, so none is cut off
abbrev pub Counted : Answer → Type 0
Counted a = (count : ℕ) → a ≡ Applied count → count ≤ most_open
