-- Of the code's answers one only stands for an answer of the machine.
use Rattle.std.specs.Prelude.{◌≡◌}
use Rattle.laws.specs.Kit.{ℕ, min, refl, sym, ap, ◌∙◌, List, length}
use Rattle.machine.specs.Table.{Name as MachineName, most_open}
use Rattle.machine.specs.Answer as machine
use Rattle.reply.specs.{declared.Refusal.{Refusal}, declared.Refusal.TheVariants.{NoDesk, NoCell, NoStatus, Spent, Full, OwnWrite}}
use Rattle.reply.specs.declared.Refusal.TheVariants.{NoWrite, Received, TripSize, NoStep, NoSize, Damaged, Broken, Short, WrongLength}
use Rattle.reply.specs.{declared.Name.{Name}, declared.Answer.{Answer}, declared.Answer.TheVariants.{Begun, Unset, Shown, Wrote, Held, Applied, Yes, No}}
use Rattle.reply.specs.{declared.Answer.TheVariants.{Unknown, Refused}, Meaning.{refusal_of, names_of, answer_of, Counted}}
use Rattle.reply.specs.Names.{length-names}

-- back from the machine's --

abbrev pub refusal_for : machine.Refusal → Refusal
refusal_for machine.no_desk = NoDesk
refusal_for machine.no_cell = NoCell
refusal_for machine.no_status = NoStatus
refusal_for machine.spent = Spent
refusal_for machine.full = Full
refusal_for machine.own_write = OwnWrite
refusal_for machine.no_write = NoWrite
refusal_for machine.received = Received
refusal_for machine.trip_size = TripSize
refusal_for machine.no_step = NoStep
refusal_for machine.no_size = NoSize
refusal_for machine.damaged = Damaged
refusal_for machine.broken = Broken
refusal_for machine.short = Short
refusal_for machine.wrong_length = WrongLength

abbrev pub name_for : MachineName → Name
name_for w = record { writer = w.writer; number = w.number }

abbrev pub shown_for : machine.Shown → Answer
shown_for machine.unset = Unset
shown_for (machine.shown status writer number) = Shown status record { writer = writer; number = number }

abbrev pub verdict_for : machine.Verdict → Answer
verdict_for machine.Yes = Yes
verdict_for machine.No = No
verdict_for machine.Unknown = Unknown

abbrev pub answer_for : machine.Answer → Answer
answer_for machine.began = Begun
answer_for (machine.shows v) = shown_for v
answer_for (machine.wrote w) = Wrote (name_for w)
answer_for (machine.holds w) = Held (name_for w)
answer_for (machine.applies l) = Applied (length l)
answer_for (machine.judged v) = verdict_for v
answer_for (machine.refused r) = Refused (refusal_for r)

pub refusal-back : (r : Refusal) → refusal_for (refusal_of r) ≡ r
refusal-back NoDesk = refl
refusal-back NoCell = refl
refusal-back NoStatus = refl
refusal-back Spent = refl
refusal-back Full = refl
refusal-back OwnWrite = refl
refusal-back NoWrite = refl
refusal-back Received = refl
refusal-back TripSize = refl
refusal-back NoStep = refl
refusal-back NoSize = refl
refusal-back Damaged = refl
refusal-back Broken = refl
refusal-back Short = refl
refusal-back WrongLength = refl

pub answer_back : (a : Answer) (names : List Name) → Counted a → answer_for (answer_of a names) ≡ a
answer_back Begun names h = refl
answer_back Unset names h = refl
answer_back (Shown status w) names h = refl
answer_back (Wrote w) names h = refl
answer_back (Held w) names h = refl
answer_back (Applied count) names h = ap Applied (length-names count names (h count refl))
answer_back Yes names h = refl
answer_back No names h = refl
answer_back Unknown names h = refl
answer_back (Refused r) names h = ap Refused (refusal-back r)

-- what `Counted` shuts out: past the end of the array any count stands for the same names
pub cut_off : (n m : ℕ) (names : List Name) → min n most_open ≡ min m most_open → answer_of (Applied n) names ≡ answer_of (Applied m) names
unfolding names_of
cut_off n m names e = rw e

-- the code's answer that stands for x
pub answer_is : (a : Answer) (names : List Name) {x : machine.Answer} → Counted a → answer_of a names ≡ x → a ≡ answer_for x
answer_is a names h e = sym (answer_back a names h) ∙ ap answer_for e

-- an answer that lists no names counts none
abbrev pub Silent : machine.Answer → Type 0
Silent x = (l : List MachineName) → x ≡ machine.applies l → ⊥

pub silent_counted : (a : Answer) (names : List Name) {x : machine.Answer} → Silent x → answer_of a names ≡ x → Counted a
silent_counted a names f e count q = absurd (f (names_of count names) (sym e ∙ ap (λ (y : Answer). answer_of y names) q))
