-- A turn: the acting desk after a step, and the answer.
use Rattle.std.specs.Prelude.{◌≡◌, Result, Ok, Err, IfOk}
use Rattle.laws.specs.Kit.{ap, sym}
use Rattle.table.specs.declared.Desk.{Desk}
use Rattle.reply.specs.{declared.Answer.{Answer}, declared.Answer.TheVariants.{Refused}, declared.Refusal.{Refusal}}

pub record Turn : Type 0 where
  pub desk : Desk
  pub answer : Answer

-- a step's answer; or its refusal, as an answer
abbrev pub answer_in : Result Answer Refusal → Answer
answer_in (Ok a) = a
answer_in (Err r) = Refused r

-- the desk as a step that is not refused leaves it, and its answer
abbrev pub done : Desk → Answer → Turn
done d a = record { desk = d; answer = a }

-- the desk as a step leaves it, and what the step hands back
abbrev pub turned : Desk → Result Answer Refusal → Turn
turned d r = done d (answer_in r)

-- a refusal is an Err: what stands in an Ok is none
abbrev pub NoRefusal : Answer → Type 0
NoRefusal a = (why : Refusal) → a ≡ Refused why → ⊥

abbrev pub Apart : Result Answer Refusal → Type 0
Apart r = IfOk r NoRefusal

-- so one answer is one Result
pub one_result : (d d' : Desk) (r r' : Result Answer Refusal) → Apart r → Apart r' → turned d r ≡ turned d' r' → r ≡ r'
one_result d d' (Ok a) (Ok b) h k e = ap (λ (x : Answer). Ok x) (ap (λ (t : Turn). t.answer) e)
one_result d d' (Ok a) (Err w) h k e = absurd (h w (ap (λ (t : Turn). t.answer) e))
one_result d d' (Err w) (Ok b) h k e = absurd (k w (sym (ap (λ (t : Turn). t.answer) e)))
one_result d d' (Err v) (Err w) h k e = let f : Refused v ≡ Refused w = ap (λ (t : Turn). t.answer) e in cc
