-- Document 01, "Schedule text": a line against "no table yet" or a table.
use Rattle.laws.specs.{Kit.{Bool, List, Option, none, some, ℕ}, Loop.{pick}}
use Rattle.machine.specs.{Table.{State}, Answer.{Answer, refused, no_step}, Steps.{Out, step, Begun, begin}}
use Rattle.schedule.specs.Grammar.{Line, begin_line, step_line, line_of}

-- no table yet, or a table
abbrev pub Session : Type 0
Session = Option State

-- a line's answer, and the session after it
pub record Turn : Type 0 where
  pub answer : Answer
  pub session : Session

-- 10, "the line is no step", changes nothing
abbrev pub turn_no_step : Session → Turn
turn_no_step z = record { answer = refused no_step; session = z }

-- "A refused N may be tried again": `begin` gives no table then
abbrev pub begun : Begun → Turn
begun b = record { answer = b.answer; session = b.table }

abbrev pub stepped : Out → Turn
stepped o = record { answer = o.answer; session = some o.state }

-- "Before a table exists only N is a step; after an accepted N, a further N is no step."
abbrev pub turn : Session → Option Line → Turn
turn z none = turn_no_step z
turn none (some (begin_line n m)) = begun (begin n m)
turn none (some (step_line a)) = turn_no_step none
turn (some s) (some (begin_line n m)) = turn_no_step (some s)
turn (some s) (some (step_line a)) = stepped (step s a)

-- "a last line without LF [is] no step": ended says whether a LF ended the line
abbrev pub line_answer : Session → List ℕ → Bool → Turn
line_answer z line ended = turn z (pick ended (line_of line) none)
