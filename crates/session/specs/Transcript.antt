-- Document 01, "Schedule text": all that `replay` prints, as a function of all that it reads.
use Rattle.std.specs.Prelude.{◌∷◌, ◌++◌}
use Rattle.laws.specs.{Kit.{Bool, true, false, List, [], none, ℕ, eqb, leb, length, drop}, Loop.{pick}}
use Rattle.machine.specs.Answer.{Answer, refused, short}
use Rattle.schedule.specs.Lines.{LF}
use Rattle.answer.specs.Bytes.{answer_line}
use Rattle.session.specs.Session.{Session, Turn, line_answer}

-- a line without its LF, and whether a LF ended it
pub record TextLine : Type 0 where
  pub bytes : List ℕ
  pub ended : Bool

abbrev pub text_line : List ℕ → Bool → TextLine
text_line l e = record { bytes = l; ended = e }

-- a byte in front of the first line; in front of nothing it is a last line without LF
abbrev pub onto_line : ℕ → List TextLine → List TextLine
onto_line b [] = text_line (b ∷ []) false ∷ []
onto_line b (l ∷ ls) = text_line (b ∷ l.bytes) l.ended ∷ ls

-- the lines of a text: each LF ends one, and behind the last LF there is one more only if bytes follow
unfoldable pub lines_of : List ℕ → List TextLine
lines_of [] = []
lines_of (b ∷ l) = pick (eqb b LF) (text_line [] true ∷ lines_of l) (onto_line b (lines_of l))

-- each line's answer, from the session that the lines before it left
unfoldable pub answers_of : Session → List TextLine → List Answer
answers_of z [] = []
answers_of z (l ∷ ls) =
    let t : Turn = line_answer z l.bytes l.ended in
    t.answer ∷ answers_of t.session ls

-- the session that lines leave
unfoldable pub session_of : Session → List TextLine → Session
session_of z [] = z
session_of z (l ∷ ls) = session_of (line_answer z l.bytes l.ended).session ls

-- "prints one line for each input line"
unfoldable pub printed : List Answer → List ℕ
printed [] = []
printed (a ∷ more) = answer_line a ++ printed more

-- what is printed from a place on, where the lines before it left the session z
unfoldable pub transcript_from : Session → List ℕ → ℕ → List ℕ
transcript_from z text at = printed (answers_of z (lines_of (drop at text)))

-- the session after the lines from a place on
unfoldable pub session_from : Session → List ℕ → ℕ → Session
session_from z text at = session_of z (lines_of (drop at text))

abbrev pub most_text : ℕ
most_text = 65536

-- "Input over 65,536 bytes prints `E 14` alone."
unfoldable pub transcript : List ℕ → List ℕ
transcript text = pick (leb (length text) most_text) (transcript_from none text 0) (answer_line (refused short))
