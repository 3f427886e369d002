-- The transcript line by line.
use Rattle.std.specs.Prelude.{◌<◌, ◌≤◌, ◌≡◌, ◌∷◌, ◌++◌}
use Rattle.laws.specs.Kit.{ℕ, suc, ap, ◌∙◌, List, [], none, arith, not-suc-le-zero, le-leb, lt-leb, lt-ltb, eqb}
use Rattle.laws.specs.{Kit.{ltb, length, drop, length-drop, drop_of_length-le}, Loop.{cases}, Text.{text}}
use Rattle.schedule.specs.{Lines.{LF, until_lF, from_lF, line_at, ended_at, next_at}, Link.LineLaws.{next-drop}}
use Rattle.text.specs.Number.{digits, decimal}
use Rattle.answer.specs.Bytes.{answer_line}
use Rattle.session.specs.{Session.{Session, Turn, line_answer}, Transcript.{text_line, onto_line, lines_of, answers_of, session_of}}
use Rattle.session.specs.Transcript.{printed, transcript_from, session_from, most_text, transcript}

-- the lines of a text are its first, and those of what follows its LF
lines_cut : (t : List ℕ) → 0 < length t → lines_of t ≡ text_line (until_lF t) (ltb 0 (length (from_lF t))) ∷ lines_of (drop 1 (from_lF t))
unfolding lines_of until_lF from_lF
lines_cut [] h = absurd (not-suc-le-zero h)
lines_cut (b ∷ []) h = cases (eqb b LF) (λ e. rw e (rw (lt-ltb 0 1 (omega arith)))) (λ e. rw e)
lines_cut (b ∷ c ∷ l) h =
    cases (eqb b LF)
    (λ e. rw e (rw (lt-ltb 0 (suc (suc (length l))) (omega arith))))
    (λ e. rw e (ap (onto_line b) (lines_cut (c ∷ l) (omega arith))))

module _ (s : List ℕ) (at : ℕ) where
  -- the lines from a place on: none, or the one there and those from the next place on
  lines_none : length s ≤ at → lines_of (drop at s) ≡ []
  unfolding lines_of
  lines_none h = rw (drop_of_length-le s h)

  lines_more : at < length s → lines_of (drop at s) ≡ text_line (line_at s at) (ended_at s at) ∷ lines_of (drop (next_at s at) s)
  unfolding line_at ended_at
  lines_more h =
      let g : 0 < length (drop at s) = rw length-drop (omega arith) in
      rw (next-drop s at) (lines_cut (drop at s) g)

-- the answer to the line at a place, and the session after it
abbrev pub turn_at : Session → List ℕ → ℕ → Turn
turn_at z s at = line_answer z (line_at s at) (ended_at s at)

-- a loop over the lines: at the end nothing is left to print
pub from_end : (z : Session) (s : List ℕ) (at : ℕ) → length s ≤ at → transcript_from z s at ≡ []
unfolding transcript_from answers_of printed
from_end z s at h = rw (lines_none s at h)

-- before it, the answer to the line here, and what is printed from the next place on
pub from-line : (z : Session) (s : List ℕ) (at : ℕ) → at < length s → transcript_from z s at ≡ answer_line (turn_at z s at).answer ++ transcript_from (turn_at z s at).session s (next_at s at)
unfolding transcript_from answers_of printed
from-line z s at h = rw (lines_more s at h)

-- the same of the session that the lines leave
pub left_end : (z : Session) (s : List ℕ) (at : ℕ) → length s ≤ at → session_from z s at ≡ z
unfolding session_from session_of
left_end z s at h = rw (lines_none s at h)

pub left-line : (z : Session) (s : List ℕ) (at : ℕ) → at < length s → session_from z s at ≡ session_from (turn_at z s at).session s (next_at s at)
unfolding session_from session_of
left-line z s at h = rw (lines_more s at h)

-- the whole
pub transcript-run : (s : List ℕ) → length s ≤ most_text → transcript s ≡ transcript_from none s 0
unfolding transcript
transcript-run s h = rw (le-leb (length s) most_text h)

pub transcript-long : (s : List ℕ) → most_text < length s → transcript s ≡ text "E 14\n"
unfolding transcript digits decimal
transcript-long s h = rw (lt-leb (length s) most_text h)

pub transcript_empty : transcript [] ≡ []
transcript_empty = transcript-run [] (omega arith) ∙ from_end none [] 0 (omega arith)
