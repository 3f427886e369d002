-- How long the answers to a text are, all together: 5 bytes for each byte of text, and a name for each write that was held before.
-- An empty line is one byte and its answer, `E 10` and LF, is 5. A delivery that is held pays for two names: that in its
-- answer, and its own, which is printed when it is applied.
use Rattle.std.specs.Prelude.{◌+◌, ◌-◌, ◌*◌, ◌<◌, ◌≤◌, ◌≡◌, ◌∷◌}
use Rattle.laws.specs.Kit.{ℕ, suc, refl, true, false, List, [], none, some, arith, eqb}
use Rattle.laws.specs.{Kit.{length, length-append}, Each.{Each, no, and}, Loop.{cases}, Sum.{one}}
use Rattle.machine.specs.{Table.{most_desks, most_open, Name, State}, Answer.{Answer, began, shows, wrote, holds, applies, judged, refused}}
use Rattle.machine.specs.Answer.{unset, shown, Yes, No, Unknown, Refusal, number_of, no_desk, no_cell, no_status, spent, full, own_write}
use Rattle.machine.specs.Answer.{no_write, received, trip_size, no_step, no_size, damaged, broken, short, wrong_length}
use Rattle.machine.specs.Rules.{Frame, Rules}
use Rattle.machine.proofs.HeldCount.{held_count, Made, HeldCounted}
use Rattle.schedule.specs.{Lines.{LF}}
use Rattle.answer.specs.{Bytes.{name_bytes, names_bytes, answer_line}, Link.NameLengths.{name-length, shown-length}}
use Rattle.session.specs.{Session.{Session}, Transcript.{TextLine, text_line, onto_line, lines_of}}
use Rattle.session.specs.LineBounds.{decimal-short, number_short}

-- the bytes of answers for each byte of text
abbrev pub each_byte : ℕ
each_byte = 5

-- the bytes of a name in an answer: the space, two digits of the desk, the point and five of the number
abbrev pub each_name : ℕ
each_name = 9

-- the writes held in a session, each counted at each desk that holds it
abbrev pub held_in : Session → ℕ
held_in none = 0
held_in (some s) = held_count s

-- the lines of a text --

abbrev pub line_bytes : TextLine → ℕ
line_bytes l = length l.bytes + one l.ended

unfoldable pub all_bytes : List TextLine → ℕ
all_bytes [] = 0
all_bytes (l ∷ ls) = line_bytes l + all_bytes ls

pub lines-bytes : (t : List ℕ) → all_bytes (lines_of t) ≡ length t
unfolding lines_of all_bytes
lines-bytes [] = refl
lines-bytes (b ∷ t) = cases (eqb b LF) (λ e. rw e (omega (arith, lines-bytes t))) (λ e. rw e (go (lines_of t) (lines-bytes t)))
  where
    go : (ls : List TextLine) → all_bytes ls ≡ length t → all_bytes (onto_line b ls) ≡ suc (length t)
    go [] h = omega arith
    go (l ∷ ls) h = omega arith

pub lines-each : (t : List ℕ) → Each (λ l. 1 ≤ line_bytes l) (lines_of t)
unfolding lines_of
lines-each [] = no
lines-each (b ∷ t) = cases (eqb b LF) (λ e. rw e (and {x = text_line [] true} (omega arith) (lines-each t))) (λ e. rw e (go (lines_of t) (lines-each t)))
  where
    go : (ls : List TextLine) → Each (λ l. 1 ≤ line_bytes l) ls → Each (λ l. 1 ≤ line_bytes l) (onto_line b ls)
    go ls no = and {x = text_line (b ∷ []) false} (omega arith) no
    go ls (and {x = l} h e) = and {x = text_line (b ∷ l.bytes) l.ended} (omega arith) e

-- an answer --

refusal-small : (r : Refusal) → number_of r < 100
refusal-small no_desk = omega arith
refusal-small no_cell = omega arith
refusal-small no_status = omega arith
refusal-small spent = omega arith
refusal-small full = omega arith
refusal-small own_write = omega arith
refusal-small no_write = omega arith
refusal-small received = omega arith
refusal-small trip_size = omega arith
refusal-small no_step = omega arith
refusal-small no_size = omega arith
refusal-small damaged = omega arith
refusal-small broken = omega arith
refusal-small short = omega arith
refusal-small wrong_length = omega arith

pub refused-bytes : (r : Refusal) → length (answer_line (refused r)) ≤ each_byte
refused-bytes r = simp length-append (omega (arith, decimal-short 1 (number_of r) (refusal-small r)))

module _ {s : State} (f : Frame s) where
  pub name-bytes : (w : Name) → Made s w → 1 + length (name_bytes w) ≤ each_name
  name-bytes w h =
      omega (
        arith,
        name-length w.writer w.number,
        decimal-short 1 w.writer (omega (arith, h.0.1, f.ranges.desks.1)),
        number_short w.number (omega (arith, h.1.1, f.ranges.written w.writer)),
      )

  pub names-bytes : (l : List Name) → Each (Made s) l → length (names_bytes l) ≤ each_name * length l
  unfolding names_bytes
  names-bytes l no = omega arith
  names-bytes l (and {x = w} {l = m} h e) = simp length-append (omega (arith, name-bytes w h, names-bytes m e))

-- a step's line is 4 bytes at least with its LF
pub step_bound : {s s' : State} → Rules s → Rules s' → (a : Answer) → HeldCounted s a s'
    → length (answer_line a) + each_name * held_count s' ≤ each_byte * 4 + each_name * held_count s
step_bound {s} {s'} r r' began c = omega arith
step_bound {s} {s'} r r' (shows unset) c = omega arith
step_bound {s} {s'} r r' (shows (shown v u k)) c =
    simp length-append (omega (arith, shown-length v u k, decimal-short 0 v (omega arith), name-bytes r.frame (record { writer = u; number = k }) c.1.0))
step_bound {s} {s'} r r' (wrote w) c = simp length-append (omega (arith, name-bytes r'.frame w c.0))
step_bound {s} {s'} r r' (holds w) c = simp length-append (omega (arith, name-bytes r.frame w c.0))
step_bound {s} {s'} r r' (applies l) c = simp length-append (omega (arith, names-bytes r.frame l c.0))
step_bound {s} {s'} r r' (judged Yes) c = omega arith
step_bound {s} {s'} r r' (judged No) c = omega arith
step_bound {s} {s'} r r' (judged Unknown) c = omega arith
step_bound {s} {s'} r r' (refused e) c = omega (arith, refused-bytes e)

-- from any session: each open write may be held at every desk but its writer's
abbrev pub answers_bound : ℕ → ℕ
answers_bound n = each_byte * n + each_name * ((most_desks - 1) * most_open)
