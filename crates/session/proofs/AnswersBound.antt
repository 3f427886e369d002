-- How long the answers to a text are, all together: the proofs.
use Rattle.std.specs.Prelude.{◌+◌, ◌-◌, ◌*◌, ◌≤◌, ◌≡◌}
use Rattle.laws.specs.Kit.{ℕ, refl, Bool, true, false, List, Option, none, some, arith}
use Rattle.laws.specs.{Kit.{leb, length, drop, length-append, length-drop, leb-true}, Each.{Each, no, and}, Loop.{pick, cases}, Sum.{one}}
use Rattle.machine.specs.{Table.{most_desks, most_open}, Answer.{refused}}
use Rattle.machine.specs.Answer.{Refusal}
use Rattle.machine.specs.Answer.{no_step, no_size, short}
use Rattle.machine.specs.Steps.{step}
use Rattle.machine.proofs.RulesKept.{step-keeps-rules}
use Rattle.machine.proofs.Refusals.{begin_cases}
use Rattle.machine.proofs.HeldCount.{held-few, fresh-held, step-counted}
use Rattle.schedule.specs.{Grammar.{Line, begin_line, step_line, line_of}, LineFacts.{step-bytes}}
use Rattle.answer.specs.{Bytes.{answer_line}}
use Rattle.session.specs.{Session.{Session, Turn, turn, begun}, Transcript.{TextLine, lines_of, answers_of}}
use Rattle.session.specs.{Transcript.{session_of, printed, transcript_from, most_text, transcript}, Link.SessionRules.{SessionKept}}
use Rattle.session.proofs.SessionRules.{turn-kept}
use Rattle.session.specs.AnswersBound.{each_byte, each_name, held_in, line_bytes, all_bytes, lines-bytes, lines-each, refused-bytes, step_bound, answers_bound}

-- a line of n bytes with its LF
abbrev Within : ℕ → Session → Turn → Type 0
Within n z t = length (answer_line t.answer) + each_name * held_in t.session ≤ each_byte * n + each_name * held_in z

refused-within : (n : ℕ) (z : Session) (r : Refusal) → 1 ≤ n → Within n z (record { answer = refused r; session = z })
refused-within n z r h = omega (arith, refused-bytes r)

turn-within : (n : ℕ) (z : Session) (o : Option Line) → SessionKept z → 1 ≤ n → ((x : Line) → o ≡ some x → 4 ≤ n) → Within n z (turn z o)
turn-within n z none k h g = refused-within n z no_step h
turn-within n none (some (begin_line d m)) k h g =
    begin_cases (λ b. Within n none (begun b)) (λ _ _. omega (arith, fresh-held d m)) (λ _. refused-within n none no_size h)
turn-within n none (some (step_line a)) k h g = refused-within n none no_step h
turn-within n (some s) (some (begin_line d m)) k h g = refused-within n (some s) no_step h
turn-within n (some s) (some (step_line a)) k h g =
    omega (arith, g (step_line a) refl, step_bound k (step-keeps-rules k a) (step s a).answer (step-counted k a))

-- what a line says; nothing where no LF ended it
said : TextLine → Option Line
said l = pick l.ended (line_of l.bytes) none

said-bytes : (l : TextLine) (x : Line) → said l ≡ some x → 4 ≤ line_bytes l
unfolding said
said-bytes l x = go l.ended
  where
    go : (b : Bool) → pick b (line_of l.bytes) none ≡ some x → 4 ≤ length l.bytes + one b
    go true e = omega (arith, step-bytes l.bytes x e)
    go false e = absurd (let y : ◌≡◌ {A = ℕ} 0 1 = cc in omega arith)

lines-within : (ls : List TextLine) (z : Session) → SessionKept z → Each (λ l. 1 ≤ line_bytes l) ls
    → length (printed (answers_of z ls)) + each_name * held_in (session_of z ls) ≤ each_byte * all_bytes ls + each_name * held_in z
unfolding printed answers_of session_of all_bytes said
lines-within ls z k no = omega arith
lines-within ls z k (and {x = l} {l = more} h e) =
    let t = turn z (said l) in (
    omega (
      arith,
      turn-within (line_bytes l) z (said l) k h (said-bytes l),
      lines-within more t.session (turn-kept z (said l) k) e,
      length-append (answer_line t.answer) (printed (answers_of t.session more)),
    )
    )

-- from a place on, where the lines before it left the session z
pub answers_bound_lem : (z : Session) → SessionKept z → (text : List ℕ) (at : ℕ)
    → length (transcript_from z text at) ≤ each_byte * (length text - at) + each_name * held_in z
unfolding transcript_from
answers_bound_lem z k text at =
    omega (arith, lines-within (lines_of (drop at text)) z k (lines-each (drop at text)), lines-bytes (drop at text), length-drop at text)

held_bound : (z : Session) → SessionKept z → held_in z ≤ (most_desks - 1) * most_open
held_bound none k = omega arith
held_bound (some s) k = held-few k.frame

pub answers_fit : (z : Session) → SessionKept z → (text : List ℕ) → length (transcript_from z text 0) ≤ answers_bound (length text)
answers_fit z k text = omega (arith, answers_bound_lem z k text 0, held_bound z k)

-- the whole: a text that is too long is answered in one line
pub transcript_bound : (text : List ℕ) → length (transcript text) ≤ each_byte * most_text
unfolding transcript
transcript_bound text =
    cases (leb (length text) most_text)
    (λ e. rw e (omega (arith, answers_bound_lem none tt text 0, leb-true (length text) most_text e)))
    (λ e. rw e (omega (arith, refused-bytes short)))
