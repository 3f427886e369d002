-- A text that is cut behind a LF: its lines, their answers and the session that they leave, part by part.
use Rattle.std.specs.Prelude.{◌≡◌, ◌∷◌, ◌++◌, ◌<◌}
use Rattle.laws.specs.{Kit.{refl, sym, ap, ◌∙◌, List, [], append_assoc, ℕ, arith, eqb, length}, Loop.{cases}}
use Rattle.machine.specs.Answer.{Answer}
use Rattle.schedule.specs.Lines.{LF}
use Rattle.answer.specs.Bytes.{answer_line}
use Rattle.session.specs.{Session.{Session, Turn, line_answer}, Transcript.{TextLine, onto_line, lines_of, answers_of, session_of, printed}}

onto-append : (c : ℕ) (x y : List TextLine) → 0 < length x → onto_line c (x ++ y) ≡ onto_line c x ++ y
onto-append c [] y h = absurd (omega arith)
onto-append c (l ∷ x) y h = refl

some-onto : (c : ℕ) (x : List TextLine) → 0 < length (onto_line c x)
some-onto c [] = omega arith
some-onto c (l ∷ x) = omega arith

some-line : (a : List ℕ) → 0 < length (lines_of (a ++ (LF ∷ [])))
unfolding lines_of
some-line [] = omega arith
some-line (c ∷ a) = cases (eqb c LF) (λ e. rw e (omega arith)) (λ e. rw e (some-onto c (lines_of (a ++ (LF ∷ [])))))

pub lines_cut : (a b : List ℕ) → lines_of ((a ++ (LF ∷ [])) ++ b) ≡ lines_of (a ++ (LF ∷ [])) ++ lines_of b
unfolding lines_of
lines_cut [] b = refl
lines_cut (c ∷ a) b =
    cases (eqb c LF)
    (λ e. rw (e, lines_cut a b))
    (λ e. rw (e, lines_cut a b) (onto-append c (lines_of (a ++ (LF ∷ []))) (lines_of b) (some-line a)))

pub session-append : (z : Session) (x y : List TextLine) → session_of z (x ++ y) ≡ session_of (session_of z x) y
unfolding session_of
session-append z [] y = refl
session-append z (l ∷ x) y = session-append (line_answer z l.bytes l.ended).session x y

answers-append : (z : Session) (x y : List TextLine) → answers_of z (x ++ y) ≡ answers_of z x ++ answers_of (session_of z x) y
unfolding answers_of session_of
answers-append z [] y = refl
answers-append z (l ∷ x) y =
    let t : Turn = line_answer z l.bytes l.ended in
    ap (λ (r : List Answer). t.answer ∷ r) (answers-append t.session x y)

printed-append : (p q : List Answer) → printed (p ++ q) ≡ printed p ++ printed q
unfolding printed
printed-append [] q = refl
printed-append (a ∷ p) q = ap (λ (r : List ℕ). answer_line a ++ r) (printed-append p q) ∙ sym (append_assoc (answer_line a) (printed p) (printed q))

pub bytes-append : (z : Session) (x y : List TextLine) → printed (answers_of z (x ++ y)) ≡ printed (answers_of z x) ++ printed (answers_of (session_of z x) y)
bytes-append z x y = ap printed (answers-append z x y) ∙ printed-append (answers_of z x) (answers_of (session_of z x) y)
