-- A run under way, one line on.
use Rattle.std.specs.Prelude.{◌≡◌, ◌++◌, ◌+◌, ◌<◌, ◌≤◌}
use Rattle.laws.specs.Kit.{sym, ap, subst, ◌∙◌, List, Option, none, ℕ}
use Rattle.laws.specs.Kit.{arith, zero-add, length, length-append, sets}
use Rattle.laws.specs.{Loop.{pick}, Stores.{Stored, sets_append}}
use Rattle.machine.specs.Answer as machine
use Rattle.schedule.specs.{Grammar.{Line as Said, line_of}, Lines.{line_at, ended_at, next_at}}
use Rattle.answer.specs.{Bytes.{answer_line, most_answer}}
use Rattle.table.specs.declared.Table.{Table}
use Rattle.session.specs.{Session.{Session, Turn, turn}}
use Rattle.session.specs.{TranscriptLaws.{turn_at}, Holds.{Holds}, Link.LineTurn.{LineTurned}}
use Rattle.session.specs.Run.{Going, passed_on}

module _ {z : Session} {text : List ℕ} {from : ℕ} {out : List ℕ} {t : Table} {at len : ℕ} {out' : List ℕ}
    (g : Going z text from out t at len out') where
  -- one line more
  pub going_on : {t' : Table} (answer : machine.Answer) {o : Option Said} {at' len' : ℕ} {out'' : List ℕ}
      → at < length text → len + most_answer ≤ length out
      → LineTurned t' answer (turn g.session o)
      → o ≡ pick (ended_at text at) (line_of (line_at text at)) none
      → Stored out' len (answer_line answer) out'' len' → len' ≤ length out
      → at' ≡ next_at text at
      → Going z text from out t' at' len' out''
  going_on {t'} answer {o} {at'} {len'} {out''} h free u eo s room ea =
      let k = turn_at g.session text at in
      let w = answer_line k.answer in
      let e : turn g.session o ≡ k = ap (turn g.session) eo in
      let a : answer ≡ k.answer = u.answer_is ∙ ap (λ (x : Turn). x.answer) e in
      let b : answer_line answer ≡ w = ap answer_line a in
      let l : len' ≡ length (g.lines ++ w) = s.behind ∙ ap (λ (x : List ℕ). len + length x) b ∙ ap (λ (x : ℕ). x + length w) g.len_is ∙ sym (length-append g.lines w) in
      record {
        session = k.session;
        lines = g.lines ++ w;
        passed = rw ea (passed_on g.passed h (omega (arith, g.len_is)));
        holds = subst (λ (x : Turn). Holds t' x.session) e u.holds;
        stored =
            s.stored ∙ ap (λ (x : List ℕ). sets out' len x) b ∙ ap (λ (x : List ℕ). sets x len w) g.stored
            ∙ ap (λ (x : ℕ). sets (sets out 0 g.lines) x w) (g.len_is ∙ sym (zero-add (length g.lines)))
            ∙ sym (sets_append g.lines w out 0);
        len_is = l;
        fits = omega arith;
      }
