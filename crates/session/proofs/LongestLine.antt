-- No line of an answer is longer than the longest.
use Rattle.std.specs.Prelude.{◌≤◌}
use Rattle.laws.specs.Kit.{Option, none, some, arith, length}
use Rattle.machine.specs.{Answer.{no_size, no_step}, Steps.{step}}
use Rattle.machine.proofs.RulesKept.{step-keeps-rules, at_most_64_applied}
use Rattle.machine.proofs.Refusals.{begin_cases}
use Rattle.machine.proofs.HeldCount.{step-counted}
use Rattle.schedule.specs.Grammar.{Line, begin_line, step_line}
use Rattle.answer.specs.{Bytes.{answer_line}}
use Rattle.session.specs.{Session.{Session, turn, begun}, Link.SessionRules.{SessionKept}}
use Rattle.session.specs.AnswersBound.{refused-bytes}
use Rattle.session.specs.LongestLine.{longest_line, answer-most}

-- no line is answered by a longer one: of a session that keeps the rules, as every text leaves it (session-kept)
pub line-most : (z : Session) (o : Option Line) → SessionKept z → length (answer_line (turn z o).answer) ≤ longest_line
line-most z none k = omega (arith, refused-bytes no_step)
line-most none (some (begin_line n m)) k =
    begin_cases (λ b. length (answer_line (begun b).answer) ≤ longest_line) (λ _ _. omega arith) (λ _. omega (arith, refused-bytes no_size))
line-most none (some (step_line a)) k = omega (arith, refused-bytes no_step)
line-most (some s) (some (begin_line n m)) k = omega (arith, refused-bytes no_step)
line-most (some s) (some (step_line a)) k =
    answer-most k (step-keeps-rules k a) (step s a).answer (step-counted k a) (at_most_64_applied k a)
