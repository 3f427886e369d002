-- A session whose table keeps the rules: every line leaves one again.
use Rattle.std.specs.Prelude.{◌∷◌}
use Rattle.laws.specs.{Kit.{List, [], Option, none, some, ℕ, drop}, Loop.{pick}}
use Rattle.machine.specs.Steps.{begin}
use Rattle.machine.proofs.RulesKept.{fresh-rules, step-keeps-rules}
use Rattle.machine.proofs.Refusals.{begin_cases}
use Rattle.schedule.specs.Grammar.{Line, begin_line, step_line, line_of}
use Rattle.session.specs.{Session.{Session, turn}, Transcript.{TextLine, lines_of, session_of, session_from}}
use Rattle.session.specs.Link.SessionRules.{SessionKept}

begun_kept : (n m : ℕ) → SessionKept (begin n m).table
begun_kept n m = begin_cases (λ b. SessionKept b.table) (λ hn hm. fresh-rules n m hn hm) (λ _. tt)

pub turn-kept : (z : Session) (o : Option Line) → SessionKept z → SessionKept (turn z o).session
turn-kept none none k = k
turn-kept none (some (begin_line n m)) k = begun_kept n m
turn-kept none (some (step_line a)) k = k
turn-kept (some s) none k = k
turn-kept (some s) (some (begin_line n m)) k = k
turn-kept (some s) (some (step_line a)) k = step-keeps-rules k a

pub lines-kept : (z : Session) (ls : List TextLine) → SessionKept z → SessionKept (session_of z ls)
unfolding session_of
lines-kept z [] k = k
lines-kept z (l ∷ ls) k =
    let o = pick l.ended (line_of l.bytes) none in
    lines-kept (turn z o).session ls (turn-kept z o k)

pub session-kept : (z : Session) (text : List ℕ) (at : ℕ) → SessionKept z → SessionKept (session_from z text at)
unfolding session_from
session-kept z text at k = lines-kept z (lines_of (drop at text)) k
