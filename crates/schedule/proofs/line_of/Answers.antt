use Rattle.std.proofs.Common.{rules}
use Rattle.std.specs.Prelude.{◌≡◌, Some, None}
use Rattle.laws.specs.Kit.{arith, length}
use Rattle.schedule.specs.{Mirror.Forms.{no_bytes, too_long, told_none, line_trip, line_other}, LineValue.{said_by_value}}
use Rattle.schedule.proofs.Values.{says_new, says_read, says_write, says_deliver}
use Rattle.schedule.proofs.line_of.Goals as goal

pub returns-then-s-gt-LONGEST_LINE : goal.returns-then-s-gt-LONGEST_LINE
returns-then-s-gt-LONGEST_LINE c = said_by_value (told_none _ _ (too_long _ (omega arith)))

pub returns-in_err-first : goal.returns-in_err-first
returns-in_err-first c =
    let z : length c.args.s.now ≡ 0 = search rules in
    rw c.from_residual.ensures (said_by_value (told_none _ _ (no_bytes _ z)))

pub returns-in_err-n-in-78 : goal.returns-in_err-n-in-78
returns-in_err-n-in-78 c =
    rw c.from_residual-in_err-n-in-78.ensures (says_new c.args.s.now _ (search rules) (omega arith) None (search rules) c.in_err-n-in-78.ensures)

pub returns-in_ok-n-in-78 : goal.returns-in_ok-n-in-78
returns-in_ok-n-in-78 c =
    says_new c.args.s.now _ (search rules) (omega arith) (Some c.in_ok-n-in-78.field-0) (search rules) c.in_ok-n-in-78.ensures

pub returns-in_err-i-in-82 : goal.returns-in_err-i-in-82
returns-in_err-i-in-82 c =
    rw c.from_residual-in_err-i-in-82.ensures (says_read c.args.s.now _ (search rules) (omega arith) None (search rules) c.in_err-i-in-82.ensures)

pub returns-in_ok-i-in-82 : goal.returns-in_ok-i-in-82
returns-in_ok-i-in-82 c =
    says_read c.args.s.now _ (search rules) (omega arith) (Some c.in_ok-i-in-82.field-0) (search rules) c.in_ok-i-in-82.ensures

pub returns-in_err-i-in-87 : goal.returns-in_err-i-in-87
returns-in_err-i-in-87 c =
    rw c.from_residual-in_err-i-in-87.ensures (says_write c.args.s.now _ (search rules) (omega arith) None (search rules) c.in_err-i-in-87.ensures)

pub returns-in_ok-i-in-87 : goal.returns-in_ok-i-in-87
returns-in_ok-i-in-87 c =
    says_write c.args.s.now _ (search rules) (omega arith) (Some c.in_ok-i-in-87.field-0) (search rules) c.in_ok-i-in-87.ensures

pub returns-in_err-i-in-68 : goal.returns-in_err-i-in-68
returns-in_err-i-in-68 c =
    rw c.from_residual-in_err-i-in-68.ensures (says_deliver c.args.s.now _ (search rules) (omega arith) None (search rules) c.in_err-i-in-68.ensures)

pub returns-in_ok-i-in-68 : goal.returns-in_ok-i-in-68
returns-in_ok-i-in-68 c =
    says_deliver c.args.s.now _ (search rules) (omega arith) (Some c.in_ok-i-in-68.field-0) (search rules) c.in_ok-i-in-68.ensures

pub returns-in-84 : goal.returns-in-84
returns-in-84 c =
    rw (line_trip c.args.s.now (search rules) (omega arith) (search rules)) (said_by_value c.trip.ensures)

pub returns-in_default : goal.returns-in_default
returns-in_default c =
    said_by_value (told_none _ _ (line_other c.args.s.now (search rules) (omega arith) (search rules) (search rules) (search rules)))
