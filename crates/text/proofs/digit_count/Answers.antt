use Rattle.std.proofs.Common.{rules}
use Rattle.laws.specs.Kit.{sym, ap, length}
use Rattle.text.specs.Link.Decimal.{decimal-one, decimal-length}
use Rattle.text.proofs.digit_count.Goals as goal

pub returns-in-0-to-9 : goal.returns-in-0-to-9
returns-in-0-to-9 c = (sym (ap length (decimal-one _ (search rules))), search rules)

pub returns-in-10-to-99 : goal.returns-in-10-to-99
returns-in-10-to-99 c = (sym (decimal-length 1 _ (search rules) (search rules)), search rules)

pub returns-in-100-to-999 : goal.returns-in-100-to-999
returns-in-100-to-999 c = (sym (decimal-length 2 _ (search rules) (search rules)), search rules)

pub returns-in-1000-to-9999 : goal.returns-in-1000-to-9999
returns-in-1000-to-9999 c = (sym (decimal-length 3 _ (search rules) (search rules)), search rules)

pub returns-in_default : goal.returns-in_default
returns-in_default c = (sym (decimal-length 4 _ (search rules) (search rules)), search rules)
