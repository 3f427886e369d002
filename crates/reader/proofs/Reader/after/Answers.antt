use Rattle.laws.specs.Kit.{refl, arith}
use Rattle.schedule.specs.{Lines.{next_at}, Link.LineLaws.{end_le}}
use Rattle.reader.proofs.Reader.after.Goals as goal

pub overflow_add-end : goal.overflow_add-end
overflow_add-end c = let r = c.args.self in omega (arith, end_le r.text.now r.at)

pub returns : goal.returns
unfolding next_at
returns c = (refl, rw (c.min.ensures, c.end.ensures))
