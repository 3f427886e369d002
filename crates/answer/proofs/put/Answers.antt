use Rattle.std.proofs.Common.{rules}
use Rattle.reply.specs.Meaning.{answer_of}
use Rattle.answer.specs.{Bytes.{answer_bytes}, Outcome.{line-ended}}
use Rattle.answer.proofs.put.Goals as goal

pub returns-clause-written : goal.returns-clause-written
returns-clause-written c = let a = c.args in (line-ended a.out.now a.at (answer_bytes (answer_of a.a a.names.now)) _ _ (search rules) c.put_answer-p.ensures).1
