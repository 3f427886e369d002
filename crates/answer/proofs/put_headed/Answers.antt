use Rattle.laws.specs.{Stores.{left-start, left_put, left-last}}
use Rattle.answer.proofs.put_headed.Goals as goal

pub returns : goal.returns
returns c = left-last c.put_name.ensures (left_put c.put_words-p.ensures left-start)
