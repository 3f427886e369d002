use Rattle.laws.specs.{Stores.{left-start, left_put, left-last}}
use Rattle.text.proofs.put_field.Goals as goal

pub returns : goal.returns
returns c = left-last c.put_number.ensures (left_put c.put_words-p.ensures left-start)
