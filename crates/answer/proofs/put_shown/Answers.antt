use Rattle.laws.specs.{Kit.{refl}, Stores.{stored_one, left-from, left_put, left-last}}
use Rattle.answer.specs.Link.NameLengths.{shown_parts}
use Rattle.answer.proofs.put_shown.Goals as goal

pub returns : goal.returns
returns c = let a = c.args in left-last c.put_name.ensures
    (left_put (stored_one refl) (left_put c.put_field-p.ensures (left-from (shown_parts a.v a.w.writer a.w.number))))
