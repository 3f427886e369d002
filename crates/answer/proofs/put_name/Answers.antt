use Rattle.laws.specs.{Kit.{refl, arith, length-set}, Stores.{stored_one, left-from, left_put, left-last}}
use Rattle.answer.specs.Link.NameLengths.{name-length, name_parts}
use Rattle.answer.proofs.put_name.Goals as goal

pub put_number-p-requires : goal.put_number-p-requires
put_number-p-requires c = let a = c.args in omega (arith, name-length a.w.writer a.w.number)

pub bounds-out-p : goal.bounds-out-p
bounds-out-p c = let a = c.args in omega (arith, name-length a.w.writer a.w.number, c.put_number-p.auto.out)

pub overflow_add-p : goal.overflow_add-p
overflow_add-p c = let a = c.args in omega (arith, name-length a.w.writer a.w.number)

pub put_number-requires : goal.put_number-requires
put_number-requires c = let a = c.args in
    simp length-set (omega (arith, name-length a.w.writer a.w.number, c.put_number-p.auto.out))

pub returns : goal.returns
returns c = let a = c.args in
    let P = c.put_number-p in
    let Q = c.put_number in
    left-last Q.ensures (left_put (stored_one refl) (left_put P.ensures (left-from (name_parts a.w.writer a.w.number))))
