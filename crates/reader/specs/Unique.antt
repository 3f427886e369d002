-- No choice is left: a reader is its schedule and its place. (Of a line, `schedule`'s `line-at-unique` says so.)
use Rattle.std.specs.Prelude.{◌≡◌}
use Rattle.laws.specs.Kit.{ℕ, sym, ◌∙◌, List}
use Rattle.std.specs.Borrow.{Bor}
use Rattle.reader.specs.declared.Reader.{Reader}

pub reader_unique : (text : Bor (List ℕ)) (at : ℕ) (r r' : Reader) → (r.text ≡ text) × (r.at ≡ at) → (r'.text ≡ text) × (r'.at ≡ at) → r ≡ r'
reader_unique text at r r' a b = λ i. record { text = (a.0 ∙ sym b.0) i; at = (a.1 ∙ sym b.1) i }
