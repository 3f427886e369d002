-- One value only stands for what writing a line comes to.
use Rattle.std.specs.Prelude.{◌≡◌, Option, Some, None}
use Rattle.laws.specs.Kit.{ℕ, refl, sym, ap, ◌∙◌}
use Rattle.answer.specs.Outcome.{PutAnswer, upto, refused, written_of}

abbrev pub written_for : PutAnswer → Option ℕ
written_for (upto p) = Some p
written_for (refused r) = None

written_back : (w : Option ℕ) → written_for (written_of w) ≡ w
written_back (Some p) = refl
written_back None = refl

pub written_is : (w : Option ℕ) {x : PutAnswer} → written_of w ≡ x → w ≡ written_for x
written_is w e = sym (written_back w) ∙ ap written_for e
