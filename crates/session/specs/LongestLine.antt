-- The longest line of an answer follows from the limits: `A`, a name for each write that may be open, and the LF.
use Rattle.std.specs.Prelude.{◌+◌, ◌-◌, ◌*◌, ◌≤◌, ◌≡◌}
use Rattle.laws.specs.{Kit.{ℕ, refl, arith, length, length-append}, Tab.{tab, tab_from}}
use Rattle.text.specs.Number.{digits, decimal}
use Rattle.machine.specs.{Table.{most_desks, most_writes, most_open, name, State}, Answer.{Answer, began, shows, wrote, holds, applies}}
use Rattle.machine.specs.{Answer.{judged, refused, unset, shown, Yes, No, Unknown}, Rules.{Rules}}
use Rattle.machine.proofs.HeldCount.{HeldCounted}
use Rattle.answer.specs.{Bytes.{name_bytes, names_bytes, answer_line}, Link.NameLengths.{shown-length}}
use Rattle.session.specs.{LineBounds.{decimal-short}}
use Rattle.session.specs.AnswersBound.{each_name, name-bytes, names-bytes, refused-bytes}

-- a name and the space before it: the digits of a desk, a point, the digits of a number
pub each-name-is : each_name ≡ 1 + length (decimal most_desks) + 1 + length (decimal most_writes)
unfolding decimal digits
each-name-is = refl

abbrev pub longest_line : ℕ
longest_line = 1 + each_name * most_open + 1

-- 578 bytes; so long is the answer that names the last 64 writes of the last desk
pub longest_line_is : longest_line ≡ 578
longest_line_is = refl

pub longest_line_met : length (answer_line (applies (tab most_open (λ j. name most_desks (most_writes - j))))) ≡ longest_line
unfolding names_bytes name_bytes decimal digits tab tab_from
longest_line_met = refl

pub answer-most : {s s' : State} → Rules s → Rules s' → (a : Answer) → HeldCounted s a s' → ((l : _) → a ≡ applies l → length l ≤ most_open)
    → length (answer_line a) ≤ longest_line
answer-most r r' began c few = omega arith
answer-most r r' (shows unset) c few = omega arith
answer-most r r' (shows (shown v u k)) c few =
    simp length-append (omega (arith, shown-length v u k, decimal-short 0 v (omega arith), name-bytes r.frame (name u k) c.1.0))
answer-most r r' (wrote w) c few = simp length-append (omega (arith, name-bytes r'.frame w c.0))
answer-most r r' (holds w) c few = simp length-append (omega (arith, name-bytes r.frame w c.0))
answer-most r r' (applies l) c few = simp length-append (omega (arith, names-bytes r.frame l c.0, few l refl))
answer-most r r' (judged Yes) c few = omega arith
answer-most r r' (judged No) c few = omega arith
answer-most r r' (judged Unknown) c few = omega arith
answer-most r r' (refused e) c few = omega (arith, refused-bytes e)
