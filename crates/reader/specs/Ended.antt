-- A line that a LF ends.
use Rattle.std.specs.Prelude.{◌+◌, ◌<◌, ◌≤◌, ◌≡◌}
use Rattle.laws.specs.Kit.{ℕ, ◌∙◌, List, length, true, arith, ltb-true}
use Rattle.schedule.specs.{Lines.{line_at, ended_at, next_at}, Link.LineLaws.{ended_is, next_more, next_le}}

-- behind it a reader stands further on, and within the text
pub ended_on : (s : List ℕ) (at : ℕ) → at ≤ length s → ended_at s at ≡ true → (at < next_at s at) × (next_at s at ≤ length s)
ended_on s at h e =
    let l : at + length (line_at s at) < length s = ltb-true _ _ (ended_is s at h ∙ e) in
    (next_more s at (omega (arith, l)), next_le s at)
