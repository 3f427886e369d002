use Rattle.std.specs.Prelude.{◌+◌, ◌≤◌, ◌≡◌}
use Rattle.laws.specs.{Kit.{ℕ, List, arith, min, length, ltb, ltb-true, ltb-false, drop_of_length-le}, Loop.{cases}}
use Rattle.schedule.specs.{Lines.{line_at, end_at, until_lF}, Link.LineLaws.{passed_none, passed_end, end_is}}
use Rattle.reader.proofs.Reader.end.Goals as goal

-- where the line begins, and its bytes
ends : (s : List ℕ) (at : ℕ) → min at (length s) + length (line_at s at) ≡ end_at s at
unfolding line_at until_lF
ends s at =
    cases (ltb at (length s))
    (λ t. omega (arith, end_is s at (omega (arith, ltb-true at (length s) t)), ltb-true at (length s) t))
    (λ t. let l : length s ≤ at = ltb-false at (length s) t in
    rw (drop_of_length-le s l) (omega (arith, passed_end s at at l (passed_none s at))))

pub returns : goal.returns
returns c = rw (c.min.ensures, c.line.ensures.0) (ends _ _)
