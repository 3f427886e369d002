use Rattle.std.proofs.Common.{rules}
use Rattle.std.specs.Prelude.{◌+◌, ◌-◌, ◌≡◌, ◌≤◌, ◌∷◌}
use Rattle.std.specs.{List.{position, position_or_len}, Option.{unwrap_or}}
use Rattle.std.specs.declared.option.Option.{Option}
use Rattle.std.proofs.lemmas.{Iterator.{YieldsList-from_slice}, Iterator.Search.{position_from_yields_List}, List.Sums.{prefix_len-le-length}}
use Rattle.laws.specs.Kit.{ℕ, suc, Bool, ap, arith, List, [], not, refl, sym, ◌∙◌, length, take, drop, eqb, min, ltb, ltb-true, ltb-false, take_all, drop_of_length-le, length-drop}
use Rattle.laws.specs.Loop.{cases}
use Rattle.schedule.specs.Lines.{LF, until_lF, line_at, start_at}
use Rattle.schedule.proofs.line_at.Goals as goal

abbrev is_end : ℕ → Bool
is_end b = eqb b LF

-- the bytes before the first LF
before : (l : List ℕ) → take (position_or_len is_end l) l ≡ until_lF l
unfolding until_lF
before [] = refl
before (b ∷ l) =
    let n = position_or_len is_end l in
    let e : 1 + n ≡ suc n = omega arith in
    cases (eqb b LF) (λ t. rw t) (λ t. rw (t, e) (ap (λ t. b ∷ t) (before l)))

-- as `position` gives them
found : (l : List ℕ) (r : Option ℕ) → r ≡ position is_end l → take (unwrap_or r (length l)) l ≡ until_lF l
found l r e =
    let n = position_or_len is_end l in
    rw e (cases (ltb n (length l)) (λ t. rw t (before l))
    (λ t. let q : length l ≡ n = omega (arith, ltb-false n (length l) t, prefix_len-le-length (λ b. not (is_end b)) l) in
    rw (t, q) (before l)))

-- from the place on, or from the end
part : (s : List ℕ) (at m : ℕ) → m ≡ min at (length s) → take (length s - m) (drop m s) ≡ drop at s
part s at m e =
    take_all (length s - m) (drop m s) (omega (arith, length-drop m s))
    ∙ cases (ltb at (length s))
    (λ t. let q : m ≡ at = omega (arith, ltb-true at (length s) t) in rw q)
    (λ t. let l : length s ≤ at = ltb-false at (length s) t in
    let k : length s ≤ m = omega arith in
    drop_of_length-le s k ∙ sym (drop_of_length-le s l))

pub returns-clause-bytes : goal.returns-clause-bytes
unfolding line_at
returns-clause-bytes c =
    let s = c.args.s.now in
    let rest = take (length s - c.min.result) (drop c.min.result s) in
    let p : c.position.result ≡ position is_end rest = position_from_yields_List is_end _ _ _ c.position.ensures.ran (YieldsList-from_slice rest (search rules)) (λ x b q k. search rules) in
    rw c.unwrap_or-len.ensures (found rest c.position.result p ∙ ap until_lF (part s c.args.at c.min.result c.min.ensures))

pub returns-clause-place : goal.returns-clause-place
unfolding start_at
returns-clause-place c =
    let a = c.args in
    let m = c.min.ensures in
    ap (λ (n : ℕ). (a.s.ref_ptr.0, n + a.s.ref_ptr.1))
    (cases (ltb a.at (length a.s.now)) (λ t. rw t (omega (arith, m, ltb-true a.at (length a.s.now) t))) (λ t. rw t (omega (arith, m, ltb-false a.at (length a.s.now) t))))
