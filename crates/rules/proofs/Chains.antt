-- What the chains, the array's `==` and the slices of the code say, in the words of the test.
use Rattle.std.specs.Prelude.{◌+◌, ◌-◌, ◌<◌, ◌≤◌, ◌≡◌, Option, Some, None}
use Rattle.std.specs.Option.{MatchOption, unwrap_or}
use Rattle.std.specs.Cmp.Lexicographic.{pointwise}
use Rattle.std.specs.Prelude.{IfSome, IsSomeAnd, IsTrue, option_map}
use Rattle.std.specs.Fn.{CalledAt}
use Rattle.std.specs.Iterator.Runs.{Run, SomeRun, EachRunFrom, ItemsCountDown, NoItemPasses, EndsAtFirstPassing, CallKeepsClosure, IsIdenticalRun}
use Rattle.std.specs.declared.ops.RangeInclusive.{RangeInclusive}
use Rattle.std.specs.Range.{range_inclusive_start, range_inclusive_end, range_inclusive_exhausted}
use Rattle.std.proofs.iter.runs.Sources.{nat_range_inclusive_steps_back, inclusive_listed_back}
use denote.{Param.Members.{Mut}, Ref.{Bor}}
use Rattle.std.proofs.lemmas.{Bool.Decides.{Decides-eqb}, Slice.Eq.{slice_eq-Decides}}
use Rattle.laws.specs.Kit.{ℕ, suc, sym, ap, ◌∙◌, List, Bool, true, false, arith, length, ext_get_or, eqb}
use Rattle.laws.specs.{Kit.{ltb, ltb-true, ltb-false, length-replicate}, Loop.{cases}, Says.{says-one, apart}, Update.{same_or}}
use Rattle.clock.specs.Vectors.{places, place}
use Rattle.table.specs.Beginning.{zeros-at}
use Rattle.rules.specs.{Mirror.Test.{noughts, nought, gap_of}}
use Rattle.rules.specs.Link.{Gap.{gap_most, gap_above, gap_not}}

-- `==` with an array of zeros
pub nought_of_eq : (v : List ℕ) (r : Bool) → length v ≡ places → r ≡ pointwise eqb v noughts → r ≡ (nought v).passes
nought_of_eq v r n e =
    says-one r (nought v).passes (record { to = λ t k a b. ap (λ (l : List ℕ). place l k) (d.0 t) ∙ zeros-at (suc places) k; from = λ h. d.1 (all_of h) }) (nought v).says
  where
    d : (r ≡ true → v ≡ noughts) × (v ≡ noughts → r ≡ true)
    d = slice_eq-Decides Decides-eqb v noughts r e

    all_of : ((t : ℕ) → 1 ≤ t → t ≤ places → place v t ≡ 0) → v ≡ noughts
    all_of h =
        ext_get_or 0 v noughts (n ∙ sym (length-replicate {A = ℕ} places 0))
        (λ k l. h (suc k) (omega arith) (omega (arith, n)) ∙ sym (zeros-at places k))

value : (o : Option ℕ) (k : ℕ) (P : ℕ → Type 0) → option_map (λ y. y) o ≡ Some k → IfSome o P → P k
value None k P e h = absurd (let z : ◌≡◌ {A = ℕ} 0 1 = cc in omega arith)
value (Some x) k P e h = let q : x ≡ k = cc in rw q at h

found : (o : Option ℕ) (k : ℕ) (P : ℕ → Type 0) → option_map (λ y. y) o ≡ Some k → IsSomeAnd o P → P k
found None k P e h = absurd h
found (Some x) k P e h = let q : x ≡ k = cc in rw q at h

-- `find` over the numbers from n down to 1: x passed, and none above it
abbrev pub FoundDown : (ℕ → Type 0) → (ℕ → Type 0) → ℕ → Option ℕ → Type 0
FoundDown Yes No n r = MatchOption r ((k : ℕ) → 1 ≤ k → k ≤ n → No k) (λ x. (x ≤ n) × Yes x × ((k : ℕ) → x < k → k ≤ n → No k))

pub found_down : {S F : Type 0} {steps : S → Option ℕ → S → Type 0} {g : Mut F (Bor ℕ × Unit {0}) Bool} {f : F} {s : S} (Yes No : ℕ → Type 0) (n : ℕ) (r : Option ℕ)
    → EachRunFrom steps s (λ q. ItemsCountDown q 1 (n + 1))
    → SomeRun steps s (λ q. MatchOption r (IsTrue q.whole × NoItemPasses q g f) (EndsAtFirstPassing q g f))
    → CallKeepsClosure g f → ((k : ℕ) → CalledAt g f k true f → Yes k) → ((k : ℕ) → CalledAt g f k false f → No k) → FoundDown Yes No n r
found_down {steps = steps} {g = g} {f = f} Yes No n r down run keeps yes' no' = ends r run.2
  where
    q : Run steps
    q = run.0

    c : ItemsCountDown q 1 (n + 1)
    c = down q q.seen run.1

    ends : (o : Option ℕ) → MatchOption o (IsTrue q.whole × NoItemPasses q g f) (EndsAtFirstPassing q g f) → FoundDown Yes No n o
    ends None m = λ k a b.
        let l : q.len ≡ n + 1 - 1 = c.1 m.0 in
        let i : n + 1 - 1 - (n - k) ≡ k = omega arith in
        no' k (value (q.at (n - k)) k (λ x. CalledAt g f x false f) (rw i at (c.3 (n - k) (omega arith))) (m.1 keeps (n - k)))
    ends (Some x) m =
        let i : ℕ = m.0 in
        let e : (x + i + 1 ≡ n + 1) × (1 ≤ x) = rw m.2 at (c.2 i) in (
          omega arith,
          yes' x (m.3 keeps).0,
          λ k a b.
              let j : n + 1 - 1 - (n - k) ≡ k = omega arith in
              no' k (found (q.at (n - k)) k (λ y. CalledAt g f y false f) (rw j at (c.3 (n - k) (omega (arith, m.1)))) ((m.3 keeps).1 (n - k) (omega arith))),
        )

-- the numbers from n down to 1, as `(1..=n).rev()` gives them
pub down_of_rev : {S : Type 0} {steps : S → Option ℕ → S → Type 0} (p : Run steps) (s : RangeInclusive ℕ) (n : ℕ)
    → range_inclusive_start s ≡ 1 → range_inclusive_end s ≡ n → range_inclusive_exhausted s ≡ false → SomeRun nat_range_inclusive_steps_back s (λ q. IsIdenticalRun p q) → ItemsCountDown p 1 (n + 1)
down_of_rev p s n a b z d = (
  omega (arith, i.0, same.0.0),
  (λ w. sym same.0.0 ∙ i.1 (same.1 ∙ w)),
  (λ k. rw (same.0.2 k) at (i.2 k)),
  λ k l. rw (same.0.2 k) at (i.3 k (omega (arith, same.0.0))),
)
  where
    q : Run nat_range_inclusive_steps_back
    q = d.0

    same : IsIdenticalRun p q
    same = d.2

    i : ItemsCountDown q 1 (n + 1)
    i =
        let h = inclusive_listed_back q q.seen in
        let e : h.0 ≡ 1 = h.2 ∙ ap (λ (r : RangeInclusive ℕ). range_inclusive_start r) d.1 ∙ a in
        let f : h.1 ≡ n + 1 = h.3 ∙ ap (λ (r : RangeInclusive ℕ). range_inclusive_end r + 1) d.1 ∙ ap (λ (m : ℕ). m + 1) b in
        rw (e, f) at (h.4 (ap (λ (r : RangeInclusive ℕ). range_inclusive_exhausted r) d.1 ∙ z)).0

-- the largest number that f has not, found from above
pub gap_found : (f : ℕ → Bool) (n : ℕ) (r : Option ℕ)
    → FoundDown (λ k. f k ≡ false) (λ k. f k ≡ true) n r
    → unwrap_or r 0 ≡ gap_of f n
gap_found f n None h =
    same_or (gap_of f n) 0 (λ e. sym e)
    (λ ne. apart (f (gap_of f n)) (h (gap_of f n) (omega arith) (gap_most f n)) (gap_not f n (omega arith)))
gap_found f n (Some x) h =
    cases (ltb x (gap_of f n))
    (λ l. let b = ltb-true x (gap_of f n) l in apart (f (gap_of f n)) (h.2 (gap_of f n) b (gap_most f n)) (gap_not f n (omega arith)))
    (λ l. let b = ltb-false x (gap_of f n) l in
    same_or x (gap_of f n) (λ e. e) (λ ne. apart (f x) (gap_above f n x (omega arith) h.0) h.1))
