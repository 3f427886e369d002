use Rattle.std.proofs.Common.{rules}
use Rattle.std.specs.Prelude.{◌+◌, ◌-◌, ◌/◌, ◌%◌, ◌≤◌, ◌<◌, ◌≡◌, ◌∷◌}
use Rattle.laws.specs.Kit.{ℕ, refl, sym, ap, ◌∙◌, List, [], arith, length, set, sets, ltb, ltb-true, ltb-false}
use Rattle.laws.specs.{Stores.{sets_last}, Loop.{cases}}
use Rattle.text.specs.{Number.{decimal}, Link.Decimal.{decimal-one, decimal-more, decimal_longer, decimal-some}}
use Rattle.text.proofs.put_number.Goals as goal

-- a number of two digits or more; of one
long : (n : ℕ) → 1 < length (decimal n) → 10 ≤ n
long n h = cases (ltb n 10) (λ t. absurd (omega (arith, ap length (decimal-one n (ltb-true n 10 t))))) (λ t. ltb-false n 10 t)

short : (n : ℕ) → length (decimal n) ≤ 1 → n < 10
short n h = cases (ltb n 10) (λ t. ltb-true n 10 t) (λ t. absurd (omega (arith, decimal_longer n (ltb-false n 10 t), decimal-some (n / 10))))

-- a turn stores the last digit of what is left
record Turn (out : List ℕ) (at p n : ℕ) : Type 0 where
  place : p ≡ at + length (decimal (n / 10))
  same : sets (set out p (48 + n % 10)) at (decimal (n / 10)) ≡ sets out at (decimal n)

turn : (out : List ℕ) (at p n : ℕ) → at + 1 ≤ p → p + 1 ≡ at + length (decimal n) → Turn out at p n
turn out at p n h e =
    let l = long n (omega arith) in
    let q : p ≡ at + length (decimal (n / 10)) = omega (arith, decimal_longer n l) in
    record { place = q; same = rw (decimal-more n l, q) (sym (sets_last (decimal (n / 10)) out at (48 + n % 10))) }

-- one digit is left
last : (out : List ℕ) (at n : ℕ) → length (decimal n) ≤ 1 → set out at (48 + n) ≡ sets out at (decimal n)
last out at n h = let d : decimal n ≡ (48 + n) ∷ [] = decimal-one n (short n h) in rw d refl

pub loop-p-preserved : goal.loop-p-preserved
loop-p-preserved c =
    let L = c.loop-p in
    let w = turn L.out c.args.at (L.p - 1) L.left (search rules) (omega (arith, L.invariant.place)) in
    record { place = w.place; same = w.same ∙ L.invariant.same }

pub overflow_cast-out-2 : goal.overflow_cast-out-2
overflow_cast-out-2 c = let L = c.loop-p in let s = short L.left (omega (arith, L.invariant.place)) in search rules

pub overflow_add-out-2 : goal.overflow_add-out-2
overflow_add-out-2 c = let L = c.loop-p in let s = short L.left (omega (arith, L.invariant.place)) in search rules

pub bounds-out-at : goal.bounds-out-at
bounds-out-at c = let L = c.loop-p in omega (arith, decimal-some c.args.k)

pub returns : goal.returns
returns c =
    let L = c.loop-p in
    record {
      stored = last L.out c.args.at L.left (omega (arith, L.invariant.place)) ∙ L.invariant.same;
      behind = omega arith;
    }
