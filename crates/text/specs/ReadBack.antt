-- A number that was written reads as itself, and a number that is read is written as the same bytes.
use Rattle.std.specs.Prelude.{◌+◌, ◌-◌, ◌*◌, ◌/◌, ◌%◌, ◌<◌, ◌≤◌, ◌≡◌, ◌∷◌, ◌++◌, ◌&&◌}
use Rattle.laws.specs.Kit.{ℕ, zero, suc, refl, sym, ap, ◌∙◌, List, [], append_assoc}
use Rattle.laws.specs.Kit.{append-nil, Bool, true, false, some, arith, zero-add, ne_eqb, le-leb, leb-true, ltb-true, ltb-false}
use Rattle.laws.specs.{Kit.{eqb-false, eqb, leb, ltb, get_or}, Lists.{every, every_first, every-cons}, Loop.{cases}, Says.{clash}}
use Rattle.text.specs.{Number.{most_number, digits, decimal, is_digit, read_on, unpadded, is_number, number}, Link.Decimal.{digits-zero}}
use Rattle.text.specs.{Link.Decimal.{decimal-one, decimal-more, read-decimal}, Fields.{is_digit_lem}}

-- what is written --

every-last : (l : List ℕ) (b : ℕ) → every is_digit l ≡ true → is_digit b ≡ true → every is_digit (l ++ b ∷ []) ≡ true
unfolding every
every-last [] b e d = every_first is_digit b [] d
every-last (a ∷ l) b e d = let c = every-cons is_digit a l e in every_first is_digit a (l ++ b ∷ []) c.0 ∙ every-last l b c.1 d

digits-all : (f n : ℕ) → every is_digit (digits f n) ≡ true
unfolding digits every
digits-all zero n = refl
digits-all (suc f) zero = refl
digits-all (suc f) (suc n) = every-last (digits f (suc n / 10)) _ (digits-all f (suc n / 10)) (is_digit_lem _ (omega arith) (omega arith))

pub decimal-all : (n : ℕ) → every is_digit (decimal n) ≡ true
unfolding decimal
decimal-all n = every-last (digits n (n / 10)) _ (digits-all n (n / 10)) (is_digit_lem _ (omega arith) (omega arith))

-- no 0 leads
leads : (l : List ℕ) (b : ℕ) → 48 < get_or l 0 0 → 48 < get_or (l ++ b ∷ []) 0 0
leads [] b h = absurd (omega arith)
leads (a ∷ l) b h = h

digits_lead : (f n : ℕ) → 0 < n → n ≤ f → 48 < get_or (digits f n) 0 0
unfolding digits
digits_lead zero n p h = absurd (omega arith)
digits_lead (suc f) zero p h = absurd (omega arith)
digits_lead (suc f) (suc n) p h =
    cases (ltb (suc n) 10)
    (λ e. let z : suc n / 10 ≡ 0 = omega (arith, ltb-true (suc n) 10 e) in rw (z, digits-zero f) (omega (arith, ltb-true (suc n) 10 e)))
    (λ e. leads (digits f (suc n / 10)) _ (digits_lead f (suc n / 10) (omega (arith, ltb-false (suc n) 10 e)) (omega arith)))

unpadded-last : (l : List ℕ) (b : ℕ) → 48 < get_or l 0 0 → unpadded (l ++ b ∷ []) ≡ true
unpadded-last [] b h = absurd (omega arith)
unpadded-last (a ∷ []) b h = rw (ne_eqb a 48 (λ e. (omega arith)))
unpadded-last (a ∷ c ∷ l) b h = rw (ne_eqb a 48 (λ e. (omega arith)))

decimal-unpadded : (n : ℕ) → unpadded (decimal n) ≡ true
unfolding decimal
decimal-unpadded n =
    cases (ltb n 10)
    (λ e. ap unpadded (decimal-one n (ltb-true n 10 e)))
    (λ e. unpadded-last (digits n (n / 10)) _ (digits_lead n (n / 10) (omega (arith, ltb-false n 10 e)) (omega arith)))

pub read-written : (n : ℕ) → n ≤ most_number → number (decimal n) ≡ some n
unfolding number
read-written n h = rw (decimal-unpadded n, decimal-all n, read-decimal n, le-leb n most_number h)

-- what is read --

both : (a b : Bool) → (a && b) ≡ true → (a ≡ true) × (b ≡ true)
both true b e = (refl, e)
both false b e = clash e

pub digit_least : (b : ℕ) → is_digit b ≡ true → 48 ≤ b
unfolding is_digit
digit_least b e = leb-true _ _ (both (leb 48 b) (leb b 57) e).0

digit_most : (b : ℕ) → is_digit b ≡ true → b ≤ 57
unfolding is_digit
digit_most b e = leb-true _ _ (both (leb 48 b) (leb b 57) e).1

-- a digit behind a number
digit_behind : (v b : ℕ) → 0 < v → 48 ≤ b → b ≤ 57 → decimal (10 * v + (b - 48)) ≡ decimal v ++ b ∷ []
digit_behind v b p l h =
    let q : (10 * v + (b - 48)) / 10 ≡ v = omega arith in
    let m : 48 + (10 * v + (b - 48)) % 10 ≡ b = omega arith in
    decimal-more (10 * v + (b - 48)) (omega arith) ∙ rw (q, m)

write-on : (v : ℕ) (w : List ℕ) → 0 < v → every is_digit w ≡ true → decimal (read_on v w) ≡ decimal v ++ w
unfolding read_on
write-on v [] p e = sym (append-nil (decimal v))
write-on v (b ∷ w) p e =
    let c = every-cons is_digit b w e in
    write-on (10 * v + (b - 48)) w (omega arith) c.1 ∙ rw (digit_behind v b p (digit_least b c.0) (digit_most b c.0)) (append_assoc (decimal v) (b ∷ []) w)

one_digit : (b : ℕ) → is_digit b ≡ true → decimal (b - 48) ≡ b ∷ []
one_digit b e =
    let l = digit_least b e in
    let h = digit_most b e in
    let k : 48 + (b - 48) ≡ b = omega arith in
    decimal-one (b - 48) (omega arith) ∙ rw k

write_read : (w : List ℕ) → unpadded w ≡ true → every is_digit w ≡ true → decimal (read_on 0 w) ≡ w
unfolding read_on
write_read [] u e = clash u
write_read (b ∷ []) u e = rw (zero-add (b - 48)) (one_digit b (every-cons is_digit b [] e).0)
write_read (b ∷ c ∷ l) u e =
    let d = every-cons is_digit b (c ∷ l) e in
    rw (zero-add (b - 48)) (cases (eqb b 48)
    (λ q. clash (rw q at u))
    (λ q. write-on (b - 48) (c ∷ l) (omega (arith, digit_least b d.0, eqb-false b 48 q)) d.1 ∙ rw (one_digit b d.0)))

pub written_read : (w : List ℕ) (n : ℕ) → number w ≡ some n → decimal n ≡ w
unfolding number
written_read w n q =
    cases (is_number w)
    (λ e. let m : read_on 0 w ≡ n = cc in
    let a = both (unpadded w) (every is_digit w && leb (read_on 0 w) most_number) e in
    rw (← m) (write_read w a.0 (both (every is_digit w) (leb (read_on 0 w) most_number) a.1).0))
    (λ e. clash (cc))
