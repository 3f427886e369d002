-- Numbers in decimal: by their last digit, how long they are, and that they read back.
use Rattle.std.specs.Prelude.{◌+◌, ◌-◌, ◌*◌, ◌/◌, ◌%◌, ◌^◌, ◌<◌, ◌≤◌, ◌≡◌, ◌∷◌, ◌++◌}
use Rattle.laws.specs.Kit.{ℕ, zero, suc, refl, sym, List, [], arith, pow-suc}
use Rattle.laws.specs.Kit.{one-le-pow, zero-lt-suc, length, length-append}
use Rattle.text.specs.Number.{digits, decimal, read_on}

pub digits-zero : (f : ℕ) → digits f 0 ≡ []
unfolding digits
digits-zero zero = refl
digits-zero (suc f) = refl

-- more turns change nothing
digits-turns : (f g n : ℕ) → n ≤ f → n ≤ g → digits f n ≡ digits g n
unfolding digits
digits-turns zero g zero h k = sym (digits-zero g)
digits-turns zero g (suc n) h k = absurd (omega arith)
digits-turns (suc f) g zero h k = sym (digits-zero g)
digits-turns (suc f) zero (suc n) h k = absurd (omega arith)
digits-turns (suc f) (suc g) (suc n) h k =
    rw (digits-turns f g (suc n / 10) (omega arith) (omega arith))

digits_decimal : (f n : ℕ) → 0 < n → n ≤ f → digits f n ≡ decimal n
unfolding digits decimal
digits_decimal zero n p h = absurd (omega arith)
digits_decimal (suc f) zero p h = absurd (omega arith)
digits_decimal (suc f) (suc n) p h = rw (digits-turns f (suc n) (suc n / 10) (omega arith) (omega arith))

-- one digit
pub decimal-one : (n : ℕ) → n < 10 → decimal n ≡ (48 + n) ∷ []
unfolding decimal
decimal-one n h =
    let e : n / 10 ≡ 0 = omega arith in
    let m : n % 10 ≡ n = omega arith in
    rw (e, m, digits-zero n)

-- the last digit behind the others
pub decimal-more : (n : ℕ) → 10 ≤ n → decimal n ≡ decimal (n / 10) ++ (48 + n % 10) ∷ []
unfolding decimal
decimal-more n h = rw (digits_decimal n (n / 10) (omega arith) (omega arith))

pub decimal_longer : (n : ℕ) → 10 ≤ n → length (decimal n) ≡ length (decimal (n / 10)) + 1
decimal_longer n h = rw (decimal-more n h, length-append)

-- at least one digit
pub decimal-some : (n : ℕ) → 0 < length (decimal n)
unfolding decimal
decimal-some n = rw length-append (omega arith)

-- w + 1 digits
pub decimal-length : (w n : ℕ) → 10 ^ w ≤ n → n < 10 ^ suc w → length (decimal n) ≡ suc w
decimal-length zero n l h = rw (decimal-one n h)
decimal-length (suc w) n l h =
    let p : 10 ^ suc w ≡ 10 ^ w * 10 = pow-suc 10 w in
    let q : 10 ^ suc (suc w) ≡ 10 ^ suc w * 10 = pow-suc 10 (suc w) in
    let o : 0 < 10 ^ w = one-le-pow w 10 (zero-lt-suc 9) in
    rw (decimal_longer n (omega arith), decimal-length w (n / 10) (omega arith) (omega arith)) (omega arith)

read-last : (l : List ℕ) (v b : ℕ) → read_on v (l ++ b ∷ []) ≡ 10 * read_on v l + (b - 48)
unfolding read_on
read-last [] v b = refl
read-last (a ∷ l) v b = read-last l (10 * v + (a - 48)) b

read-digits : (f n : ℕ) → n ≤ f → read_on 0 (digits f n) ≡ n
unfolding digits read_on
read-digits zero n h = omega arith
read-digits (suc f) zero h = refl
read-digits (suc f) (suc n) h =
    rw (read-last (digits f (suc n / 10)), read-digits f (suc n / 10) (omega arith)) (omega arith)

-- a number reads back, so no two numbers are written alike
pub read-decimal : (n : ℕ) → read_on 0 (decimal n) ≡ n
unfolding decimal
read-decimal n = rw (read-last (digits n (n / 10)), read-digits n (n / 10) (omega arith)) (omega arith)
