-- The numbers of a line's fields from a place on, and what reading one field does to them.
use Rattle.std.specs.Prelude.{◌+◌, ◌*◌, ◌-◌, ◌<◌, ◌≤◌, ◌≡◌, ◌∷◌, ◌⊎◌, ◌&&◌, Some, None}
use Rattle.std.specs.Prelude as std
use Rattle.laws.specs.Kit.{ℕ, refl, ◌∙◌, List, [], inl, inr, true, false, and-false, Option}
use Rattle.laws.specs.Kit.{none, some, arith, zero-add, add-one, ne_eqb, le-leb, lt-leb, eqb, leb, length, get_or, drop, drop_of_length-le}
use Rattle.laws.specs.{Kit.{drop-cons}, Lists.{every, every_first, every-fails}, Loop.{pick, cases}}
use Rattle.text.specs.{declared.Field.{Field}, Number.{most_number, is_digit, read_on}}
use Rattle.text.specs.{Number.{unpadded, when, number}, Words.{space, onto, words, read_onto, numbers}}

-- what follows a word: nothing, or a space and numbers
unfoldable pub rest : List ℕ → Option (List ℕ)
rest [] = some []
rest (b ∷ l) = pick (eqb b space) (numbers (words l)) none

abbrev pub fields_at : List ℕ → ℕ → Option (List ℕ)
fields_at s at = rest (drop at s)

-- the same in the midst of a number, whose digits so far make v
abbrev pub number_on : ℕ → List ℕ → Option ℕ
number_on v w = when (every is_digit w && leb (read_on v w) most_number) (read_on v w)

abbrev pub words_on : ℕ → List (List ℕ) → Option (List ℕ)
words_on v [] = read_onto (number_on v []) (some [])
words_on v (w ∷ ws) = read_onto (number_on v w) (numbers ws)

unfoldable pub digits_on : ℕ → List ℕ → Option (List ℕ)
digits_on v l = words_on v (words l)

-- a byte that is no digit
abbrev pub NoDigit : ℕ → Type 0
NoDigit b = (b < 48) ⊎ (57 < b)

pub is_digit_lem : (b : ℕ) → 48 ≤ b → b ≤ 57 → is_digit b ≡ true
unfolding is_digit
is_digit_lem b l h = rw (le-leb 48 b l, le-leb b 57 h)

no_digit : (b : ℕ) → NoDigit b → is_digit b ≡ false
unfolding is_digit
no_digit b (inl h) = rw (lt-leb 48 b h)
no_digit b (inr h) = rw (lt-leb b 57 h, and-false (leb 48 b))

-- in the midst of a number --

read_grows : (v : ℕ) (w : List ℕ) → v ≤ read_on v w
unfolding read_on
read_grows v [] = omega arith
read_grows v (b ∷ w) = omega (arith, read_grows (10 * v + (b - 48)) w)

number_large : (v : ℕ) (w : List ℕ) → most_number < v → number_on v w ≡ none
number_large v w h = rw (lt-leb (read_on v w) most_number (omega (arith, read_grows v w)), and-false (every is_digit w))

-- too large already
pub digits_large : (v : ℕ) (l : List ℕ) → most_number < v → digits_on v l ≡ none
unfolding digits_on
digits_large v l h = elim (words l) as (λ ws. words_on v ws ≡ none) [ [] ↦ rw (number_large v [] h) | w ∷ ws ↦ rw (number_large v w h) ]

-- one digit more
pub digits_more : (v b : ℕ) (l : List ℕ) → 48 ≤ b → b ≤ 57 → digits_on v (b ∷ l) ≡ digits_on (10 * v + (b - 48)) l
unfolding digits_on words numbers every read_on
digits_more v b l low high =
    let d = is_digit_lem b low high in
    rw (ne_eqb b 32 (λ e. (omega arith))) (elim (words l) as (λ ws. words_on v (onto b ws) ≡ words_on (10 * v + (b - 48)) ws)
    [ [] ↦ rw (every_first is_digit b [] d) | w ∷ ws ↦ rw (every_first is_digit b w d) ])

-- the number ends, at the end or at another byte
pub digits_end : (v : ℕ) → v ≤ most_number → digits_on v [] ≡ read_onto (some v) (rest [])
unfolding digits_on words rest numbers every read_on
digits_end v h = rw (le-leb v most_number h)

pub digits_stop : (v b : ℕ) (l : List ℕ) → v ≤ most_number → NoDigit b → digits_on v (b ∷ l) ≡ read_onto (some v) (rest (b ∷ l))
unfolding digits_on words rest every read_on
digits_stop v b l h n =
    cases (eqb b 32) (λ e. rw (e, le-leb v most_number h))
    (λ e. rw e (elim (words l) as (λ ws. words_on v (onto b ws) ≡ none)
    [ [] ↦ rw (every-fails is_digit b [] (no_digit b n)) | w ∷ ws ↦ rw (every-fails is_digit b w (no_digit b n)) ]))

-- the first digit, after a space --

-- 0 alone
pub digit_zero : (l : List ℕ) → rest (32 ∷ 48 ∷ l) ≡ read_onto (some 0) (rest l)
unfolding rest words numbers number every is_digit read_on
digit_zero [] = refl
digit_zero (b ∷ l) =
    cases (eqb b 32) (λ e. rw e) (λ e. rw e (elim (words l) as (λ ws. numbers (onto 48 (onto b ws)) ≡ none) [ [] ↦ refl | w ∷ ws ↦ refl ]))

-- 1 to 9
pub digit_first : (d : ℕ) (l : List ℕ) → 48 < d → d ≤ 57 → rest (32 ∷ d ∷ l) ≡ digits_on (d - 48) l
unfolding rest words numbers number every read_on digits_on
digit_first d l low high = rw (ne_eqb d 32 (λ e. (omega arith))) (go (words l) ∙ rw (zero-add (d - 48)))
  where
    go : (ws : List (List ℕ)) → numbers (onto d ws) ≡ words_on (0 + (d - 48)) ws
    go [] = rw (every_first is_digit d [] (is_digit_lem d (omega arith) high))
    go ([] ∷ ws) = rw (every_first is_digit d [] (is_digit_lem d (omega arith) high))
    go ((c ∷ w) ∷ ws) = rw (ne_eqb d 48 (λ e. (omega arith)), every_first is_digit d (c ∷ w) (is_digit_lem d (omega arith) high))

-- none
pub digit_none : (d : ℕ) (l : List ℕ) → NoDigit d → rest (32 ∷ d ∷ l) ≡ none
unfolding rest words numbers number every
digit_none d l n =
    let fails : (w : List ℕ) → number (d ∷ w) ≡ none = (λ w. rw (every-fails is_digit d w (no_digit d n), and-false (unpadded (d ∷ w)))) in
    cases (eqb d 32) (λ e. rw e) (λ e. rw e (elim (words l) as
    (λ ws. numbers (onto d ws) ≡ none) [ [] ↦ rw (fails []) | w ∷ ws ↦ rw (fails w) ]))

-- fields at places of the line --

-- after the field at `at`, which is v, the line goes on at next
pub record FieldIs (s : List ℕ) (at v next : ℕ) : Type 0 where
  pub small : v ≤ most_number
  pub ahead : at + 2 ≤ next
  pub within : next ≤ length s
  pub is : fields_at s at ≡ read_onto (some v) (fields_at s next)

-- what reading a field tells of the line
abbrev pub Tells : List ℕ → ℕ → std.Option Field → Type 0
Tells s at (Some f) = FieldIs s at f.value f.end
Tells s at None = at < length s → fields_at s at ≡ none

-- what reading digits from a place on tells, after those that made v
pub record DigitsAre (s : List ℕ) (at v w next : ℕ) : Type 0 where
  pub small : w ≤ most_number
  pub ahead : at ≤ next
  pub within : next ≤ length s
  pub is : digits_on v (drop at s) ≡ read_onto (some w) (fields_at s next)

abbrev pub DigitsTell : List ℕ → ℕ → ℕ → std.Option Field → Type 0
DigitsTell s at v (Some f) = DigitsAre s at v f.value f.end
DigitsTell s at v None = digits_on v (drop at s) ≡ none

module _ (s : List ℕ) (i v : ℕ) where
  pub at_more : i < length s → 48 ≤ get_or s i 0 → get_or s i 0 ≤ 57 → digits_on v (drop i s) ≡ digits_on (10 * v + (get_or s i 0 - 48)) (drop (i + 1) s)
  at_more h low high = rw (drop-cons s i 0 h, add-one i) (digits_more v _ _ low high)

  pub at_stop : i < length s → v ≤ most_number → NoDigit (get_or s i 0) → digits_on v (drop i s) ≡ read_onto (some v) (fields_at s i)
  at_stop h m n = rw (drop-cons s i 0 h) (digits_stop v _ _ m n)

  pub at_end : length s ≤ i → v ≤ most_number → digits_on v (drop i s) ≡ read_onto (some v) (fields_at s i)
  at_end h m = rw (drop_of_length-le s h) (digits_end v m)

module _ (s : List ℕ) (at : ℕ) (h : at < length s) where
  -- no space
  pub field_unspaced : (get_or s at 0 ≡ 32 → ⊥) → fields_at s at ≡ none
  unfolding rest
  field_unspaced n = rw (drop-cons s at 0 h, ne_eqb (get_or s at 0) 32 n)

  spaced : get_or s at 0 ≡ 32 → fields_at s at ≡ rest (32 ∷ drop (at + 1) s)
  spaced e = rw (drop-cons s at 0 h, e, add-one at)

  -- nothing after the space
  pub field_empty : get_or s at 0 ≡ 32 → length s ≤ at + 1 → fields_at s at ≡ none
  unfolding rest words numbers number
  field_empty e n = spaced e ∙ rw (drop_of_length-le s n)

  next_byte : get_or s at 0 ≡ 32 → at + 1 < length s → fields_at s at ≡ rest (32 ∷ get_or s (at + 1) 0 ∷ drop (at + 1 + 1) s)
  next_byte e n = spaced e ∙ rw (drop-cons s (at + 1) 0 n, add-one (at + 1))

  module _ (e : get_or s at 0 ≡ 32) (n : at + 1 < length s) where
    pub field_zero : get_or s (at + 1) 0 ≡ 48 → fields_at s at ≡ read_onto (some 0) (fields_at s (at + 1 + 1))
    field_zero z = next_byte e n ∙ rw z (digit_zero _)

    pub field_none : NoDigit (get_or s (at + 1) 0) → fields_at s at ≡ none
    field_none z = next_byte e n ∙ digit_none _ _ z

    pub field_first : 48 < get_or s (at + 1) 0 → get_or s (at + 1) 0 ≤ 57 → fields_at s at ≡ digits_on (get_or s (at + 1) 0 - 48) (drop (at + 1 + 1) s)
    field_first low high = next_byte e n ∙ digit_first _ _ low high

-- what the digits tell, told of the field
pub tells_digits : (s : List ℕ) (at v : ℕ) → fields_at s at ≡ digits_on v (drop (at + 1 + 1) s) → (r : std.Option Field) → DigitsTell s (at + 1 + 1) v r → Tells s at r
tells_digits s at v e (Some f) d = record { small = d.small; ahead = omega (arith, d.ahead); within = d.within; is = e ∙ d.is }
tells_digits s at v e None d = λ h. e ∙ d
