-- The forms of a line over the fields that follow its letter, and the code's answer to each.
use Rattle.std.specs.Prelude.{◌<◌, ◌≤◌, ◌≡◌, ◌∷◌, ◌⊎◌, Some, None, MatchOption}
use Rattle.std.specs.Prelude as std
use Rattle.laws.specs.Kit.{ℕ, suc, refl, ◌∙◌, List, [], inl, inr, Bool, true, false, Option, none, some, bind}
use Rattle.laws.specs.Kit.{arith, ne_eqb, le-leb, lt-leb, ltb-true, ltb-false, eqb-true, eqb-false, eqb, ltb, length, get_or, drop}
use Rattle.laws.specs.{Kit.{drop_of_length-le, drop-cons, drop-length, sets}, Loop.{cases, pick}}
use Rattle.machine.specs.Steps.{Read, Write, Deliver, Trip}
use Rattle.machine.proofs.Ready.{option_all}
use Rattle.schedule.specs.{declared.Line.{Line as Answer}, Grammar.{Line, begin_line, step_line}}
use Rattle.schedule.specs.{Grammar.{most_bytes, two, three, one_or_more, form, sentence, line_of}, LineValue.{line_value, trip_cells}}
use Rattle.text.specs.{Number.{number}, Words.{space, onto, words, read_onto, numbers}, Fields.{rest, fields_at, FieldIs}}

abbrev pub pairs : Bool → ℕ → ℕ → Line
pairs true n m = begin_line n m
pairs false i x = step_line (Read i x)

abbrev pub triples : Bool → ℕ → ℕ → ℕ → Line
triples true i x v = step_line (Write i x v)
triples false i u k = step_line (Deliver i u k)

abbrev pub travels : ℕ → List ℕ → Line
travels i xs = step_line (Trip i xs)

-- what the fields from a place on say in a form
unfoldable pub say_at : List ℕ → ℕ → (List ℕ → Option Line) → Option Line
say_at s at f = bind (fields_at s at) f

-- the numbers of a form of n fields
unfoldable pub exactly : ℕ → Option (List ℕ) → std.Option (List ℕ)
exactly n none = None
exactly n (some l) = pick (eqb (length l) n) (Some l) None

-- the code's answer r to what is said, with the lent list from l to l'
abbrev pub ToldLine : Option Line → std.Option Answer → List ℕ → List ℕ → Type 0
ToldLine o r l l' = (r ≡ line_value o) × (l' ≡ sets l 0 (trip_cells o))

module _ (s : List ℕ) (at : ℕ) (f : List ℕ → Option Line) where
  -- a field is missing or bad
  pub no_field : (at < length s → fields_at s at ≡ none) → f [] ≡ none → say_at s at f ≡ none
  unfolding say_at bind rest
  no_field h z =
      cases (ltb at (length s))
      (λ e. rw (h (ltb-true at (length s) e)))
      (λ e. rw (drop_of_length-le s (ltb-false at (length s) e)) z)

  -- a field is there
  pub one_field : (v next : ℕ) → FieldIs s at v next → say_at s at f ≡ say_at s next (λ l. f (v ∷ l))
  unfolding say_at bind
  one_field v next h =
      rw h.is (elim (fields_at s next) as (λ o. bind (read_onto (some v) o) f ≡ bind o (λ l. f (v ∷ l))) [ none ↦ refl | some l ↦ refl ])

  -- the line is at its end
  pub no_more : at ≡ length s → say_at s at f ≡ f []
  unfolding say_at bind rest
  no_more e = rw (e, drop-length s)

  -- or goes on where the form has no field
  pub too_many : at ≤ length s → (at ≡ length s → ⊥) → ((x : ℕ) (l : List ℕ) → f (x ∷ l) ≡ none) → say_at s at f ≡ none
  unfolding say_at bind rest words numbers number
  too_many l n h = rw (drop-cons s at 0 (omega (arith, n))) (go (get_or s at 0) (drop (suc at) s))
    where
      joined : (o : Option ℕ) (ns : Option (List ℕ)) → bind (read_onto o ns) f ≡ none
      joined none ns = refl
      joined (some x) none = refl
      joined (some x) (some l) = h x l

      worded : (c : ℕ) (ws : List (List ℕ)) → bind (numbers (onto c ws)) f ≡ none
      worded c [] = joined (number (c ∷ [])) (some [])
      worded c (w ∷ ws) = joined (number (c ∷ w)) (numbers ws)

      spaced : (l : List ℕ) → bind (numbers (words l)) f ≡ none
      spaced [] = refl
      spaced (c ∷ l) = cases (eqb c space) (λ e. rw e) (λ e. rw e (worded c (words l)))

      go : (b : ℕ) (l : List ℕ) → bind (rest (b ∷ l)) f ≡ none
      go b l = cases (eqb b space) (λ e. rw e (spaced l)) (λ e. rw e)

  -- what every list of numbers has, the line has
  pub say_at-all : (P : Option Line → Type 0) → P none → ((l : List ℕ) → fields_at s at ≡ some l → P (f l)) → P (say_at s at f)
  unfolding say_at bind
  say_at-all P z h = option_all (λ o. P (bind o f)) (fields_at s at) (λ _. z) h

-- what holds of no step, and of what a form makes, holds of what is said in it
module _ (P : List ℕ → Option Line → Type 0) (z : (l : List ℕ) → P l none) where
  pub two-all : (f : ℕ → ℕ → Line) → ((a b : ℕ) → P (a ∷ b ∷ []) (some (f a b))) → (l : List ℕ) → P l (two f l)
  two-all f h [] = z []
  two-all f h (a ∷ []) = z (a ∷ [])
  two-all f h (a ∷ b ∷ []) = h a b
  two-all f h (a ∷ b ∷ c ∷ l) = z (a ∷ b ∷ c ∷ l)

  pub three-all : (f : ℕ → ℕ → ℕ → Line) → ((a b c : ℕ) → P (a ∷ b ∷ c ∷ []) (some (f a b c))) → (l : List ℕ) → P l (three f l)
  three-all f h [] = z []
  three-all f h (a ∷ []) = z (a ∷ [])
  three-all f h (a ∷ b ∷ []) = z (a ∷ b ∷ [])
  three-all f h (a ∷ b ∷ c ∷ []) = h a b c
  three-all f h (a ∷ b ∷ c ∷ d ∷ l) = z (a ∷ b ∷ c ∷ d ∷ l)

-- what is said in a form of two fields, or of three, by the numbers that `exactly` gives
pub said_two : (s : List ℕ) (f : ℕ → ℕ → Line) → MatchOption (exactly 2 (fields_at s 1)) (say_at s 1 (two f) ≡ none) (λ l. say_at s 1 (two f) ≡ some (f (get_or l 0 0) (get_or l 1 0)))
unfolding say_at bind exactly
said_two s f = go (fields_at s 1)
  where
    go : (o : Option (List ℕ)) → MatchOption (exactly 2 o) (bind o (two f) ≡ none) (λ l. bind o (two f) ≡ some (f (get_or l 0 0) (get_or l 1 0)))
    go none = refl
    go (some []) = refl
    go (some (a ∷ [])) = refl
    go (some (a ∷ b ∷ [])) = refl
    go (some (a ∷ b ∷ c ∷ l)) = rw (ne_eqb (suc (suc (suc (length l)))) 2 (λ e. (omega arith)))

pub said_three : (s : List ℕ) (f : ℕ → ℕ → ℕ → Line) → MatchOption (exactly 3 (fields_at s 1)) (say_at s 1 (three f) ≡ none) (λ l. say_at s 1 (three f) ≡ some (f (get_or l 0 0) (get_or l 1 0) (get_or l 2 0)))
unfolding say_at bind exactly
said_three s f = go (fields_at s 1)
  where
    go : (o : Option (List ℕ)) → MatchOption (exactly 3 o) (bind o (three f) ≡ none) (λ l. bind o (three f) ≡ some (f (get_or l 0 0) (get_or l 1 0) (get_or l 2 0)))
    go none = refl
    go (some []) = refl
    go (some (a ∷ [])) = refl
    go (some (a ∷ b ∷ [])) = refl
    go (some (a ∷ b ∷ c ∷ [])) = refl
    go (some (a ∷ b ∷ c ∷ d ∷ l)) = rw (ne_eqb (suc (suc (suc (suc (length l))))) 3 (λ e. (omega arith)))

two_cells : (b : Bool) (l : List ℕ) → trip_cells (two (pairs b) l) ≡ []
two_cells true = two-all (λ l o. trip_cells o ≡ []) (λ l. refl) (pairs true) (λ x y. refl)
two_cells false = two-all (λ l o. trip_cells o ≡ []) (λ l. refl) (pairs false) (λ x y. refl)

three-cells : (b : Bool) (l : List ℕ) → trip_cells (three (triples b) l) ≡ []
three-cells true = three-all (λ l o. trip_cells o ≡ []) (λ l. refl) (triples true) (λ x y z. refl)
three-cells false = three-all (λ l o. trip_cells o ≡ []) (λ l. refl) (triples false) (λ x y z. refl)

-- nothing is stored: no step, or another form than a trip's
pub told_none : (o : Option Line) (l : List ℕ) → o ≡ none → ToldLine o None l l
told_none o l e = rw e (refl, refl)

told-form : (s : List ℕ) (f : List ℕ → Option Line) → ((l : List ℕ) → trip_cells (f l) ≡ []) →
    (o : Option Line) → o ≡ say_at s 1 f → (r : std.Option Answer) (l : List ℕ) → r ≡ line_value (say_at s 1 f) → ToldLine o r l l
told-form s f h o e r l a =
    let n : trip_cells (say_at s 1 f) ≡ [] = say_at-all s 1 f (λ o. trip_cells o ≡ []) refl (λ l _. h l) in rw e (a, rw n)

-- the whole line --

first_word : (c : ℕ) (l : List ℕ) → (c ≡ space → ⊥) → sentence (words (c ∷ l)) ≡ bind (rest l) (form c)
unfolding words numbers rest bind
first_word c [] n = rw (ne_eqb c space n)
first_word c (b ∷ l) n =
    rw (ne_eqb c space n) (cases (eqb b space) (λ e. rw e)
    (λ e. rw e (elim (words l) as (λ ws. sentence (onto c (onto b ws)) ≡ none) [ [] ↦ refl | w ∷ ws ↦ refl ])))

pub too_long : (s : List ℕ) → most_bytes < length s → line_of s ≡ none
unfolding line_of
too_long s h = rw (lt-leb (length s) most_bytes h)

pub no_bytes : (s : List ℕ) → length s ≡ 0 → line_of s ≡ none
unfolding line_of words bind
no_bytes [] e = refl
no_bytes (c ∷ l) e = absurd (omega arith)

module _ (s : List ℕ) (z : length s ≡ 0 → ⊥) (h : length s ≤ most_bytes) where
  -- the letter decides
  pub by_letter : (c : ℕ) → eqb c space ≡ false → get_or s 0 0 ≡ c → line_of s ≡ say_at s 1 (form c)
  unfolding line_of say_at
  by_letter c n e = go s z h e
    where
      go : (s : List ℕ) → (length s ≡ 0 → ⊥) → length s ≤ most_bytes → get_or s 0 0 ≡ c → line_of s ≡ say_at s 1 (form c)
      go [] z h e = absurd (z refl)
      go (b ∷ l) z h e = rw (e, le-leb (suc (length l)) most_bytes h) (first_word c l (eqb-false c space n))

  pub no-letter : get_or s 0 0 ≡ space → line_of s ≡ none
  unfolding line_of words bind
  no-letter e = go s z h e
    where
      go : (s : List ℕ) → (length s ≡ 0 → ⊥) → length s ≤ most_bytes → get_or s 0 0 ≡ space → line_of s ≡ none
      go [] z h e = absurd (z refl)
      go (b ∷ l) z h e = rw (e, le-leb (suc (length l)) most_bytes h)

  -- N or R; D or W; T; another
  line-two : (get_or s 0 0 ≡ 78) ⊎ (get_or s 0 0 ≡ 82) → line_of s ≡ say_at s 1 (two (pairs (eqb (get_or s 0 0) 78)))
  unfolding form
  line-two (inl e) = by_letter 78 refl e ∙ rw e
  line-two (inr e) = by_letter 82 refl e ∙ rw e

  pub told-two : (get_or s 0 0 ≡ 78) ⊎ (get_or s 0 0 ≡ 82) → (r : std.Option Answer) (l : List ℕ) → r ≡ line_value (say_at s 1 (two (pairs (eqb (get_or s 0 0) 78)))) → ToldLine (line_of s) r l l
  told-two k = told-form s (two (pairs (eqb (get_or s 0 0) 78))) (two_cells (eqb (get_or s 0 0) 78)) (line_of s) (line-two k)

  line-three : (get_or s 0 0 ≡ 68) ⊎ (get_or s 0 0 ≡ 87) → line_of s ≡ say_at s 1 (three (triples (eqb (get_or s 0 0) 87)))
  unfolding form
  line-three (inl e) = by_letter 68 refl e ∙ rw e
  line-three (inr e) = by_letter 87 refl e ∙ rw e

  pub told-three : (get_or s 0 0 ≡ 68) ⊎ (get_or s 0 0 ≡ 87) → (r : std.Option Answer) (l : List ℕ) → r ≡ line_value (say_at s 1 (three (triples (eqb (get_or s 0 0) 87)))) → ToldLine (line_of s) r l l
  told-three k = told-form s (three (triples (eqb (get_or s 0 0) 87))) (three-cells (eqb (get_or s 0 0) 87)) (line_of s) (line-three k)

  pub line_trip : get_or s 0 0 ≡ 84 → line_of s ≡ say_at s 1 (one_or_more travels)
  unfolding form
  line_trip e = by_letter 84 refl e

  pub line_other : ((get_or s 0 0 ≡ 78) ⊎ (get_or s 0 0 ≡ 82) → ⊥) → ((get_or s 0 0 ≡ 68) ⊎ (get_or s 0 0 ≡ 87) → ⊥) → (get_or s 0 0 ≡ 84 → ⊥) → line_of s ≡ none
  unfolding form
  line_other a b c =
      cases (eqb (get_or s 0 0) space)
      (λ q. no-letter (eqb-true _ _ q))
      (λ q. by_letter (get_or s 0 0) q refl
      ∙ rw (ne_eqb _ 78 (λ e. a (inl e)), ne_eqb _ 82 (λ e. a (inr e)), ne_eqb _ 87 (λ e. b (inr e)), ne_eqb _ 68 (λ e. b (inl e)), ne_eqb _ 84 c)
      (say_at-all s 1 (λ l. none) (λ o. o ≡ none) refl (λ l _. refl)))
