-- What holds of every line: how many cells it lists, how large its numbers are; and the two public functions leave no choice.
use Rattle.std.specs.Prelude.{◌+◌, ◌-◌, ◌*◌, ◌≤◌, ◌≡◌, ◌∷◌}
use Rattle.laws.specs.Kit.{ℕ, refl, sym, ◌∙◌, List, [], Option, none, some, arith, ltb-true, ltb-false}
use Rattle.laws.specs.{Kit.{eqb-true, eqb-false, eqb, ltb, length, get_or, take, drop, length-drop, sets, sets-eq, take_at}, Loop.{cases}}
use Rattle.std.specs.Borrow.{Bor}
use Rattle.std.specs.Prelude as std
use Rattle.machine.specs.Steps.{Read, Write, Deliver, Trip}
use Rattle.schedule.specs.{declared.Line.{Line as Answer}, Grammar.{Line, begin_line, step_line, most_bytes, one_or_more, form, line_of}}
use Rattle.schedule.specs.{Lines.{line_at, place_in}, LineValue.{trip_cells, most_listed, numbers_of, SaidBy, value-said}}
use Rattle.schedule.specs.Mirror.Forms.{two-all, three-all, say_at-all, too_long, no_bytes, no-letter, by_letter}
use Rattle.text.specs.{Number.{most_number}, Words.{space}, Fields.{fields_at}, Link.NumberBounds.{SmallNumbers, small-nil, rest-count}}
use Rattle.text.specs.Link.NumberBounds.{rest-small}

-- a line is none, or one of the forms of the numbers that follow its letter --

module _ (P : List ℕ → Option Line → Type 0) (z : (l : List ℕ) → P l none) where
  more-all : (f : ℕ → List ℕ → Line) → ((a : ℕ) (l : List ℕ) → P (a ∷ l) (some (f a l))) → (l : List ℕ) → P l (one_or_more f l)
  more-all f h [] = z []
  more-all f h (a ∷ l) = h a l

  form-all : ((n m : ℕ) → P (n ∷ m ∷ []) (some (begin_line n m))) → ((i x : ℕ) → P (i ∷ x ∷ []) (some (step_line (Read i x)))) →
      ((i x v : ℕ) → P (i ∷ x ∷ v ∷ []) (some (step_line (Write i x v)))) → ((i u k : ℕ) → P (i ∷ u ∷ k ∷ []) (some (step_line (Deliver i u k)))) →
      ((i : ℕ) (xs : List ℕ) → P (i ∷ xs) (some (step_line (Trip i xs)))) → (c : ℕ) (l : List ℕ) → P l (form c l)
  unfolding form
  form-all n r w d t c l =
      cases (eqb c 78)
      (λ e. rw e (two-all P z begin_line n l))
      (λ e. rw e (cases (eqb c 82)
      (λ e. rw e (two-all P z (λ i x. step_line (Read i x)) r l))
      (λ e. rw e (cases (eqb c 87)
      (λ e. rw e (three-all P z (λ i x v. step_line (Write i x v)) w l))
      (λ e. rw e (cases (eqb c 68)
      (λ e. rw e (three-all P z (λ i u k. step_line (Deliver i u k)) d l))
      (λ e. rw e (cases (eqb c 84) (λ e. rw e (more-all (λ i xs. step_line (Trip i xs)) t l)) (λ e. rw e (z l))))))))))

line-all : (s : List ℕ) (P : Option Line → Type 0) → P none → ((c : ℕ) (l : List ℕ) → length s ≤ most_bytes → fields_at s 1 ≡ some l → P (form c l)) → P (line_of s)
line-all s P z h =
    cases (ltb most_bytes (length s))
    (λ e. rw (too_long s (ltb-true _ _ e)) z)
    (λ e. cases (eqb (length s) 0) (λ d. rw (no_bytes s (eqb-true _ _ d)) z) (λ d. lettered (eqb-false _ _ d) (ltb-false _ _ e)))
  where
    lettered : (length s ≡ 0 → ⊥) → length s ≤ most_bytes → P (line_of s)
    lettered d e =
        cases (eqb (get_or s 0 0) space)
        (λ q. rw (no-letter s d e (eqb-true _ _ q)) z)
        (λ q. rw (by_letter s d e (get_or s 0 0) q refl) (say_at-all s 1 (form (get_or s 0 0)) P z (λ l g. h (get_or s 0 0) l e g)))

form-cells : (c : ℕ) (l : List ℕ) → length (trip_cells (form c l)) ≤ length l - 1
form-cells =
    form-all (λ l o. length (trip_cells o) ≤ length l - 1) (λ l. omega arith)
    (λ n m. omega arith)
    (λ i x. omega arith)
    (λ i x v. omega arith)
    (λ i u k. omega arith)
    (λ i xs. omega arith)

-- two bytes a cell, behind `T i`
pub few-cells : (s : List ℕ) → length (trip_cells (line_of s)) ≤ most_listed
few-cells s =
    line-all s (λ o. length (trip_cells o) ≤ most_listed) (omega arith)
    (λ c l h e. (let k : 2 * length l ≤ length s - 1 = rw length-drop at (rw e at (rest-count (drop 1 s))) in omega (arith, form-cells c l)))

-- so the lent array holds them all
pub cells-there : (s l : List ℕ) → most_listed ≤ length l → let xs = trip_cells (line_of s) in take (length xs) (sets l 0 xs) ≡ xs
cells-there s l h =
    let xs = trip_cells (line_of s) in
    let f : 0 + length xs ≤ length l = omega (arith, few-cells s) in
    rw (sets-eq xs l 0 f) (take_at xs (drop (0 + length xs) l) (length xs) refl)

-- a letter, a space and a digit at least
pub step-bytes : (s : List ℕ) (x : Line) → line_of s ≡ some x → 3 ≤ length s
step-bytes s x =
    line-all s (λ o. o ≡ some x → 3 ≤ length s) no_line
    (λ c l h e. let k : 2 * length l ≤ length s - 1 = rw length-drop at (rw e at (rest-count (drop 1 s))) in
    form-all (λ l o. 2 * length l ≤ length s - 1 → o ≡ some x → 3 ≤ length s) (λ l g. no_line)
    (λ n m g q. omega arith) (λ i x g q. omega arith) (λ i x v g q. omega arith) (λ i u k g q. omega arith) (λ i xs g q. omega arith) c l k)
  where
    no_line : none ≡ some x → 3 ≤ length s
    no_line q = absurd (let z : ◌≡◌ {A = ℕ} 0 1 = cc in omega arith)

-- no number above the largest --

pub line_small : (s : List ℕ) (k : ℕ) → get_or (numbers_of (line_of s)) k 0 ≤ most_number
line_small s =
    line-all s (λ o. SmallNumbers (numbers_of o)) small-nil
    (λ c l h e. form-all (λ l o. SmallNumbers l → SmallNumbers (numbers_of o)) (λ l g. small-nil) (λ n m g. g) (λ i x g. g) (λ i x v g. g) (λ i u k g. g) (λ i xs g. g) c l (rw e at (rest-small (drop 1 s))))

-- no choice is left --

pub line-at-unique : (x : Bor (List ℕ)) (at : ℕ) (r r' : Bor (List ℕ)) → r.now ≡ line_at x.now at → r'.now ≡ line_at x.now at → r.ref_ptr ≡ place_in x at → r'.ref_ptr ≡ place_in x at → (r.now ≡ r'.now) × (r.ref_ptr ≡ r'.ref_ptr)
line-at-unique x at r r' a b c d = (a ∙ sym b, c ∙ sym d)

pub line_of_unique : (s l : List ℕ) (r r' : std.Option Answer) (l' l'' : List ℕ) → SaidBy (line_of s) r l l' → SaidBy (line_of s) r' l l'' → (r ≡ r') × (l' ≡ l'')
line_of_unique s l r r' l' l'' a b = (value-said a ∙ sym (value-said b), a.stored ∙ sym b.stored)
