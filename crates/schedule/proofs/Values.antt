-- The value of a line of two fields, or of three, by the numbers that were read.
use Rattle.std.specs.Prelude.{◌≤◌, ◌≡◌, Some, None, MatchOption}
use Rattle.std.specs.Prelude as std
use Rattle.laws.specs.Kit.{ℕ, List, refl, sym, inl, inr, true, false, none, some, length, get_or}
use Rattle.text.specs.Fields.{fields_at}
use Rattle.schedule.specs.{declared.Line.{Line as Answer}, declared.Line.TheVariants.{New, Read, Write, Deliver}, Grammar.{Line, most_bytes, two, three, line_of}}
use Rattle.schedule.specs.{LineValue.{line_value, SaidBy, said_by_value}, Mirror.Forms.{exactly, say_at, pairs, triples, said_two, said_three, told-two, told-three}}

-- what the code makes of two numbers, and of three
abbrev pub of_two : (ℕ → ℕ → Answer) → std.Option (List ℕ) → std.Option Answer
of_two make None = None
of_two make (Some l) = Some (make (get_or l 0 0) (get_or l 1 0))

abbrev pub of_three : (ℕ → ℕ → ℕ → Answer) → std.Option (List ℕ) → std.Option Answer
of_three make None = None
of_three make (Some l) = Some (make (get_or l 0 0) (get_or l 1 0) (get_or l 2 0))

two_value : (s : List ℕ) (f : ℕ → ℕ → Line) (make : ℕ → ℕ → Answer) → ((a b : ℕ) → line_value (some (f a b)) ≡ Some (make a b)) →
    (r : std.Option (List ℕ)) → r ≡ exactly 2 (fields_at s 1) → of_two make r ≡ line_value (say_at s 1 (two f))
two_value s f make same r e = rw e (go (exactly 2 (fields_at s 1)) (said_two s f))
  where
    go : (o : std.Option (List ℕ)) → MatchOption o (say_at s 1 (two f) ≡ none) (λ l. say_at s 1 (two f) ≡ some (f (get_or l 0 0) (get_or l 1 0))) →
        of_two make o ≡ line_value (say_at s 1 (two f))
    go None p = rw p refl
    go (Some l) p = rw p (sym (same _ _))

three_value : (s : List ℕ) (f : ℕ → ℕ → ℕ → Line) (make : ℕ → ℕ → ℕ → Answer) → ((a b c : ℕ) → line_value (some (f a b c)) ≡ Some (make a b c)) →
    (r : std.Option (List ℕ)) → r ≡ exactly 3 (fields_at s 1) → of_three make r ≡ line_value (say_at s 1 (three f))
three_value s f make same r e = rw e (go (exactly 3 (fields_at s 1)) (said_three s f))
  where
    go : (o : std.Option (List ℕ)) → MatchOption o (say_at s 1 (three f) ≡ none) (λ l. say_at s 1 (three f) ≡ some (f (get_or l 0 0) (get_or l 1 0) (get_or l 2 0))) →
        of_three make o ≡ line_value (say_at s 1 (three f))
    go None p = rw p refl
    go (Some l) p = rw p (sym (same _ _ _))

module _ (s l : List ℕ) (z : length s ≡ 0 → ⊥) (h : length s ≤ most_bytes) (r : std.Option (List ℕ)) where
  pub says_new : get_or s 0 0 ≡ 78 → r ≡ exactly 2 (fields_at s 1) → SaidBy (line_of s) (of_two New r) l l
  says_new b e = said_by_value (told-two s z h (inl b) _ l (rw b (two_value s (pairs true) New (λ n m. refl) r e)))

  pub says_read : get_or s 0 0 ≡ 82 → r ≡ exactly 2 (fields_at s 1) → SaidBy (line_of s) (of_two Read r) l l
  says_read b e = said_by_value (told-two s z h (inr b) _ l (rw b (two_value s (pairs false) Read (λ i x. refl) r e)))

  pub says_write : get_or s 0 0 ≡ 87 → r ≡ exactly 3 (fields_at s 1) → SaidBy (line_of s) (of_three Write r) l l
  says_write b e = said_by_value (told-three s z h (inr b) _ l (rw b (three_value s (triples true) Write (λ i x v. refl) r e)))

  pub says_deliver : get_or s 0 0 ≡ 68 → r ≡ exactly 3 (fields_at s 1) → SaidBy (line_of s) (of_three Deliver r) l l
  says_deliver b e = said_by_value (told-three s z h (inl b) _ l (rw b (three_value s (triples false) Deliver (λ i u k. refl) r e)))
