-- The numbers of a form, read one after the other.
use Rattle.std.specs.Prelude.{◌+◌, ◌<◌, ◌≤◌, ◌≡◌, ◌∷◌, ◌++◌, Some, None}
use Rattle.laws.specs.Kit.{ℕ, refl, ◌∙◌, List, [], Option, bind, none, some, arith, eq-eqb, ne_eqb, length, take, set, append_assoc, append-nil, length-append, length-take-le, length-set, take_all, add-one, drop_of_length-le, ltb, ltb-true, ltb-false}
use Rattle.laws.specs.{Says.{clash}, Loop.{cases}}
use Rattle.std.proofs.Math.Seq.{take-suc-set}
use Rattle.text.specs.{Words.{read_onto}, Fields.{rest, fields_at, FieldIs}}
use Rattle.schedule.specs.{Grammar.{Line, begin_line}, Mirror.Forms.{exactly, say_at, too_many}}

abbrev pub onto_all : List ℕ → Option (List ℕ) → Option (List ℕ)
onto_all xs none = none
onto_all xs (some l) = some (xs ++ l)

-- t numbers of ns were read, up to place at
pub record ReadTo (s ns : List ℕ) (n t at : ℕ) : Type 0 where
  pub long : length ns ≡ n
  pub from : 1 ≤ at
  pub within : at ≤ length s
  pub is : fields_at s 1 ≡ onto_all (take t ns) (fields_at s at)

pub read_none : (s ns : List ℕ) (n : ℕ) → length ns ≡ n → 0 < length s → ReadTo s ns n 0 1
read_none s ns n e h = record { long = e; from = omega arith; within = omega arith; is = whole (fields_at s 1) }
  where
    whole : (o : Option (List ℕ)) → o ≡ onto_all [] o
    whole none = refl
    whole (some l) = refl

pub read_more : (s ns : List ℕ) (n t at v next : ℕ) → t < n → FieldIs s at v next → ReadTo s ns n t at → ReadTo s (set ns t v) n (t + 1) next
read_more s ns n t at v next b f r =
    record { long = length-set ns t v ∙ r.long; from = omega (arith, r.from, f.ahead); within = f.within; is = r.is ∙ rw f.is (one (fields_at s next)) }
  where
    one : (o : Option (List ℕ)) → onto_all (take t ns) (read_onto (some v) o) ≡ onto_all (take (t + 1) (set ns t v)) o
    one none = refl
    one (some l) = rw (add-one, take-suc-set ns t v (omega (arith, r.long)), append_assoc)

-- where something follows, it is no empty list of numbers
abbrev nothing : List ℕ → Option Line
nothing [] = some (begin_line 0 0)
nothing (x ∷ l) = none

follows : (s : List ℕ) (at : ℕ) → at ≤ length s → (at ≡ length s → ⊥) → fields_at s at ≡ some [] → ⊥
unfolding say_at bind
follows s at l n e = let q : some (begin_line 0 0) ≡ none = rw e at (too_many s at nothing l n (λ x l. refl)) in clash (cc)

module _ (s ns : List ℕ) (n at : ℕ) where
  -- a field is missing
  pub read_short : (t : ℕ) → t < n → ReadTo s ns n t at → (at < length s → fields_at s at ≡ none) → None ≡ exactly n (fields_at s 1)
  unfolding exactly rest
  read_short t b r e =
      cases (ltb at (length s))
      (λ q. rw (r.is, e (ltb-true at (length s) q)))
      (λ q. let l : length s ≤ at = ltb-false at (length s) q in
      let k : length (take t ns ++ []) ≡ t = rw append-nil (length-take-le t ns (omega (arith, r.long))) in
      rw (r.is, drop_of_length-le s l, ne_eqb (length (take t ns ++ [])) n (λ w. (omega arith))))

  -- something follows
  pub read_long : ReadTo s ns n n at → (at ≡ length s → ⊥) → None ≡ exactly n (fields_at s 1)
  unfolding exactly
  read_long r e = rw r.is (go (fields_at s at) (follows s at r.within e))
    where
      go : (o : Option (List ℕ)) → (o ≡ some [] → ⊥) → None ≡ exactly n (onto_all (take n ns) o)
      go none f = refl
      go (some []) f = absurd (f refl)
      go (some (x ∷ l)) f =
          rw (ne_eqb (length (take n ns ++ x ∷ l)) n (λ w. (omega (arith, length-append (take n ns) (x ∷ l), length-take-le n ns (omega (arith, r.long))))))

  pub read_all : ReadTo s ns n n at → at ≡ length s → Some ns ≡ exactly n (fields_at s 1)
  unfolding exactly rest
  read_all r e =
      let k : take n ns ++ [] ≡ ns = append-nil (take n ns) ∙ take_all n ns (omega (arith, r.long)) in
      let l : length s ≤ at = omega arith in
      rw (r.is, drop_of_length-le s l, k, eq-eqb (length ns) n r.long)
