-- Fields that were written read as their numbers, and fields that are read are written as the same bytes.
use Rattle.std.specs.Prelude.{◌≡◌, ◌∷◌, ◌++◌}
use Rattle.laws.specs.Kit.{ℕ, suc, refl, sym, ap, ◌∙◌, List, [], append-nil, true, Option, none, some, arith, ne_eqb}
use Rattle.laws.specs.{Kit.{eqb-true, eqb}, Lists.{every, every-cons}, Loop.{cases}}
use Rattle.text.specs.{Number.{decimal, is_digit, number}, Words.{space, onto, words, read_onto, numbers, fields}, Fields.{rest}}
use Rattle.text.specs.{Link.NumberBounds.{SmallNumbers}, ReadBack.{decimal-all, digit_least, read-written, written_read}}

-- what is written --

-- no digit is a space, so a word ends where its number does
words_last : (w : List ℕ) → every is_digit w ≡ true → words w ≡ w ∷ []
unfolding words
words_last [] e = refl
words_last (b ∷ w) e =
    let c = every-cons is_digit b w e in
    let l = digit_least b c.0 in
    rw (ne_eqb b 32 (λ q. (omega arith)), words_last w c.1)

words-next : (w l : List ℕ) → every is_digit w ≡ true → words (w ++ space ∷ l) ≡ w ∷ words l
unfolding words
words-next [] l e = refl
words-next (b ∷ w) l e =
    let c = every-cons is_digit b w e in
    let d = digit_least b c.0 in
    rw (ne_eqb b 32 (λ q. (omega arith)), words-next w l c.1)

pub read-fields : (l : List ℕ) → SmallNumbers l → rest (fields l) ≡ some l
unfolding rest fields numbers
read-fields [] h = refl
read-fields (n ∷ []) h = rw (append-nil (decimal n), words_last (decimal n) (decimal-all n), read-written n (h 0))
read-fields (n ∷ m ∷ l) h =
    rw (words-next (decimal n) (decimal m ++ fields l) (decimal-all n), read-written n (h 0), read-fields (m ∷ l) (λ k. h (suc k)))

-- what is read --

-- words, each after a space
unwords : List (List ℕ) → List ℕ
unwords [] = []
unwords (w ∷ ws) = space ∷ (w ++ unwords ws)

words_back : (l : List ℕ) → unwords (words l) ≡ space ∷ l
unfolding words unwords
words_back [] = refl
words_back (b ∷ l) =
    cases (eqb b space)
    (λ e. rw (e, words_back l, eqb-true b space e))
    (λ e. rw e (go (words l) (words_back l)))
  where
    go : (ws : List (List ℕ)) → unwords ws ≡ space ∷ l → unwords (onto b ws) ≡ space ∷ b ∷ l
    go [] h = absurd (let z : ◌≡◌ {A = ℕ} 0 1 = cc in omega arith)
    go (w ∷ ws) h = let t : w ++ unwords ws ≡ l = cc in rw t

numbers-back : (ws : List (List ℕ)) (l : List ℕ) → numbers ws ≡ some l → unwords ws ≡ fields l
unfolding numbers unwords fields
numbers-back [] l e = let z : [] ≡ l = cc in rw (← z)
numbers-back (w ∷ ws) l e = go (number w) (numbers ws) refl refl (λ m. numbers-back ws m) e
  where
    go : (o : Option ℕ) (ns : Option (List ℕ)) → number w ≡ o → numbers ws ≡ ns → ((m : List ℕ) → numbers ws ≡ some m → unwords ws ≡ fields m) → read_onto o ns ≡ some l → space ∷ (w ++ unwords ws) ≡ fields l
    go none ns p q back e = absurd (let z : ◌≡◌ {A = ℕ} 0 1 = cc in omega arith)
    go (some x) none p q back e = absurd (let z : ◌≡◌ {A = ℕ} 0 1 = cc in omega arith)
    go (some x) (some m) p q back e =
        let z : x ∷ m ≡ l = cc in
        rw (← z, written_read w x p, back m q)

pub written-fields : (b l : List ℕ) → rest b ≡ some l → fields l ≡ b
unfolding rest fields
written-fields [] l e = let z : [] ≡ l = cc in rw (← z)
written-fields (b ∷ t) l e =
    cases (eqb b space)
    (λ q. sym (numbers-back (words t) l (rw q at e)) ∙ (words_back t ∙ ap (λ (c : ℕ). c ∷ t) (sym (eqb-true b space q))))
    (λ q. absurd (let f : none ≡ some l = rw q at e in let z : ◌≡◌ {A = ℕ} 0 1 = cc in omega arith))
