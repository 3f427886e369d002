-- Stores one after the other: what a loop that puts a piece each turn has put so far; and a block of zeros that is filled from its start on.
use Rattle.std.specs.Prelude.{◌+◌, ◌-◌, ◌*◌, ◌<◌, ◌≤◌, ◌≡◌, ◌∷◌, ◌++◌}
use Rattle.laws.specs.Kit.{ℕ, zero, suc, sym, ap, ◌∙◌, List, [], append_assoc, append-nil}
use Rattle.laws.specs.Kit.{add-zero, zero-add, arith, add-one, length, get_or, set, take, drop, replicate, length-replicate, sets, sets-eq}
use Rattle.laws.specs.{Kit.{take-suc, take-add, take_all, length-take-le}, Cat.{cat, part}, Tab.{tab, tab-more, length-tab}}
use Rattle.laws.specs.Stores.{sets_append}

module _ {A : Type 0} where
  -- pieces by two counts, and row by row
  pub cat_plus : (f : ℕ → List A) (a b : ℕ) → cat f (a + b) ≡ cat f a ++ cat (λ j. f (a + j)) b
  unfolding cat
  cat_plus f a zero = rw (add-zero a) (sym (append-nil (cat f a)))
  cat_plus f a (suc b) = let e : a + suc b ≡ suc (a + b) = omega arith in rw (e, cat_plus f a b) (append_assoc (cat f a) (cat (λ j. f (a + j)) b) (f (a + b)))

  pub cat_rows : (f : ℕ → List A) (c n : ℕ) → cat (λ i. cat (λ q. f (c * i + q)) c) n ≡ cat f (c * n)
  unfolding cat
  cat_rows f c zero = let e : c * 0 ≡ 0 = omega arith in rw e
  cat_rows f c (suc n) = let e : c * suc n ≡ c * n + c = omega arith in rw (e, cat_plus f (c * n) c, cat_rows f c n)

  -- a list whose parts are the pieces
  cat-taken : (f : ℕ → List A) (w n : ℕ) (b : List A) → ((j : ℕ) → j < n → f j ≡ part (w * j) w b) → cat f n ≡ take (w * n) b
  unfolding cat part
  cat-taken f w zero b h = let e : w * 0 ≡ 0 = omega arith in rw e
  cat-taken f w (suc n) b h =
      let e : w * suc n ≡ w * n + w = omega arith in
      rw (e, take-add (w * n) w b, cat-taken f w n b (λ j l. h j (omega arith)), h n (omega arith))

  pub cat_parts : (f : ℕ → List A) (w n : ℕ) (b : List A) → length b ≡ w * n → ((j : ℕ) → j < n → f j ≡ part (w * j) w b) → cat f n ≡ b
  cat_parts f w n b e h = cat-taken f w n b h ∙ take_all (w * n) b (omega arith)

  -- one behind the other
  pub then_put : (d xs ys : List A) (at k : ℕ) → length xs ≡ k → sets (sets d at xs) (at + k) ys ≡ sets d at (xs ++ ys)
  then_put d xs ys at k e = rw (← e) (sym (sets_append xs ys d at))

  -- a loop that puts f i at its turn: one more
  pub sets_more : (f : ℕ → List A) (d : List A) (at i k : ℕ) → length (cat f i) ≡ k → sets (sets d at (cat f i)) (at + k) (f i) ≡ sets d at (cat f (i + 1))
  unfolding cat
  sets_more f d at i k e = rw (add-one i) (then_put d (cat f i) (f i) at k e)

  -- a loop that puts one element of b at its turn
  pub set_more : (b d : List A) (z : A) (at j : ℕ) → j < length b → set (sets d at (take j b)) (at + j) (get_or b j z) ≡ sets d at (take (j + 1) b)
  set_more b d z at j h = rw (add-one j, take-suc b j z h) (then_put d (take j b) (get_or b j z ∷ []) at j (length-take-le j b (omega arith)))

  -- a loop that puts the element f j at its turn
  pub tab_put : (f : ℕ → A) (d : List A) (at j : ℕ) → set (sets d at (tab j f)) (at + j) (f j) ≡ sets d at (tab (j + 1) f)
  tab_put f d at j = rw (tab-more f j) (then_put d (tab j f) (f j ∷ []) at j (length-tab f j))

pub drop-replicate : {A : Type 0} (a b : ℕ) (x : A) → drop a (replicate (a + b) x) ≡ replicate b x
drop-replicate zero b x = let e : 0 + b ≡ b = omega arith in rw e
drop-replicate (suc a) b x = let e : suc a + b ≡ suc (a + b) = omega arith in rw e (drop-replicate a b x)

-- put into zeros from their start on
pub zeros_put : (w : ℕ) (l : List ℕ) → length l ≤ w → sets (replicate w 0) 0 l ≡ l ++ replicate (w - length l) 0
zeros_put w l h =
    let e : w ≡ length l + (w - length l) = omega arith in
    let z : drop (0 + length l) (replicate {A = ℕ} w 0) ≡ replicate (w - length l) 0 =
    rw zero-add (ap (λ (k : ℕ). drop (length l) (replicate {A = ℕ} k 0)) e ∙ drop-replicate {A = ℕ} (length l) (w - length l) 0) in
    sets-eq l (replicate w 0) 0 (rw (zero-add, length-replicate) h) ∙ ap (λ (r : List ℕ). l ++ r) z
