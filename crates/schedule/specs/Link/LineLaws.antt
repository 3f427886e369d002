-- Laws of the lines of a schedule.
use Rattle.std.specs.Prelude.{◌+◌, ◌-◌, ◌<◌, ◌≤◌, ◌≡◌, ◌∷◌, ◌++◌}
use Rattle.laws.specs.Kit.{ℕ, suc, min, refl, sym, ap, ◌∙◌, List, [], append_assoc, arith, add-one}
use Rattle.laws.specs.Kit.{eq-eqb, ne_eqb, lt-ltb, le-ltb, ltb-false, eqb, ltb, length, get_or, take, drop, length-append, length-drop}
use Rattle.laws.specs.{Kit.{drop_of_length-le, take-append-drop, drop-cons, take_at, drop_at}, Loop.{cases}}
use Rattle.schedule.specs.Lines.{LF, until_lF, from_lF, line_at, ended_at, end_at, next_at, start_at}

-- a line and what follows it are the list
pub cut : (l : List ℕ) → until_lF l ++ from_lF l ≡ l
unfolding until_lF from_lF
cut [] = refl
cut (b ∷ l) = cases (eqb b LF) (λ e. rw e) (λ e. rw e (ap (λ (t : List ℕ). b ∷ t) (cut l)))

module _ (s : List ℕ) (at : ℕ) where
  lengths : length (until_lF (drop at s)) + length (from_lF (drop at s)) ≡ length s - at
  lengths = sym (length-append (until_lF (drop at s)) (from_lF (drop at s))) ∙ (ap length (cut (drop at s)) ∙ length-drop at s)

  -- what a loop at e has shown: no LF before it
  unfoldable pub NoLineEnd : ℕ → Type 0
  NoLineEnd e = from_lF (drop at s) ≡ from_lF (drop e s)

  pub passed_none : NoLineEnd at
  unfolding NoLineEnd
  passed_none = refl

  pub passed-more : (e : ℕ) → e < length s → (get_or s e 0 ≡ LF → ⊥) → NoLineEnd e → NoLineEnd (e + 1)
  unfolding NoLineEnd from_lF
  passed-more e h n p = p ∙ rw (drop-cons s e 0 h, ne_eqb (get_or s e 0) LF n, add-one e)

  pub passed_here : (e : ℕ) → e < length s → get_or s e 0 ≡ LF → NoLineEnd e → e ≡ end_at s at
  unfolding NoLineEnd from_lF end_at
  passed_here e h q p =
      let f : from_lF (drop at s) ≡ drop e s = p ∙ rw (drop-cons s e 0 h, eq-eqb (get_or s e 0) LF q) in
      rw (f, length-drop e s) (omega arith)

  -- at the end, or past it, nothing is left
  pub passed_end : (e : ℕ) → length s ≤ e → NoLineEnd e → length s ≡ end_at s at
  unfolding NoLineEnd from_lF end_at
  passed_end e h p =
      let f : from_lF (drop at s) ≡ [] = p ∙ rw (drop_of_length-le s h) in
      rw f (omega arith)

  pub end_le : end_at s at ≤ length s
  unfolding end_at
  end_le = omega arith

  -- the line is what stands between the place and the end
  pub line-take : take (end_at s at - at) (drop at s) ≡ line_at s at
  unfolding end_at line_at
  line-take =
      let n : length (until_lF (drop at s)) ≡ length s - length (from_lF (drop at s)) - at = omega (arith, lengths) in
      ap (take (length s - length (from_lF (drop at s)) - at)) (sym (cut (drop at s))) ∙ take_at (until_lF (drop at s)) (from_lF (drop at s)) _ n

  -- an end before the place is the end of all
  pub end_past : end_at s at < at → end_at s at ≡ length s
  unfolding end_at
  end_past h = omega (arith, lengths)

  pub line_past : end_at s at < at → take (length s - end_at s at) (drop (end_at s at) s) ≡ line_at s at
  line_past h =
      let z : end_at s at - at ≡ 0 = omega arith in
      let y : length s - end_at s at ≡ 0 = omega (arith, end_past h) in
      rw y (rw z at line-take)

  pub start_past : end_at s at < at → end_at s at ≡ start_at s at
  unfolding start_at
  start_past h =
      let g : length s ≤ at = omega (arith, end_past h) in
      rw (le-ltb at (length s) g) (end_past h)

  pub start-within : at ≤ end_at s at → at ≡ start_at s at
  unfolding start_at
  start-within h = cases (ltb at (length s)) (λ e. rw e) (λ e. rw e (omega (arith, ltb-false at (length s) e, end_le)))

  -- the line lies within the bytes
  pub line-within : at ≤ length s → at + length (line_at s at) ≤ length s
  unfolding line_at
  line-within h = omega (arith, lengths)

  -- where it ends
  pub end_is : at ≤ length s → end_at s at ≡ at + length (line_at s at)
  unfolding end_at line_at
  end_is h = omega (arith, lengths)

  -- a LF ended the line exactly if bytes follow it
  pub ended_end : ltb (end_at s at) (length s) ≡ ended_at s at
  unfolding ended_at end_at
  ended_end = go (from_lF (drop at s)) (length s) (omega (arith, lengths))
    where
      go : (f : List ℕ) (n : ℕ) → length f ≤ n → ltb (n - length f) n ≡ ltb 0 (length f)
      go [] n h = le-ltb (n - 0) n (omega arith)
      go (b ∷ f) n h = lt-ltb (n - suc (length f)) n (omega arith) ∙ sym (lt-ltb 0 (suc (length f)) (omega arith))

  pub ended_is : at ≤ length s → ltb (at + length (line_at s at)) (length s) ≡ ended_at s at
  ended_is h = rw (← end_is h) ended_end

  -- the next place: behind the line's last byte and the LF, where there is one
  pub next-is : at ≤ length s → next_at s at ≡ min (at + length (line_at s at) + 1) (length s)
  unfolding next_at end_at line_at
  next-is h = omega (arith, lengths)

  -- it lies further on, and within the bytes
  pub next_more : at < length s → at < next_at s at
  unfolding next_at end_at
  next_more h = omega (arith, lengths)

  pub next_le : next_at s at ≤ length s
  unfolding next_at
  next_le = omega arith

  -- what stands from it on is what follows the LF
  pub next-drop : drop (next_at s at) s ≡ drop 1 (from_lF (drop at s))
  unfolding next_at end_at
  next-drop =
      let f = from_lF (drop at s) in
      let p = take at s ++ until_lF (drop at s) ++ take 1 f in
      let e : p ++ drop 1 f ≡ s = rw (append_assoc (take at s ++ until_lF (drop at s)) (take 1 f) (drop 1 f), append_assoc (take at s) (until_lF (drop at s)) (take 1 f ++ drop 1 f), take-append-drop 1 f, cut (drop at s), take-append-drop at s) in
      let n : length p ≡ min (length s - length f + 1) (length s) = omega (arith, sym (length-append p (drop 1 f)) ∙ ap length e, length-drop 1 f, lengths) in
      ap (drop (min (length s - length f + 1) (length s))) (sym e) ∙ drop_at p (drop 1 f) _ n
