-- The number of entries in use is the number of open writes.
use Rattle.std.specs.Prelude.{◌+◌, ◌<◌, ◌≡◌, ◌∷◌}
use Rattle.laws.specs.Kit.{ℕ, suc, sym, ap, ◌∙◌, List, [], Option, Bool, true, false, not, arith, length, get_or}
use Rattle.laws.specs.{Loop.{cases}, Count.{count, count-all, count_miss}, Find.{first_of, first-none}, Sum.{sum, one, tally, sum_same}}
use Rattle.laws.specs.Sum.{sum-zero, sum_one}
use Rattle.machine.specs.{Rules.{In}, Steps.{is_none, open_count}, Table.{written, most_open}}
use Rattle.table.specs.{declared.Open.{Open}, declared.Table.{Table}, Value.{entries, open0, is_free, open_at, entries_of, get_or-entries_of}}
use Rattle.table.specs.{Value.{length-entries_of}, EntryNames.{entry_number, named, free_at, free_named, own-named, not_named}}
use Rattle.table.specs.{Model.{open_m, opens_m, model_of}, Link.OpensModel.{opens_at}, Sound.{SoundTable}}

-- over the list of entries --

abbrev is_kept : List Open → ℕ → ℕ → Bool
is_kept l u k = not (is_none (first_of (named u k) open_m l))

abbrev in_use : Open → Bool
in_use o = not (is_free o)

abbrev NamesIn : List Open → ℕ → (ℕ → ℕ) → Type 0
NamesIn l n most = (e : ℕ) → e < length l → is_free (get_or l e open0) ≡ false → In n (get_or l e open0).writer × In (most (get_or l e open0).writer) (entry_number (get_or l e open0))

abbrev Apart : List Open → Type 0
Apart l = (e j : ℕ) → e < length l → j < length l → (e ≡ j → ⊥) → (u k : ℕ) → named u k (get_or l e open0) ≡ true → named u k (get_or l j open0) ≡ true → ⊥

module _ (x : Open) (l : List Open) (u k : ℕ) where
  kept-other : named u k x ≡ false → one (is_kept (x ∷ l) u k) ≡ one (is_kept l u k)
  unfolding first_of
  kept-other e = rw e

  kept_same : named u k x ≡ true → one (is_kept (x ∷ l) u k) ≡ 1
  unfolding first_of
  kept_same e = rw e

used-is : (l : List Open) (n : ℕ) (most : ℕ → ℕ) → Apart l → NamesIn l n most → count in_use l ≡ sum n (λ u. tally (most u) (is_kept l u))
unfolding count first_of
used-is [] n most q w = sym (sum_same n (λ u. 0) (λ u. tally (most u) (λ k. false)) (λ u a b. sum-zero (most u)) ∙ sum-zero n)
used-is (x ∷ l) n most q w =
    let ih = used-is l n most (λ e j a b ne. q (suc e) (suc j) (omega arith) (omega arith) (λ r. ne (omega arith))) (λ e h. w (suc e) (omega arith)) in
    cases (is_free x) (λ f. rw f (unused ih f)) (λ f. rw f (used ih f (w 0 (omega arith) f)))
  where
    row : (u : ℕ) → ((k : ℕ) → named u k x ≡ false) → tally (most u) (is_kept (x ∷ l) u) ≡ tally (most u) (is_kept l u)
    row u h = sum_same (most u) (λ k. one (is_kept l u k)) (λ k. one (is_kept (x ∷ l) u k)) (λ k c d. kept-other x l u k (h k))

    unused : count in_use l ≡ sum n (λ u. tally (most u) (is_kept l u)) → is_free x ≡ true → 0 + count in_use l ≡ sum n (λ u. tally (most u) (is_kept (x ∷ l) u))
    unused ih f =
        let all = sum_same n (λ u. tally (most u) (is_kept l u)) (λ u. tally (most u) (is_kept (x ∷ l) u)) (λ u a b. row u (λ k. free_named x u k f)) in
        omega arith

    gone : is_free x ≡ false → is_kept l x.writer (entry_number x) ≡ false
    gone f =
        ap (λ (o : Option _). not (is_none o)) (first-none (named x.writer (entry_number x)) open_m open0 l
        (λ j h. cases (named x.writer (entry_number x) (get_or l j open0))
        (λ r. absurd (q 0 (suc j) (omega arith) (omega arith) (λ z. (omega arith)) x.writer (entry_number x) (own-named x f) r))
        (λ r. r)))

    used : count in_use l ≡ sum n (λ u. tally (most u) (is_kept l u)) → is_free x ≡ false → In n x.writer × In (most x.writer) (entry_number x)
        → 1 + count in_use l ≡ sum n (λ u. tally (most u) (is_kept (x ∷ l) u))
    used ih f box =
        let a = x.writer in
        let here : tally (most a) (is_kept (x ∷ l) a) ≡ suc (tally (most a) (is_kept l a)) =
        sum_one (most a) (λ k. one (is_kept l a k)) (λ k. one (is_kept (x ∷ l) a k)) (entry_number x) box.1.0 box.1.1
        (kept_same x l a (entry_number x) (own-named x f) ∙ rw (gone f))
        (λ k ne. kept-other x l a k (not_named x a k (λ p r. ne (sym r))))
        in
        let all = sum_one n (λ u. tally (most u) (is_kept l u)) (λ u. tally (most u) (is_kept (x ∷ l) u)) a box.0.0 box.0.1 here
        (λ u ne. row u (λ k. not_named x u k (λ p r. ne (sym p))))
        in
        omega arith

-- of a table that keeps the rules
module _ {whole : Table} (ok : SoundTable whole) where
  abbrev os : List Open
  os = whole.opens

  open_is : count in_use (entries_of os) ≡ open_count (model_of whole)
  unfolding open_count opens_m
  open_is = used-is (entries_of os) whole.core.n (written (model_of whole)) far box
    where
      at : (e : ℕ) → e < length (entries_of os) → (e < entries) × (get_or (entries_of os) e open0 ≡ open_at os e)
      at e h = let b : e < entries = rw length-entries_of at h in (b, get_or-entries_of os e b)

      far : Apart (entries_of os)
      far e j a b ne u k s t = ok.unique e j (at e a).0 (at j b).0 ne u k (rw (at e a).1 at s) (rw (at j b).1 at t)

      box : NamesIn (entries_of os) whole.core.n (written (model_of whole))
      box e h f =
          let o = open_at os e in
          let g : is_free o ≡ false = rw (at e h).1 at f in
          let t = (ok.rules.frame.open-exactly o.writer (entry_number o)).0 (rw (opens_at os e o.writer (entry_number o) ok.unique (at e h).0 (own-named o g))) in
          rw (at e h).1 (t.writer, t.number)

  -- a free entry: the write finds fewer than the most open
  pub free_few : (e : ℕ) → e < entries → free_at os e ≡ true → open_count (model_of whole) < most_open
  free_few e h f =
      let c = count_miss in_use open0 (entries_of os) e (rw length-entries_of h) (rw (get_or-entries_of os e h, f)) in
      omega (arith, open_is, length-entries_of os)

  -- none: it finds the most
  pub full_many : ((e : ℕ) → e < entries → free_at os e ≡ false) → open_count (model_of whole) < most_open → ⊥
  full_many f h =
      let c = count-all in_use open0 (entries_of os) (λ j b. let z : j < entries = rw length-entries_of at b in rw (get_or-entries_of os j z, f j z)) in
      omega (arith, open_is, length-entries_of os)
