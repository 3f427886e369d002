-- The open writes of an image, each put into an entry of its own: whichever entry that is makes no difference.
use Rattle.std.specs.Prelude.{◌+◌, ◌<◌, ◌≡◌}
use Rattle.laws.specs.Kit.{ℕ, refl, sym, ap, ◌∙◌, Bool, true, false, not, List, arith, eq-eqb, ne_eqb, eqb, set}
use Rattle.laws.specs.{Kit.{replicate, length}, Loop.{pick}, Says.{apart}, Update.{same_or}, Count.{count, count-all, count_none, count-more}}
use Rattle.table.specs.{declared.Open.{Open}, Value.{entries, open0, free_open, open_at, put_open, is_free, entries_of, entries_of_put}}
use Rattle.table.specs.{Value.{get_or-entries_of, length-entries_of, open_at-stored, open_at-kept}, EntryNames.{free_at}}
use Rattle.table.specs.Beginning.{free_zeros}
use Rattle.image.specs.Decode.{open_place}
use Rattle.load.specs.Mirror.ImageRead.{open_from}

abbrev in_use : Open → Bool
in_use o = not (is_free o)

-- e is the entry of one of the first
pub record AmongFirst (first : ℕ) (at : ℕ → ℕ) (e : ℕ) : Type 0 where
  pub p : ℕ
  pub small : p < first
  pub is : e ≡ at p

-- where a vector takes ps places in the image
module _ (ps : ℕ) where
  -- the first of the image's open writes stand in entries of their own, and every other entry is free
  pub record Spread (b : List ℕ) (n m first : ℕ) (os : List Open) : Type 0 where
    pub at : ℕ → ℕ
    pub inside : (p : ℕ) → p < first → at p < entries
    pub there : (p : ℕ) → p < first → open_at os (at p) ≡ open_from ps b (open_place ps n m p)
    pub rest : (e : ℕ) → e < entries → is_free (open_at os e) ≡ false → AmongFirst first at e
    pub used : count in_use (entries_of os) ≡ first

  -- each has a writer, as it has in the image of a table
  abbrev pub Writers : List ℕ → ℕ → ℕ → ℕ → Type 0
  Writers b n m first = (p : ℕ) → p < first → (open_from ps b (open_place ps n m p)).writer ≡ 0 → ⊥

  abbrev pub OpensRead : List ℕ → ℕ → ℕ → ℕ → List Open → Type 0
  OpensRead b n m first os = Writers b n m first → Spread b n m first os

  -- the start: nothing is in use
  pub spread_start : (b : List ℕ) (n m k : ℕ) → Spread b n m 0 (replicate k free_open)
  spread_start b n m k = record {
    at = λ p. 0;
    inside = λ p h. absurd (omega arith);
    there = λ p h. absurd (omega arith);
    rest = λ e h f. absurd (apart (is_free (open_at (replicate k free_open) e)) (free_zeros k e) f);
    used = count_none in_use (entries_of (replicate k free_open)) open0 (λ j h. let z : j < entries = rw length-entries_of at h in rw (get_or-entries_of (replicate k free_open) j z, free_zeros k j));
  }

  module _ (b : List ℕ) (n m first : ℕ) (os : List Open) (w : Writers b n m (first + 1)) (s : Spread b n m first os) where
    -- while there are fewer than 64 an entry is free
    pub spread_room : first < entries → ((e : ℕ) → e < entries → free_at os e ≡ false) → ⊥
    spread_room h f =
        let c = count-all in_use open0 (entries_of os) (λ j g. let z : j < entries = rw length-entries_of at g in rw (get_or-entries_of os j z, f j z)) in
        omega (arith, s.used, length-entries_of os)

    -- one more
    module _ (e : ℕ) (o : Open) (h : e < entries) (f : free_at os e ≡ true) (size : length os ≡ entries) (is : o ≡ open_from ps b (open_place ps n m first)) where
      abbrev r : List Open
      r = put_open os e o

      st : entries_of r ≡ set (entries_of os) e o
      st = entries_of_put os e h size o

      used-at : (p : ℕ) → p < first → is_free (open_at os (s.at p)) ≡ false
      used-at p l = ne_eqb (open_at os (s.at p)).writer 0 (λ q. w p (omega arith) (sym (ap (λ (x : Open). x.writer) (s.there p l)) ∙ q))

      new-used : is_free o ≡ false
      new-used = ne_eqb o.writer 0 (λ q. w first (omega arith) (sym (ap (λ (x : Open). x.writer) is) ∙ q))

      abbrev now : ℕ → ℕ
      now p = pick (eqb p first) e (s.at p)

      now_old : (p : ℕ) → p < first → now p ≡ s.at p
      now_old p l = rw (ne_eqb p first (λ q. omega arith))

      now-new : now first ≡ e
      now-new = rw (eq-eqb first first refl)

      pub spread_more : Spread b n m (first + 1) r
      spread_more = record {
        at = now;
        inside = λ p l. same_or p first (λ q. rw (q, now-new) h) (λ q. let z : p < first = omega arith in rw (now_old p z) (s.inside p z));
        there = λ p l. same_or p first
            (λ q. rw (q, now-new) (open_at-stored os r e o h st ∙ is))
            (λ q. let z : p < first = omega arith in
            rw (now_old p z) (open_at-kept os r e o h st (s.at p) (s.inside p z) (λ x. apart (is_free (open_at os (s.at p))) (rw x f) (used-at p z)) ∙ s.there p z));
        rest = λ j hj g. same_or j e
            (λ q. record { p = first; small = omega arith; is = q ∙ sym now-new })
            (λ q. let k = s.rest j hj (rw (open_at-kept os r e o h st j hj q) at g) in record { p = k.p; small = omega (arith, k.small); is = k.is ∙ sym (now_old k.p k.small) });
        used = ap (count in_use) st ∙ count-more in_use (entries_of os) e o open0 (rw length-entries_of h) (rw (get_or-entries_of os e h, f)) (rw new-used) ∙ omega (arith, s.used);
      }
