-- Reading back what a run of stores put.
use Rattle.std.specs.Prelude.{◌+◌, ◌<◌, ◌≤◌, ◌≡◌, ◌∷◌}
use Rattle.laws.specs.Kit.{ℕ, zero, suc, refl, ◌∙◌, List, [], arith, not-suc-le-zero, le_of_suc-le-suc}
use Rattle.laws.specs.Kit.{add-zero, length, get_or, set, length-set, sets, get_or-set_same, get_or-set_other}

module _ {A : Type 0} (d : A) where
  -- what lies outside stays
  pub get_or_sets_below : (vs l : List A) (i j : ℕ) → j < i → get_or (sets l i vs) j d ≡ get_or l j d
  get_or_sets_below [] l i j h = refl
  get_or_sets_below (a ∷ vs) l i j h =
      get_or_sets_below vs (set l i a) (suc i) j (omega arith) ∙ get_or-set_other l i j a d (λ e. (omega arith))

  pub get_or_sets_above : (vs l : List A) (i j : ℕ) → i + length vs ≤ j → get_or (sets l i vs) j d ≡ get_or l j d
  get_or_sets_above [] l i j h = refl
  get_or_sets_above (a ∷ vs) l i j h =
      get_or_sets_above vs (set l i a) (suc i) j (omega arith) ∙ get_or-set_other l i j a d (λ e. (omega arith))

  -- what was put is read
  pub get_d_sets : (vs l : List A) (i k : ℕ) → i + length vs ≤ length l → k < length vs → get_or (sets l i vs) (i + k) d ≡ get_or vs k d
  get_d_sets [] l i k h g = absurd (not-suc-le-zero g)
  get_d_sets (a ∷ vs) l i zero h g =
      let b : i < length l = omega arith in
      rw add-zero (get_or_sets_below vs (set l i a) (suc i) i (omega arith) ∙ get_or-set_same l i a d b)
  get_d_sets (a ∷ vs) l i (suc k) h g =
      let e : i + suc k ≡ suc i + k = omega arith in
      let b : suc i + length vs ≤ length (set l i a) = rw length-set (omega arith) in
      rw e (get_d_sets vs (set l i a) (suc i) k b (le_of_suc-le-suc g))
