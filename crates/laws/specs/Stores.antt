-- Runs of stores, put together.
use Rattle.std.specs.Prelude.{◌+◌, ◌<◌, ◌≤◌, ◌≡◌, ◌∷◌, ◌++◌}
use Rattle.laws.specs.Kit.{ℕ, suc, refl, sym, ap, ◌∙◌, List, [], append_assoc, append-nil, arith, add-zero, length, set}
use Rattle.laws.specs.Kit.{length-append, take, drop, drop-drop, sets, sets-eq, set_comm, length-sets, add-one, get_or, drop-cons, drop_of_length-le}
use borrow.Rule.Slice.PartMut.{put_mid}

module _ {A : Type 0} where
  -- one run after another
  pub sets_append : (xs ys l : List A) (i : ℕ) → sets l i (xs ++ ys) ≡ sets (sets l i xs) (i + length xs) ys
  sets_append [] ys l i = rw add-zero
  sets_append (x ∷ xs) ys l i =
      let e : i + suc (length xs) ≡ suc i + length xs = omega arith in
      rw e (sets_append xs ys (set l i x) (suc i))

  -- the last store first
  pub sets_last : (xs l : List A) (i : ℕ) (a : A) → sets l i (xs ++ (a ∷ [])) ≡ sets (set l (i + length xs) a) i xs
  sets_last [] l i a = rw add-zero
  sets_last (x ∷ xs) l i a =
      let e : suc i + length xs ≡ i + suc (length xs) = omega arith in
      sets_last xs (set l i x) (suc i) a ∙ rw (set_comm l i (suc i + length xs) x a (λ e. (omega arith)), e)

  -- the part l[at..at + n] overwritten by n elements
  pub put_mid-sets : (at n : ℕ) (l vs w : List A) → w ≡ vs → n ≡ length vs → at + length vs ≤ length l → put_mid at n l w ≡ sets l at vs
  put_mid-sets at n l vs w e f h = rw (e, f, drop-drop) (sym (sets-eq vs l at h ∙ append_assoc (take at l) vs (drop (at + length vs) l)))

-- a loop that stores the numbers of v from p on: one more; all stored
pub sets_one : (l : List ℕ) (p : ℕ) (v : List ℕ) (t : ℕ) → t < length v → sets l (p + t) (drop t v) ≡ sets (set l (p + t) (get_or v t 0)) (p + (t + 1)) (drop (t + 1) v)
sets_one l p v t h =
    let e : p + (t + 1) ≡ suc (p + t) = omega arith in
    rw (e, add-one t, drop-cons v t 0 h)

pub sets_done : (l : List ℕ) (p : ℕ) (v : List ℕ) (t : ℕ) → length v ≤ t → sets l p (drop t v) ≡ l
sets_done l p v t h = rw (drop_of_length-le v h)

-- bytes were put: they stand in after from place at on, and r is the place behind them
pub record Stored {A : Type 0} (before : List A) (at : ℕ) (vs : List A) (after : List A) (r : ℕ) : Type 0 where
  pub stored : after ≡ sets before at vs
  pub behind : r ≡ at + length vs

-- a writer under way: what is left, vs from place p of out on, makes the whole, all from place at of begun on
pub record StoresLeft {A : Type 0} (begun : List A) (at : ℕ) (all : List A) (out : List A) (p : ℕ) (vs : List A) : Type 0 where
  pub same : sets out p vs ≡ sets begun at all
  pub next : p + length vs ≡ at + length all
  pub long : length out ≡ length begun

module _ {A : Type 0} where
  -- one store
  pub stored_one : {out : List A} {p r : ℕ} {a : A} → r ≡ p + 1 → Stored out p (a ∷ []) (set out p a) r
  stored_one e = record { stored = refl; behind = e }

  pub stored-long : {before after vs : List A} {at r : ℕ} → Stored before at vs after r → length after ≡ length before
  stored-long {before} {after} {vs} {at} s = ap length s.stored ∙ length-sets before at vs

  -- nothing was put yet; the parts may be bracketed as the writer needs them
  pub left-start : {out : List A} {at : ℕ} {all : List A} → StoresLeft out at all out at all
  left-start = record { same = refl; next = refl; long = refl }

  pub left-from : {out : List A} {at : ℕ} {all vs : List A} → all ≡ vs → StoresLeft out at all out at vs
  left-from e = rw e left-start

module _ {A : Type 0} {begun : List A} {at : ℕ} {all : List A} where
  -- a part was put
  pub left_put : {out after : List A} {p r : ℕ} {xs vs : List A} → Stored out p xs after r → StoresLeft begun at all out p (xs ++ vs) → StoresLeft begun at all after r vs
  left_put {out} {after} {p} {r} {xs} {vs} s w =
      rw (s.stored, s.behind) record {
        same = sym (sets_append xs vs out p) ∙ w.same;
        next = omega (arith, w.next, length-append xs vs);
        long = length-sets out p xs ∙ w.long;
      }

  -- nothing is left
  pub left-none : {out : List A} {p : ℕ} → StoresLeft begun at all out p [] → Stored begun at all out p
  left-none w = record { stored = w.same; behind = omega (arith, w.next) }

  -- the last part was put
  pub left-last : {out after : List A} {p r : ℕ} {xs : List A} → Stored out p xs after r → StoresLeft begun at all out p xs → Stored begun at all after r
  left-last {xs} s w = left-none (left_put s (rw append-nil w))
