-- The open writes in their order: the entries that hold them, by writer then number.
use Rattle.std.specs.Prelude.{◌+◌, ◌-◌, ◌<◌, ◌≤◌, ◌≡◌, ◌∷◌, ◌++◌}
use Rattle.laws.specs.Kit.{ℕ, zero, suc, min, refl, sym, ◌∙◌, true, List, [], append_assoc, append-nil}
use Rattle.laws.specs.Kit.{none, arith, add-one, dec_lt, length, get_or, set, length-append, length-set, get_or-append, get_or-set_same}
use Rattle.laws.specs.{Kit.{get_or-set_other, get_or-append-add}, Tab.{tab, tab_from, tab-more, length-tab}, Cat.{cat, cat-le}}
use Rattle.machine.specs.Table.{Vec, Name, name}
use Rattle.table.specs.{declared.Open.{Open}}
use Rattle.table.specs.{declared.Desk.{Desk}, Value.{desk0, entries}, EntryNames.{named_at}, Model.{applied_m, opens_m}}
use Rattle.image.specs.{OpenNames.{no_name}, Link.OrderFromCounts.{least, low, open_above, counted}}

-- the count of t at desk i, both from 0, as the code reads it
pub count_at_lem : (ds : List Desk) (i t : ℕ) → applied_m ds (suc i) (suc t) ≡ get_or (get_or ds i desk0).applied t 0
unfolding applied_m
count_at_lem ds i t = refl

-- the least count: none looked at; one more
pub low-start : (ds : List Desk) (u r : ℕ) → r ≡ get_or (get_or ds u desk0).applied u 0 → r ≡ least (applied_m ds (suc u) (suc u)) (λ i. applied_m ds i (suc u)) 0
unfolding least
low-start ds u r e = e ∙ sym (count_at_lem ds u u)

pub low-more : (ds : List Desk) (d u i r s : ℕ) → r ≡ least d (λ i. applied_m ds i (suc u)) i → s ≡ min (get_or (get_or ds i desk0).applied u 0) r
    → s ≡ least d (λ i. applied_m ds i (suc u)) (i + 1)
unfolding least
low-more ds d u i r s e f = f ∙ rw (add-one i, e, count_at_lem ds i u)

pub low-own : (n : ℕ) (a : ℕ → Vec) (u : ℕ) → low n a u ≤ a u u
unfolding low least
low-own zero a u = omega arith
low-own (suc n) a u = let r = low-own n a u in omega arith

-- how many are open: of the writers before u, and one writer more
abbrev pub ahead : ℕ → List Desk → ℕ → List Name
ahead n ds u = cat (λ u. open_above n (applied_m ds) (suc u)) u

pub length_above : (n : ℕ) (ds : List Desk) (u : ℕ) → length (open_above n (applied_m ds) (suc u)) ≡ applied_m ds (suc u) (suc u) - low n (applied_m ds) (suc u)
length_above n ds u = length-tab (λ j. name (suc u) (suc (low n (applied_m ds) (suc u) + j))) (applied_m ds (suc u) (suc u) - low n (applied_m ds) (suc u))

pub ahead_more : (n : ℕ) (ds : List Desk) (u r s o l : ℕ) → r ≡ length (ahead n ds u) → o ≡ get_or (get_or ds u desk0).applied u 0 → l ≡ low n (applied_m ds) (suc u) → s ≡ r + (o - l)
    → s ≡ length (ahead n ds (u + 1))
unfolding cat
ahead_more n ds u r s o l er eo el e =
    e ∙ rw (add-one u, length-append (ahead n ds u), length_above n ds u, er, eo, el, count_at_lem ds u u)

-- the entry e holds the write w
abbrev pub HoldsWrite : List Open → Name → ℕ → Type 0
HoldsWrite os w e = (e < entries) × (named_at os w.writer w.number e ≡ true)

-- the entries of the writes l, in their order
pub record InOrder (os : List Open) (l : List Name) (order : List ℕ) (count : ℕ) : Type 0 where
  pub size : count ≡ length l
  pub each : (p : ℕ) → p < length l → HoldsWrite os (get_or l p no_name) (get_or order p 0)

pub ordered-none : (os : List Open) (order : List ℕ) → InOrder os [] order 0
ordered-none os order = record { size = refl; each = λ p h. absurd (omega arith) }

ordered-one : (os : List Open) (l : List Name) (order : List ℕ) (count e : ℕ) (w : Name) → InOrder os l order count → count < length order → HoldsWrite os w e
    → InOrder os (l ++ (w ∷ [])) (set order count e) (count + 1)
ordered-one os l order count e w h room f =
    record { size = rw (length-append l) (omega (arith, h.size)); each = λ p z. at p (rw (length-append l) at z) (dec_lt p (length l)) }
  where
    at : (p : ℕ) → p < length l + 1 → Dec (p < length l) → HoldsWrite os (get_or (l ++ (w ∷ [])) p no_name) (get_or (set order count e) p 0)
    at p z (yes y) = rw (get_or-append l (w ∷ []) no_name p y, get_or-set_other order count p e 0 (λ q. omega (arith, h.size))) (h.each p y)
    at p z (no y) =
        let q : p ≡ length l + 0 = omega arith in
        let k : length l + 0 ≡ count = omega (arith, h.size) in
        rw (q, get_or-append-add l (w ∷ []) 0 no_name, k, get_or-set_same order count e 0 room) f

-- the writes lo + 1 to k of u
abbrev pub writes_between : ℕ → ℕ → ℕ → List Name
writes_between u lo k = tab (k - lo) (λ j. name u (suc (lo + j)))

-- their entries put behind the p that are in order; r is the place behind them
pub record Listed (os : List Open) (u lo k p : ℕ) (before after : List ℕ) (r : ℕ) : Type 0 where
  pub behind : r ≡ p + (k - lo)
  pub on : (l : List Name) → InOrder os l before p → InOrder os (l ++ writes_between u lo k) after r
  pub long : length after ≡ length before

pub listed_none : (os : List Open) (u lo p : ℕ) (d : List ℕ) → Listed os u lo lo p d d p
unfolding tab tab_from
listed_none os u lo p d = let e : lo - lo ≡ 0 = omega arith in record { behind = omega arith; on = λ l h. rw (e, append-nil) h; long = refl }

pub listed_more : (os : List Open) (u lo k p : ℕ) (b a : List ℕ) (r e : ℕ) → Listed os u lo k p b a r → lo ≤ k → r < length a → HoldsWrite os (name u (k + 1)) e
    → Listed os u lo (k + 1) p b (set a r e) (r + 1)
listed_more os u lo k p b a r e h l room f =
    let x : k + 1 - lo ≡ k - lo + 1 = omega arith in
    let y : suc (lo + (k - lo)) ≡ k + 1 = omega arith in
    record {
      behind = omega (arith, h.behind);
      on = λ m g. rw (x, tab-more (λ j. name u (suc (lo + j))) (k - lo), y, ← append_assoc m (writes_between u lo k)) (ordered-one os (m ++ writes_between u lo k) a r e (name u (k + 1)) (h.on m g) room f);
      long = rw length-set h.long;
    }

-- what the search needs: the counts tell what is open, and it is there
pub record Known (n : ℕ) (ds : List Desk) (os : List Open) : Type 0 where
  pub few : length (counted n (applied_m ds)) ≤ entries
  pub found : (u k : ℕ) → u < n → low n (applied_m ds) (suc u) < k → k ≤ applied_m ds (suc u) (suc u) → opens_m os (suc u) k ≡ none → ⊥

-- one writer more fits
pub known-room : (n : ℕ) (ds : List Desk) (os : List Open) (u : ℕ) → Known n ds os → u < n
    → length (ahead n ds u) + (applied_m ds (suc u) (suc u) - low n (applied_m ds) (suc u)) ≤ entries
unfolding counted
known-room n ds os u h g = omega (arith, h.few, cat-le (λ u. open_above n (applied_m ds) (suc u)) n u g, length_above n ds u)

-- one writer more, as the code goes on
pub ordered-next : (os : List Open) (n : ℕ) (ds : List Desk) (b a : List ℕ) (u lo own p r : ℕ) → InOrder os (ahead n ds u) b p → lo ≡ low n (applied_m ds) (suc u)
    → own ≡ applied_m ds (suc u) (suc u) → Listed os (u + 1) lo own p b a r → InOrder os (ahead n ds (u + 1)) a r
unfolding cat
ordered-next os n ds b a u lo own p r h el eo g = rw (add-one u, ← el, ← eo) (rw (add-one u) at (g.on (ahead n ds u) h))
