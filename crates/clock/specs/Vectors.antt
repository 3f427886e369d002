-- Vectors as lists of numbers: place t of a list, from 1; the larger place by place; one place raised. Of any number of places.
use Rattle.std.specs.Prelude.{◌+◌, ◌-◌, ◌≤◌, ◌<◌, ◌≡◌}
use Rattle.laws.specs.Kit.{ℕ, zero, suc, max, refl, ap, ◌∙◌, fun_ext, Bool, false, List, arith, add-one, ltb-true}
use Rattle.laws.specs.{Kit.{ltb-false, lt-ltb, le-ltb, length, get_or, set, get_or-eq_default, ext_get_or, ltb}, Loop.{pick, cases}}
use Rattle.laws.specs.{Tab.{tab, get_or-tab, length-tab}, Update.{upd, seen1, lift_set1}}
use Rattle.machine.specs.{Table.{Vec, most_desks, most_writes}, Steps.{join}}
use Rattle.clock.specs.declared.Clock.{Clock}

-- the places of the code's vectors: one for each desk
abbrev pub places : ℕ
places = most_desks

-- the number at place t, from 1, and 0 where there is none
abbrev pub place : List ℕ → Vec
place l = seen1 (λ (x : ℕ). x) l 0

-- the larger of the two at each of the places
abbrev pub larger_at : List ℕ → List ℕ → ℕ → ℕ
larger_at a v t = max (get_or a t 0) (get_or v t 0)

unfoldable pub joined : List ℕ → List ℕ → List ℕ
joined a v = tab (length a) (larger_at a v)

-- place u one higher
abbrev pub raised : List ℕ → ℕ → List ℕ
raised a u = set a (u - 1) (place a u + 1)

abbrev pub clock_of : List ℕ → Clock
clock_of a = record { at = a }

abbrev pub join_clock : Clock → List ℕ → Clock
join_clock c v = clock_of (joined c.at v)

-- may place u be raised: it is a place, and below the largest number
abbrev pub rises_at : List ℕ → ℕ → Bool
rises_at a u = pick (ltb 0 u) (pick (ltb (u - 1) (length a)) (ltb (place a u) most_writes) false) false

abbrev pub raise_clock : Clock → ℕ → Clock
raise_clock c u = pick (rises_at c.at u) (clock_of (raised c.at u)) c

-- the place t of a list is its element t - 1
pub place_at : (l : List ℕ) (t : ℕ) → 1 ≤ t → place l t ≡ get_or l (t - 1) 0
place_at l zero h = absurd (omega arith)
place_at l (suc t) h = let e : suc t - 1 ≡ t = omega arith in rw e

pub place_out : (l : List ℕ) (t : ℕ) → length l < t → place l t ≡ 0
place_out l zero h = refl
place_out l (suc t) h = let o : length l ≤ t = omega arith in get_or-eq_default l 0 o

-- two lists of one length with the same places
pub place_ext : (a b : List ℕ) → length a ≡ length b → place a ≡ place b → a ≡ b
place_ext a b l e = ext_get_or 0 a b l (λ t h. ap (λ (v : Vec). v (suc t)) e)

-- a place set
pub place_set : (l : List ℕ) (t a : ℕ) → t < length l → place (set l t a) ≡ upd (place l) (suc t) a
place_set l t a h = lift_set1 (λ (x : ℕ). x) l t a 0 h

pub place-raised : (l : List ℕ) (u : ℕ) → 1 ≤ u → u ≤ length l → place (raised l u) ≡ upd (place l) u (suc (place l u))
place-raised l zero a b = absurd (omega arith)
place-raised l (suc u) a b =
    let e : suc u - 1 ≡ u = omega arith in
    rw e (place_set l u (get_or l u 0 + 1) b ∙ rw (add-one (get_or l u 0)))

-- the join of two lists of one length is the machine's join of their vectors
pub place-joined : (a v : List ℕ) → length v ≡ length a → place (joined a v) ≡ join (place a) (place v)
unfolding joined
place-joined a v e = fun_ext (λ t. go t)
  where
    go : (t : ℕ) → place (tab (length a) (larger_at a v)) t ≡ max (place a t) (place v t)
    go zero = refl
    go (suc t) =
        cases (ltb t (length a))
        (λ b. get_or-tab (larger_at a v) (length a) t 0 (ltb-true t (length a) b))
        (λ b. let l : length a ≤ t = ltb-false t (length a) b in
        let lv : length v ≤ t = omega arith in
        let lt : length (tab (length a) (larger_at a v)) ≤ t = omega (arith, length-tab (larger_at a v) (length a)) in
        get_or-eq_default (tab (length a) (larger_at a v)) 0 lt ∙ rw (get_or-eq_default a 0 l, get_or-eq_default v 0 lv))

pub length-joined : (a v : List ℕ) → length (joined a v) ≡ length a
unfolding joined
length-joined a v = length-tab (larger_at a v) (length a)

-- when the clock rises, by the code's tests --

pub rises_not : (c : Clock) (u : ℕ) → rises_at c.at u ≡ false → c ≡ raise_clock c u
rises_not c u e = rw e

pub rises : (c : Clock) (u : ℕ) → 1 ≤ u → u - 1 < length c.at → get_or c.at (u - 1) 0 < most_writes → clock_of (set c.at (u - 1) (get_or c.at (u - 1) 0 + 1)) ≡ raise_clock c u
rises c u h b l =
    rw (lt-ltb 0 u (omega arith), lt-ltb (u - 1) (length c.at) b, place_at c.at u h, lt-ltb (get_or c.at (u - 1) 0) most_writes l)

pub rises_out : (a : List ℕ) (u : ℕ) → length a ≤ u - 1 → rises_at a u ≡ false
rises_out a u l = cases (ltb 0 u) (λ t. rw (t, le-ltb (u - 1) (length a) l)) (λ t. rw t)

pub rises_most : (a : List ℕ) (u : ℕ) → 1 ≤ u → most_writes ≤ get_or a (u - 1) 0 → rises_at a u ≡ false
rises_most a u h l =
    rw (lt-ltb 0 u (omega arith), place_at a u h, le-ltb (get_or a (u - 1) 0) most_writes l) (cases (ltb (u - 1) (length a)) (λ t. rw t) (λ t. rw t))
