-- No name stands twice in the list that the counts tell.
use Rattle.std.specs.Prelude.{◌+◌, ◌-◌, ◌<◌, ◌≡◌, ◌++◌}
use Rattle.laws.specs.Kit.{ℕ, zero, suc, sym, ap, ◌∙◌, List, arith, dec_lt, length, get_or, length-append}
use Rattle.laws.specs.{Kit.{get_or-append, get_or-append-add}, Tab.{length-tab, get_or-tab}, Cat.{cat}}
use Rattle.machine.specs.{Table.{Name, name, Vec}}
use Rattle.image.specs.OpenNames.{no_name}
use Rattle.image.specs.Link.OrderFromCounts.{low, open_above, counted}

-- where an element of a list put together of pieces comes from
pub record From {A : Type 0} (f : ℕ → List A) (n p : ℕ) (d : A) : Type 0 where
  pub piece : ℕ
  pub at : ℕ
  pub small : piece < n
  pub inside : at < length (f piece)
  pub place : p ≡ length (cat f piece) + at
  pub is : get_or (cat f n) p d ≡ get_or (f piece) at d

pub from-cat : {A : Type 0} (f : ℕ → List A) (d : A) (n p : ℕ) → p < length (cat f n) → From f n p d
unfolding cat
from-cat f d zero p h = absurd (omega arith)
from-cat f d (suc n) p h = go (dec_lt p (length (cat f n))) (λ l. from-cat f d n p l)
  where
    go : Dec (p < length (cat f n)) → (p < length (cat f n) → From f n p d) → From f (suc n) p d
    go (yes l) before =
        let r = before l in
        record { piece = r.piece; at = r.at; small = omega (arith, r.small); inside = r.inside; place = r.place; is = get_or-append (cat f n) (f n) d p l ∙ r.is }
    go (no l) before =
        let j : ℕ = p - length (cat f n) in
        let e : p ≡ length (cat f n) + j = omega arith in
        let q : length (cat f n ++ f n) ≡ length (cat f n) + length (f n) = length-append (cat f n) (f n) in
        record { piece = n; at = j; small = omega arith; inside = omega arith; place = e; is = ap (λ (k : ℕ). get_or (cat f n ++ f n) k d) e ∙ get_or-append-add (cat f n) (f n) j d }

module _ (n : ℕ) (a : ℕ → Vec) where
  abbrev f : ℕ → List Name
  f u = open_above n a (suc u)

  piece-at : (u j : ℕ) → j < length (f u) → get_or (f u) j no_name ≡ name (suc u) (suc (low n a (suc u) + j))
  piece-at u j h =
      get_or-tab (λ j. name (suc u) (suc (low n a (suc u) + j))) (a (suc u) (suc u) - low n a (suc u)) j no_name
      (rw (length-tab (λ j. name (suc u) (suc (low n a (suc u) + j))) (a (suc u) (suc u) - low n a (suc u))) at h)

  pub counted_distinct : (p q : ℕ) → p < length (counted n a) → q < length (counted n a) → get_or (counted n a) p no_name ≡ get_or (counted n a) q no_name → p ≡ q
  unfolding counted
  counted_distinct p q hp hq e =
      let x = from-cat f no_name n p hp in
      let y = from-cat f no_name n q hq in
      let z : name (suc x.piece) (suc (low n a (suc x.piece) + x.at)) ≡ name (suc y.piece) (suc (low n a (suc y.piece) + y.at)) =
      sym (x.is ∙ piece-at x.piece x.at x.inside) ∙ e ∙ (y.is ∙ piece-at y.piece y.at y.inside) in
      let u : suc x.piece ≡ suc y.piece = ap (λ (w : Name). w.writer) z in
      let k : suc (low n a (suc x.piece) + x.at) ≡ suc (low n a (suc y.piece) + y.at) = ap (λ (w : Name). w.number) z in
      let v : x.piece ≡ y.piece = omega arith in
      let lo = ap (λ (w : ℕ). low n a (suc w)) v in
      let le = ap (λ (w : ℕ). length (cat f w)) v in
      omega (arith, x.place, y.place)
