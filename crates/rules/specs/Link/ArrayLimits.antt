-- What the arrays tell of the model: nothing stands outside them.
use Rattle.std.specs.Prelude.{◌+◌, ◌*◌, ◌<◌, ◌≤◌, ◌≡◌, ◌∷◌}
use Rattle.laws.specs.Kit.{ℕ, zero, suc, refl, ◌∙◌, List, [], true, false, some, arith, ltb-true, ltb-false}
use Rattle.laws.specs.{Kit.{lt-ltb, ne_eqb, eqb-false, length, get_or, get_or-eq_default, ltb, eqb}, Loop.{cases}, Update.{same_or}}
use Rattle.laws.specs.Tab.{get_or-tab, get_or-tab_out}
use Rattle.machine.specs.{Table.{Vec, blank, set}, Rules.{In, Flat}}
use Rattle.machine.specs.Table as machine
use Rattle.clock.specs.Vectors.{places, place, place_out}
use Rattle.table.specs.{declared.Cell.{Cell}, declared.Desk.{Desk}, declared.Open.{Open}, Value.{desk0, desk_cells, entries, cell_at, open_at, is_free}, TypeShape.{DesksShape}}
use Rattle.table.specs.{EntryNames.{entry_number, named_at, named-is}, Model.{applied_vec, clock_vec, applied_m, clock_m, cells_m, open_m, opens_m}}
use Rattle.table.specs.Link.OpensModel.{opens-some}
use Rattle.rules.specs.Mirror.Test.{own_at, owns}

nil-at : (t : ℕ) → place [] t ≡ 0
nil-at zero = refl
nil-at (suc t) = refl

pub flat-place : (l : List ℕ) → length l ≡ places → Flat places (place l)
flat-place l e zero h = absurd (omega arith)
flat-place l e (suc t) h =
    cases (ltb t places)
    (λ b. (omega arith, ltb-true t places b))
    (λ b. absurd (omega (arith, place_out l (suc t) (omega (arith, ltb-false t places b)))))

-- zero at all the places of an array, so at all
pub zero-all : (l : List ℕ) → length l ≡ places → ((t : ℕ) → 1 ≤ t → t ≤ places → place l t ≡ 0) → (t : ℕ) → place l t ≡ 0
zero-all l e h t = same_or (place l t) 0 (λ q. q) (λ q. let b = flat-place l e t (omega arith) in h t b.0 b.1)

-- the desks --

module _ (ds : List Desk) (sh : DesksShape ds) where
  desk_in : (f : Desk → Vec) → ((t : ℕ) → f desk0 t ≡ 0) → ((i : ℕ) → i < places → Flat places (f (get_or ds i desk0))) → (i t : ℕ) → 1 ≤ f (get_or (desk0 ∷ ds) i desk0) t → In places i × In places t
  desk_in f z b zero t h = absurd (omega (arith, z t))
  desk_in f z b (suc i) t h =
      cases (ltb i places)
      (λ e. ((omega arith, ltb-true i places e), b i (ltb-true i places e) t h))
      (λ e. let o : length ds ≤ i = omega (arith, ltb-false i places e, sh.count) in
      absurd (let q : 1 ≤ f desk0 t = rw (get_or-eq_default ds desk0 o) at h in omega (arith, z t)))

  pub applied_in : (i t : ℕ) → 1 ≤ applied_m ds i t → In places i × In places t
  unfolding applied_m
  applied_in = desk_in applied_vec nil-at (λ i h. flat-place (get_or ds i desk0).applied (sh.each i h).applied)

  pub clock_in : (i t : ℕ) → 1 ≤ clock_m ds i t → In places i × In places t
  unfolding clock_m
  clock_in = desk_in clock_vec nil-at (λ i h. flat-place (get_or ds i desk0).clock.at (sh.each i h).clock)

  -- the own counts are the model's
  pub own_is : (u : ℕ) → place (owns ds) u ≡ applied_m ds u u
  unfolding owns applied_m
  own_is zero = refl
  own_is (suc t) =
      cases (ltb t places)
      (λ b. get_or-tab (own_at ds) places t 0 (ltb-true t places b))
      (λ b. let o : length ds ≤ t = omega (arith, ltb-false t places b, sh.count) in
      get_or-tab_out (own_at ds) places t 0 (ltb-false t places b) ∙ rw (get_or-eq_default ds desk0 o))

-- the cells --

no-set : {R : Type 0} {v u : ℕ} {w : Vec} → blank ≡ set v u w → R
no-set q = absurd (let z : ◌≡◌ {A = ℕ} 0 1 = cc in omega arith)

-- what holds of each row in use, as a set cell, holds of each set cell of the model
module _ (cs : List Cell) (P : ℕ → ℕ → ℕ → ℕ → Vec → Type 0)
    (at : (i x : ℕ) → i < places → x < desk_cells → ((cell_at cs (i * desk_cells + x)).writer ≡ 0 → ⊥)
    → P (suc i) (suc x) (cell_at cs (i * desk_cells + x)).status (cell_at cs (i * desk_cells + x)).writer (place (cell_at cs (i * desk_cells + x)).vector)) where
  pub set-each : (i x v u : ℕ) (w : Vec) → cells_m cs i x ≡ set v u w → P i x v u w
  unfolding cells_m
  set-each zero x v u w e = no-set e
  set-each (suc i) zero v u w e = no-set e
  set-each (suc i) (suc x) v u w e =
      cases (ltb i places)
      (λ a. cases (ltb x desk_cells)
      (λ b. cases (eqb (cell_at cs (i * desk_cells + x)).writer 0)
      (λ z. no-set (rw (a, b, z) at e))
      (λ z. found (ltb-true i places a) (ltb-true x desk_cells b) (eqb-false (cell_at cs (i * desk_cells + x)).writer 0 z) (rw (a, b, z) at e)))
      (λ b. no-set (rw (a, b) at e)))
      (λ a. no-set (rw a at e))
    where
      found : i < places → x < desk_cells → ((cell_at cs (i * desk_cells + x)).writer ≡ 0 → ⊥)
          → set (cell_at cs (i * desk_cells + x)).status (cell_at cs (i * desk_cells + x)).writer (place (cell_at cs (i * desk_cells + x)).vector) ≡ set v u w
          → P (suc i) (suc x) v u w
      found a b z q =
          let qv : (cell_at cs (i * desk_cells + x)).status ≡ v = cc in
          let qu : (cell_at cs (i * desk_cells + x)).writer ≡ u = cc in
          let qw : place (cell_at cs (i * desk_cells + x)).vector ≡ w = cc in
          rw (← qv, ← qu, ← qw) (at i x a b z)

pub at_set : (cs : List Cell) (i x : ℕ) → i < places → x < desk_cells → ((cell_at cs (i * desk_cells + x)).writer ≡ 0 → ⊥)
    → cells_m cs (suc i) (suc x) ≡ set (cell_at cs (i * desk_cells + x)).status (cell_at cs (i * desk_cells + x)).writer (place (cell_at cs (i * desk_cells + x)).vector)
unfolding cells_m
at_set cs i x a b ne = rw (lt-ltb i places a, lt-ltb x desk_cells b, ne_eqb (cell_at cs (i * desk_cells + x)).writer 0 ne)

-- what holds of each entry in use, under its name, holds of each open write of the model
module _ (os : List Open) (P : ℕ → ℕ → machine.Open → Type 0)
    (at : (e : ℕ) → e < entries → is_free (open_at os e) ≡ false → P (open_at os e).writer (entry_number (open_at os e)) (open_m (open_at os e))) where
  pub open-each : (u k : ℕ) (w : machine.Open) → opens_m os u k ≡ some w → P u k w
  open-each u k w q = let r = opens-some os u k w q in go r.at r.small r.holds r.is
    where
      go : (e : ℕ) → e < entries → named_at os u k e ≡ true → w ≡ open_m (open_at os e) → P u k w
      go e h t q = let a = named-is (open_at os e) u k t in rw (q, ← a.1, ← a.2) (at e h a.0)
