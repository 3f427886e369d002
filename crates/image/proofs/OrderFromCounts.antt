-- By the rules the counts alone tell in what order the open writes are saved.
use Rattle.std.specs.Prelude.{◌+◌, ◌-◌, ◌≡◌}
use Rattle.laws.specs.Kit.{ℕ, zero, suc, ap, ◌∙◌, Bool, append-nil, arith, ltb-true, ltb-false, ltb}
use Rattle.laws.specs.{Loop.{cases}, Tab.{tab, tab_from, tab-more}, Cat.{cat, cat-same}}
use Rattle.machine.specs.{Table.{name, State, written}, Steps.{is_open}, Rules.{Rules}}
use Rattle.image.specs.OpenNames.{name_if, names_of_desk, names}
use Rattle.image.specs.Link.OrderFromCounts.{low, open_above, counted, open-low}

-- the numbers above l, in their order
above : (u l n : ℕ) → cat (λ k. name_if (ltb l (suc k)) u (suc k)) n ≡ tab (n - l) (λ j. name u (suc (l + j)))
unfolding cat tab tab_from
above u l zero = let e : 0 - l ≡ 0 = omega arith in rw e
above u l (suc n) =
    cases (ltb l (suc n))
    (λ t.
    let h = ltb-true l (suc n) t in
    let e : suc n - l ≡ (n - l) + 1 = omega arith in
    let g : l + (n - l) ≡ n = omega arith in
    rw (t, above u l n, e, tab-more (λ j. name u (suc (l + j))) (n - l), g))
    (λ t.
    let h = ltb-false l (suc n) t in
    let e : suc n - l ≡ n - l = omega arith in
    rw (t, above u l n, append-nil, e))

module _ (s : State) (ok : Rules s) where
  -- the open writes by their names: those above what every desk has applied
  pub names-counted : names s ≡ counted s.setup.desks s.applied
  unfolding names names_of_desk counted
  names-counted =
      cat-same (λ u. names_of_desk s (suc u)) (λ u. open_above s.setup.desks s.applied (suc u)) s.setup.desks
      (λ u h.
      let l = low s.setup.desks s.applied (suc u) in
      cat-same (λ k. name_if (is_open s (suc u) (suc k)) (suc u) (suc k)) (λ k. name_if (ltb l (suc k)) (suc u) (suc k)) (written s (suc u))
      (λ k g. ap (λ (b : Bool). name_if b (suc u) (suc k)) (open-low s ok (suc u) (suc k) (omega arith, h) (omega arith, g)))
      ∙ above (suc u) l (written s (suc u)))
