-- Of the list of the open writes: as many as are open, each name is that of an open write, and each open write has its name there.
use Rattle.std.specs.Prelude.{◌≡◌}
use Rattle.laws.specs.Kit.{ℕ, zero, suc, refl, ◌∙◌, Bool, true, false, arith, length}
use Rattle.laws.specs.{Sum.{sum_same, tally, one}, Cat.{length_cats}, Each.{Each, no, and, each-cat, StandsAt, has-cat}}
use Rattle.machine.specs.{Table.{name, State, written}, Steps.{is_open, open_count}}
use Rattle.image.specs.OpenNames.{name_if, names_of_desk, names, no_name, OpenName}

module _ (s : State) where
  length_if : (b : Bool) (u k : ℕ) → length (name_if b u k) ≡ one b
  length_if true u k = refl
  length_if false u k = refl

  length_of : (u : ℕ) → length (names_of_desk s u) ≡ tally (written s u) (is_open s u)
  unfolding names_of_desk
  length_of u =
      length_cats (λ k. name_if (is_open s u k) u k) (written s u)
      ∙ sum_same (written s u) (λ k. one (is_open s u k)) (λ k. length (name_if (is_open s u k) u k)) (λ k _ _. length_if (is_open s u k) u k)

  -- as many as are open
  pub length-names : length (names s) ≡ open_count s
  unfolding names open_count
  length-names =
      length_cats (names_of_desk s) s.setup.desks
      ∙ sum_same s.setup.desks (λ u. tally (written s u) (is_open s u)) (λ u. length (names_of_desk s u)) (λ u _ _. length_of u)

module _ (s : State) where
  each_if : (u k : ℕ) (b : Bool) → (b ≡ true → OpenName s (name u k)) → Each (OpenName s) (name_if b u k)
  each_if u k true h = and (h refl) no
  each_if u k false h = no

  -- each name in the list is that of an open write
  pub names_open : Each (OpenName s) (names s)
  unfolding names names_of_desk
  names_open =
      each-cat (OpenName s) (λ u. names_of_desk s (suc u)) s.setup.desks
      (λ u h. each-cat (OpenName s) (λ k. name_if (is_open s (suc u) (suc k)) (suc u) (suc k)) (written s (suc u))
      (λ k g. each_if (suc u) (suc k) (is_open s (suc u) (suc k))
      (λ e. record { writer_in = (omega arith, h); number_in = (omega arith, g); stands_open = e })))

  has_if : (u k : ℕ) (b : Bool) → b ≡ true → StandsAt (name_if b u k) no_name (name u k)
  has_if u k true e = record { at = 0; small = omega arith; is = refl }
  has_if u k false e = absurd (let z : ◌≡◌ {A = ℕ} 0 1 = cc in omega arith)

  -- each open write's name is in the list
  pub open-named : (u k : ℕ) → OpenName s (name u k) → StandsAt (names s) no_name (name u k)
  unfolding names names_of_desk
  open-named zero k h = absurd (omega (arith, h.writer_in.0))
  open-named (suc u) zero h = absurd (omega (arith, h.number_in.0))
  open-named (suc u) (suc k) h =
      has-cat (λ u. names_of_desk s (suc u)) s.setup.desks u no_name (name (suc u) (suc k)) h.writer_in.1
      (has-cat (λ k. name_if (is_open s (suc u) (suc k)) (suc u) (suc k)) (written s (suc u)) k no_name (name (suc u) (suc k)) h.number_in.1
      (has_if (suc u) (suc k) (is_open s (suc u) (suc k)) h.stands_open))
