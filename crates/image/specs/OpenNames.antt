-- The open writes by name: "by writer then number".
use Rattle.std.specs.Prelude.{◌≡◌, ◌∷◌}
use Rattle.laws.specs.{Kit.{ℕ, suc, Bool, true, List, []}, Loop.{pick}}
use Rattle.laws.specs.{Cat.{cat}}
use Rattle.machine.specs.{Table.{Name, name, State, written}, Steps.{is_open}, Rules.{In}}

-- u.k, where it is open
abbrev pub name_if : Bool → ℕ → ℕ → List Name
name_if b u k = pick b (name u k ∷ []) []

-- of the writer u, with the numbers 1, 2, .., as often as u has written
unfoldable pub names_of_desk : State → ℕ → List Name
names_of_desk s u = cat (λ k. name_if (is_open s u (suc k)) u (suc k)) (written s u)

-- of the writers 1, 2, .., n
unfoldable pub names : State → List Name
names s = cat (λ u. names_of_desk s (suc u)) s.setup.desks

-- where no name stands
abbrev pub no_name : Name
no_name = name 0 0

-- a name of an open write
pub record OpenName (s : State) (w : Name) : Type 0 where
  pub writer_in : In s.setup.desks w.writer
  pub number_in : In (written s w.writer) w.number
  pub stands_open : is_open s w.writer w.number ≡ true
