-- What the code's values have to do with a session: with no table every number is zero; a table keeps the rules.
use Rattle.std.specs.Prelude.{◌≡◌, ◌+◌, ◌<◌}
use Rattle.laws.specs.Kit.{refl, ap, List, none, some, ℕ, arith, length, get_or, set, replicate}
use Rattle.laws.specs.{Kit.{get_or-set_same, get_or-set_other}, Tab.{tab-one}}
use Rattle.clock.specs.Vectors.{places, place}
use Rattle.machine.specs.Table.{State, fresh, most_desks, most_cells}
use Rattle.machine.specs.Rules.{In}
use Rattle.machine.proofs.RulesKept.{fresh-rules}
use Rattle.table.specs.{declared.Cell.{Cell}, declared.Core.{Core}, declared.Desk.{Desk}, declared.Open.{Open}, declared.Table.{Table}}
use Rattle.table.specs.{Value.{desk0, all_cells, entries, cell0, cell_at, unset_cell, free_open}, Model.{model_of, table_of, table_with}}
use Rattle.table.specs.Sound.{AllZero, SoundTable}
use Rattle.table.specs.Beginning.{fresh_desk, fresh_table, same-at, zeros-at, unique-zeros}
use Rattle.table.proofs.Beginning.{fresh-model}
use Rattle.rules.specs.Mirror.Test.{own_at, owns}
use Rattle.session.specs.Session.{Session}

abbrev pub zero_desks : List Desk
zero_desks = replicate places fresh_desk

abbrev pub zero_cells : List Cell
zero_cells = replicate all_cells unset_cell

abbrev pub zero_opens : List Open
zero_opens = replicate entries free_open

abbrev pub zero_core : Core
zero_core = record { n = 0; m = 0; desks = zero_desks }

-- no table yet
abbrev pub zero_table : Table
zero_table = table_with zero_core zero_cells zero_opens

-- the table s
pub record Tabled (t : Table) (s : State) : Type 0 where
  pub model_is : model_of t ≡ s
  pub sound : SoundTable t

abbrev pub Holds : Table → Session → Type 0
Holds t none = t ≡ zero_table
Holds t (some s) = Tabled t s

-- it holds some session
pub record SomeSession (t : Table) : Type 0 where
  pub session : Session
  pub holds : Holds t session

-- the start
pub zero-holds : SomeSession zero_table
zero-holds = record { session = none; holds = refl }

-- "N n m" needs nothing but the two numbers --

zero-cell : (s : ℕ) → AllZero (cell_at zero_cells s)
zero-cell s = record {
  status = same-at (λ (c : Cell). c.status) unset_cell cell0 0 refl refl all_cells s;
  vector = λ t. same-at (λ (c : Cell). place c.vector t) unset_cell cell0 0 (zeros-at (1 + places) t) (zeros-at 1 t) all_cells s;
}

abbrev sized_zero : ℕ → ℕ → Table
sized_zero n m = table_of n m zero_desks zero_cells zero_opens

zero-model : (n m : ℕ) → model_of (sized_zero n m) ≡ fresh n m
unfolding fresh_table
zero-model n m = fresh-model n m

pub begun-holds : (n m : ℕ) (t : Table) → In most_desks n → In most_cells m → t ≡ zero_table
    → Holds (table_of n m t.core.desks t.cells t.opens) (some (fresh n m))
begun-holds n m t hn hm z = rw z (record {
  model_is = zero-model n m;
  sound = record {
    rules = rw (zero-model n m) (fresh-rules n m hn hm);
    blanks = λ s h e. zero-cell s;
    unique = unique-zeros entries;
  };
})

-- a desk stored, and its own count with it
pub owns_put : (ds : List Desk) (p : ℕ) (d : Desk) → length ds ≡ places → p < places
    → owns (set ds p d) ≡ set (owns ds) p (get_or d.applied p 0)
unfolding owns
owns_put ds p d e h =
    tab-one places (own_at ds) (own_at (set ds p d)) p (get_or d.applied p 0)
    (ap (λ (x : Desk). get_or x.applied p 0) (get_or-set_same ds p d desk0 (omega (arith, e))))
    (λ k b ne. ap (λ (x : Desk). get_or x.applied k 0) (get_or-set_other ds p k d desk0 ne))
