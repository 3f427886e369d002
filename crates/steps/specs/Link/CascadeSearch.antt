-- What the cascade's search yields.
use Rattle.std.specs.Prelude.{◌+◌, ◌-◌, ◌≤◌, ◌≡◌, Option, Some, None}
use Rattle.laws.specs.{Kit.{ℕ, ap, Bool, arith, List, none, some}, Loop.{scan}}
use Rattle.table.specs.declared.Open.{Open}
use Rattle.steps.specs.Link.Cascade.{due_in, DueAt}

-- the first writer with a write that is due, and the write's entry; or that there is none
abbrev pub Yields : (n i : ℕ) (a own : List ℕ) (os : List Open) → Option (ℕ × ℕ) → Type 0
Yields n i a own os (Some (u, e)) = (1 ≤ u) × (u ≤ n) × (scan (due_in a own os i) some none n 1 ≡ some u) × DueAt a own os i u e
Yields n i a own os None = scan (due_in a own os i) some none n 1 ≡ none

-- the search begins at writer 1
pub scan-whole : (p : ℕ → Bool) (n : ℕ) → scan p some none (n + 1 - 1) 1 ≡ scan p some none n 1
scan-whole p n = ap (λ (x : ℕ). scan p some none x 1) (omega arith)

module _ (n i : ℕ) (a own : List ℕ) (os : List Open) (r : Option (ℕ × ℕ)) (y : Yields n i a own os r) where
  pub yields_at : {u e : ℕ} → r ≡ Some (u, e) → Yields n i a own os (Some (u, e))
  yields_at q = rw q at y

  pub yields_none : r ≡ None → Yields n i a own os None
  yields_none q = rw q at y
