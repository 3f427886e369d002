-- More of what a test says (Says): of an implication, of the numbers 1 to n, of two lists.
use Rattle.std.specs.Prelude.{◌≤◌, ◌<◌, ◌≡◌, ◌&&◌, ◌∷◌}
use Rattle.laws.specs.Kit.{ℕ, refl, sym, Bool, true, false, not, List, [], arith, eqb, leb, ltb}
use Rattle.laws.specs.{Loop.{pick}, All.{all, all-at, all_true}, Says.{Says, says_both, says_if, says-not, says_all, says_as}}
use Rattle.laws.specs.Says.{says-eqb, says-leb, says-ltb, clash}

pub says-yes : Says true Unit
says-yes = record { to = λ e. tt; from = λ h. refl }

pub says-false : (b : Bool) → Says (not b) (b ≡ false)
says-false true = record { to = λ e. sym e; from = λ e. sym e }
says-false false = record { to = λ e. refl; from = λ e. refl }

-- b, but where a holds
pub says-unless : {Q : Type 0} (a b : Bool) → (a ≡ false → Says b Q) → Says (pick a true b) (a ≡ false → Q)
says-unless true b f = record { to = λ e q. clash (sym q); from = λ g. refl }
says-unless false b f = record { to = λ e q. (f refl).to e; from = λ g. (f refl).from (g refl) }

-- A test with its meaning: what it computes, what holds where it passes, and that it says so.
pub record Test : Type 1 where
  pub passes : Bool
  pub holds : Type 0
  pub says : Says passes holds

abbrev pub le : ℕ → ℕ → Test
le a b = record { passes = leb a b; holds = a ≤ b; says = says-leb a b }

abbrev pub lt : ℕ → ℕ → Test
lt a b = record { passes = ltb a b; holds = a < b; says = says-ltb a b }

abbrev pub eq : ℕ → ℕ → Test
eq a b = record { passes = eqb a b; holds = a ≡ b; says = says-eqb a b }

abbrev pub yes : Test
yes = record { passes = true; holds = Unit; says = says-yes }

-- b is false
abbrev pub is_false : Bool → Test
is_false b = record { passes = not b; holds = b ≡ false; says = says-false b }

abbrev pub none_of : Test → Test
none_of a = record { passes = not a.passes; holds = a.holds → ⊥; says = says-not _ a.says }

abbrev pub both : Test → Test → Test
both a b = record { passes = a.passes && b.passes; holds = a.holds × b.holds; says = says_both _ _ a.says b.says }

-- where a holds b, and else c
abbrev pub choice : Test → Test → Test → Test
choice a b c =
    record {
      passes = pick a.passes b.passes c.passes;
      holds = (a.holds → b.holds) × ((a.holds → ⊥) → c.holds);
      says = says_if _ _ _ a.says b.says c.says;
    }

-- where a holds, b
abbrev pub given : Test → Test → Test
given a b =
    record {
      passes = pick a.passes b.passes true;
      holds = a.holds → b.holds;
      says = says_as _ (says_if _ _ true a.says b.says says-yes) (λ h. h.0) (λ f. (f, λ _. tt));
    }

-- b, but where a holds
abbrev pub unless : Bool → Test → Test
unless a b = record { passes = pick a true b.passes; holds = a ≡ false → b.holds; says = says-unless a _ (λ _. b.says) }

-- both hold or none
abbrev pub alike : Test → Test → Test
alike a b = both (given a b) (given b a)

-- of 1 to n
pub says-each : {P : ℕ → Type 0} (p : ℕ → Bool) (n : ℕ) → ((k : ℕ) → Says (p k) (P k)) → Says (all p n 1) ((k : ℕ) → 1 ≤ k → k ≤ n → P k)
says-each p n h =
    record {
      to = λ e k l g. (h k).to (all-at p n 1 e k l (omega arith));
      from = λ f. all_true p n 1 (λ k l g. (h k).from (f k l (omega arith)));
    }

abbrev pub each : ℕ → (ℕ → Test) → Test
each n f =
    record { passes = all (λ k. (f k).passes) n 1; holds = (k : ℕ) → 1 ≤ k → k ≤ n → (f k).holds; says = says-each _ n (λ k. (f k).says) }

-- of 0 to n - 1
abbrev pub upto : ℕ → (ℕ → Test) → Test
upto n f = record { passes = all (λ k. (f k).passes) n 0; holds = (k : ℕ) → k < n → (f k).holds; says = says_all _ n (λ k _. (f k).says) }

-- two lists of numbers, compared
unfoldable pub same : List ℕ → List ℕ → Bool
same [] [] = true
same [] (y ∷ m) = false
same (x ∷ l) [] = false
same (x ∷ l) (y ∷ m) = eqb x y && same l m

pub says_same : (l m : List ℕ) → Says (same l m) (l ≡ m)
unfolding same
says_same [] [] = record { to = λ e. refl; from = λ e. refl }
says_same [] (y ∷ m) = record { to = λ e. clash e; from = λ e. cc }
says_same (x ∷ l) [] = record { to = λ e. clash e; from = λ e. cc }
says_same (x ∷ l) (y ∷ m) =
    says_as (eqb x y && same l m) (says_both (eqb x y) (same l m) (says-eqb x y) (says_same l m))
    (λ h. let p = h.0 in let q = h.1 in cc)
    (λ e. (let z : x ≡ y = cc in z, let z : l ≡ m = cc in z))
