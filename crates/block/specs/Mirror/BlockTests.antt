-- The two tests of a block that the code searches by, and the search by a test that is handed in.
use Rattle.std.specs.Prelude.{◌<◌, ◌≤◌, ◌≡◌}
use Rattle.std.specs.Fn.{Shared}
use denote.Ref.{Bor}
use Rattle.laws.specs.Kit.{ℕ, refl, Bool, true, false, List, arith, dec_lt, eqb}
use Rattle.laws.specs.{Says.{Says, apart, says-eqb, says_as}, FirstNot.{FirstNot}}
use Rattle.block.specs.{declared.Test.{Test}, declared.Test.TheVariants.{Check, Place}, Damage.{Right, block_in}, Stands.{Stands}}

abbrev pub Passes : Test → ℕ → List ℕ → Type 0
Passes Check k l = Right l
Passes Place k l = Stands k l

-- what a block passes of which the test says P
abbrev pub PassesAt : (ℕ → List ℕ → Type 0) → List ℕ → ℕ → Type 0
PassesAt P b k = P k (block_in b k)

module _ {F : Type 0} (g : Shared F (Bor (List ℕ) × (ℕ × Unit {0})) Bool) (f : F) (b : List ℕ) where
  -- the test, called at the block at place k and that place, may answer r
  pub record Answered (k : ℕ) (r : Bool) : Type 0 where
    pub shown : Bor (List ℕ)
    pub shows : shown.now ≡ block_in b k
    pub says : g.post f (shown, (k, tt)) r

  -- k is the first place below n at which it answered no, and n where there is none
  pub record FirstFails (n k : ℕ) : Type 0 where
    pub most : k ≤ n
    pub before : (j : ℕ) → j < k → Answered j true
    pub fails : k < n → Answered k false

module _ {F : Type 0} {g : Shared F (Bor (List ℕ) × (ℕ × Unit {0})) Bool} {f : F} {b : List ℕ} (P : ℕ → List ℕ → Type 0) {n k : ℕ} where
  -- that is the first block that does not pass, where the test says P of each
  pub first_passes : FirstFails g f b n k
      → ((j : ℕ) (r : Bool) (x : Bor (List ℕ)) → j < n → x.now ≡ block_in b j → g.post f (x, (j, tt)) r → Says r (P j x.now)) → FirstNot (PassesAt P b) n k
  first_passes h says =
      record {
        most = h.most;
        before = λ j l. (let m = h.most in (at j true (omega arith) (h.before j l)).to refl);
        fails = λ l p. apart false ((at _ false l (h.fails l)).from p) refl;
      }
    where
      at : (j : ℕ) (r : Bool) → j < n → Answered g f b j r → Says r (PassesAt P b j)
      at j r l a = let e = a.shows in rw e at (says j r a.shown l e a.says)

-- it is the block count exactly if each passes
pub says_all_pass : {P : ℕ → Type 0} {n k : ℕ} → FirstNot P n k → Says (eqb n k) ((j : ℕ) → j < n → P j)
says_all_pass {P} {n} {k} h = says_as _ (says-eqb n k) (λ e j l. h.before j (omega arith)) (λ a. go a (dec_lt k n))
  where
    go : ((j : ℕ) → j < n → P j) → Dec (k < n) → n ≡ k
    go a (yes l) = absurd (h.fails l (a k l))
    go a (no l) = omega (arith, h.most)
