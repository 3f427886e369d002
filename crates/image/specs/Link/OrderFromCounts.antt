-- By the rules the counts alone tell which writes are open, so in what order they are saved.
use Rattle.std.specs.Prelude.{◌+◌, ◌-◌, ◌<◌, ◌≤◌, ◌≡◌}
use Rattle.laws.specs.Kit.{ℕ, zero, suc, min, List, arith, ltb-true, ltb-false, ltb}
use Rattle.laws.specs.{Loop.{cases}, Update.{same_or}, Tab.{tab}, Cat.{cat}}
use Rattle.machine.specs.{Table.{Vec, Name, name, State, written}, Steps.{is_open}, Rules.{In, Rules}}

-- the least of d, f 1, .., f n
unfoldable pub least : ℕ → Vec → ℕ → ℕ
least d f zero = d
least d f (suc n) = min (f (suc n)) (least d f n)

-- how many of u's writes every desk has applied
unfoldable pub low : ℕ → (ℕ → Vec) → ℕ → ℕ
low n a u = least (a u u) (λ i. a i u) n

-- the names above that, of each writer
abbrev pub open_above : ℕ → (ℕ → Vec) → ℕ → List Name
open_above n a u = tab (a u u - low n a u) (λ j. name u (suc (low n a u + j)))

unfoldable pub counted : ℕ → (ℕ → Vec) → List Name
counted n a = cat (λ u. open_above n a (suc u)) n

pub least_at : (d : ℕ) (f : Vec) (n i : ℕ) → 1 ≤ i → i ≤ n → least d f n ≤ f i
unfolding least
least_at d f zero i l h = absurd (omega arith)
least_at d f (suc n) i l h =
    same_or i (suc n) (λ e. rw e (omega arith)) (λ e. let r = least_at d f n i l (under e) in omega arith)
  where
    under : (i ≡ suc n → ⊥) → i ≤ n
    under e = omega arith

least-is : (d k : ℕ) (f : Vec) (n : ℕ) → least d f n < k → k ≤ d → (i : ℕ) × In n i × (f i < k)
unfolding least
least-is d k f zero h g = absurd (omega arith)
least-is d k f (suc n) h g =
    cases (ltb (f (suc n)) k)
    (λ e. (suc n, (omega arith, omega arith), ltb-true (f (suc n)) k e))
    (λ e. let q = ltb-false (f (suc n)) k e in let r = least-is d k f n (omega arith) g in (r.0, (r.1.0, omega (arith, r.1.1)), r.2))

module _ (s : State) (ok : Rules s) where
  pub open-low : (u k : ℕ) → In s.setup.desks u → In (written s u) k → is_open s u k ≡ ltb (low s.setup.desks s.applied u) k
  unfolding low
  open-low u k a b =
      cases (ltb (low s.setup.desks s.applied u) k)
      (λ e.
      let r = least-is (written s u) k (λ i. s.applied i u) s.setup.desks (ltb-true (low s.setup.desks s.applied u) k e) b.1 in
      rw e ((ok.frame.open-exactly u k).1 (record { writer = a; number = b; lacks = record { desk = r.0; desk_in = r.1; lower = r.2 } })))
      (λ e. rw e (cases (is_open s u k)
      (λ t. absurd
      (let l = ((ok.frame.open-exactly u k).0 t).lacks in
      omega (arith, ltb-false (low s.setup.desks s.applied u) k e, l.lower, least_at (written s u) (λ i. s.applied i u) s.setup.desks l.desk l.desk_in.0 l.desk_in.1)))
      (λ t. t)))
