-- At most as many writes are open as there are entries: each entry has one name.
use Rattle.std.specs.Prelude.{◌≤◌, ◌≡◌, ◌∷◌}
use Rattle.laws.specs.{Kit.{ℕ, suc, sym, ◌∙◌, List, [], Bool, true, false, not, arith, length}, Sum.{sum, one, tally}}
use Rattle.laws.specs.{Sum.{sum-le, sum_same, sum-zero, sum-one-le}, Find.{first_of}}
use Rattle.machine.specs.{Table.{most_open}, Steps.{is_none, open_count}}
use Rattle.table.specs.{declared.Table.{Table}, declared.Open.{Open}, Value.{entries_of, length-entries_of}}
use Rattle.table.specs.{EntryNames.{entry_number, named, not_named}, Model.{open_m, opens_m, model_of, applied_m}}

-- the names u.1 .. u.(w u) of u up to n that the entries hold
abbrev found : List Open → ℕ → ℕ → Bool
found l u k = not (is_none (first_of (named u k) open_m l))

names : List Open → ℕ → (ℕ → ℕ) → ℕ
names l n w = sum n (λ u. tally (w u) (found l u))

-- one more entry: one name more at most
one_more : (x : Open) (l : List Open) (u k : ℕ) → one (found (x ∷ l) u k) ≤ suc (one (found l u k))
one_more x l u k = small (found (x ∷ l) u k) (one (found l u k))
  where
    small : (b : Bool) (n : ℕ) → one b ≤ suc n
    small true n = omega arith
    small false n = omega arith

other_name : (x : Open) (l : List Open) (u k : ℕ) → (x.writer ≡ u → entry_number x ≡ k → ⊥) → one (found (x ∷ l) u k) ≤ one (found l u k)
unfolding first_of
other_name x l u k ne = rw (not_named x u k ne) (omega arith)

names-few : (l : List Open) (n : ℕ) (w : ℕ → ℕ) → names l n w ≤ length l
unfolding names first_of
names-few [] n w =
    let z : names [] n w ≡ 0 = sum_same n (λ u. 0) (λ u. tally (w u) (found [] u)) (λ u _ _. none-there u) ∙ sum-zero n in omega arith
  where
    none-there : (u : ℕ) → tally (w u) (found [] u) ≡ 0
    none-there u = sum-zero (w u)
names-few (x ∷ l) n w =
    let ih = names-few l n w in
    let s : names (x ∷ l) n w ≤ suc (names l n w) =
    sum-one-le n (λ u. tally (w u) (found l u)) (λ u. tally (w u) (found (x ∷ l) u)) x.writer
    (sum-one-le (w x.writer) (λ k. one (found l x.writer k)) (λ k. one (found (x ∷ l) x.writer k)) (entry_number x)
    (one_more x l x.writer (entry_number x))
    (λ k ne. other_name x l x.writer k (λ _ q. ne (sym q))))
    (λ u ne. sum-le (w u) (λ k. one (found (x ∷ l) u k)) (λ k. one (found l u k)) (λ k _ _. other_name x l u k (λ p _. ne (sym p)))) in
    omega arith

-- "at most 64 are open"
pub few : (t : Table) → open_count (model_of t) ≤ most_open
unfolding open_count opens_m names
few t = omega (arith, names-few (entries_of t.opens) t.core.n (λ u. applied_m t.core.desks u u), length-entries_of t.opens)
