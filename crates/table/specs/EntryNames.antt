-- The name of an entry's write, and what a search for an entry finds.
use Rattle.std.specs.Prelude.{◌+◌, ◌-◌, ◌<◌, ◌≤◌, ◌%◌, ◌≡◌, Option, Some, None}
use Rattle.laws.specs.Kit.{ℕ, refl, List, Bool, true, false, arith, below_more, eqb-true, eq-eqb, ne_eqb}
use Rattle.laws.specs.{Kit.{get_or, eqb}, Loop.{pick, cases}, Says.{apart}}
use Rattle.clock.specs.Vectors.{place, place_at}
use Rattle.table.specs.{declared.Open.{Open}}
use Rattle.table.specs.Value.{entries, open_at, is_free}

-- the entry's number: its writer's place of its vector
abbrev pub entry_number : Open → ℕ
entry_number o = place o.vector o.writer

-- the entry is in use and holds the write u.k
unfoldable pub named : ℕ → ℕ → Open → Bool
named u k o = pick (is_free o) false (pick (eqb o.writer u) (eqb (entry_number o) k) false)

-- a free entry has no name
pub free_named : (o : Open) (u k : ℕ) → is_free o ≡ true → named u k o ≡ false
unfolding named
free_named o u k e = rw e

-- an entry in use has its own name
pub own-named : (o : Open) → is_free o ≡ false → named o.writer (entry_number o) o ≡ true
unfolding named
own-named o e = rw (e, eq-eqb o.writer o.writer refl, eq-eqb (entry_number o) (entry_number o) refl)

-- and no other
pub named-is : (o : Open) (u k : ℕ) → named u k o ≡ true → (is_free o ≡ false) × (o.writer ≡ u) × (entry_number o ≡ k)
unfolding named
named-is o u k e =
    cases (is_free o)
    (λ t. apart false (rw t at e) refl)
    (λ t. cases (eqb o.writer u)
    (λ r. (t, eqb-true _ _ r, eqb-true _ _ (rw (t, r) at e)))
    (λ r. apart false (rw (t, r) at e) refl))

pub not_named : (o : Open) (u k : ℕ) → (o.writer ≡ u → entry_number o ≡ k → ⊥) → named u k o ≡ false
not_named o u k ne =
    cases (named u k o)
    (λ t. let n = named-is o u k t in absurd (ne n.1 n.2))
    (λ t. t)

-- by the writer, and then by its place of the vector
pub other-writer : (o : Open) (u k : ℕ) → (o.writer ≡ u → ⊥) → named u k o ≡ false
other-writer o u k ne = not_named o u k (λ p q. ne p)

pub same_writer : (o : Open) (u k : ℕ) → 1 ≤ u → o.writer ≡ u → named u k o ≡ eqb (get_or o.vector (u - 1) 0) k
unfolding named
same_writer o u k h e =
    let f : o.writer ≡ 0 → ⊥ = (λ q. (omega arith)) in
    rw (ne_eqb o.writer 0 f, e, eq-eqb u u refl, place_at o.vector u h)

-- what each answer of a search over the entries means (it has no number in the document): this one has Yes, or each has No
abbrev pub FoundBy : (ℕ → Type 0) → (ℕ → Type 0) → Option ℕ → Type 0
FoundBy Yes No (Some e) = (e < entries) × Yes e
FoundBy Yes No None = (e : ℕ) → e < entries → No e

pub found_as : {Yes No : ℕ → Type 0} (Yes' No' : ℕ → Type 0) (r : Option ℕ) → FoundBy Yes No r → ((e : ℕ) → e < entries → Yes e → Yes' e) → ((e : ℕ) → e < entries → No e → No' e) → FoundBy Yes' No' r
found_as Yes' No' (Some e) f y n = (f.0, y e f.0 f.1)
found_as Yes' No' None f y n = λ e l. n e l (f e l)

-- this one passes, or none does
abbrev pub FoundIn : (ℕ → Bool) → Option ℕ → Type 0
FoundIn p r = FoundBy (λ e. p e ≡ true) (λ e. p e ≡ false) r

pub found_at : (p : ℕ → Bool) (r : Option ℕ) (e : ℕ) → FoundIn p r → r ≡ Some e → (e < entries) × (p e ≡ true)
found_at p r e f q = rw q at f

pub found_nothing : (p : ℕ → Bool) (r : Option ℕ) → FoundIn p r → r ≡ None → (e : ℕ) → e < entries → p e ≡ false
found_nothing p r f q = rw q at f

abbrev pub named_at : List Open → ℕ → ℕ → ℕ → Bool
named_at l u k e = named u k (open_at l e)

abbrev pub free_at : List Open → ℕ → Bool
free_at l e = is_free (open_at l e)

-- a search that begins at any entry and goes round: each of the j entries that were seen has P
pub record Seen (P : ℕ → Type 0) (first j : ℕ) : Type 0 where
  pub most : j ≤ entries
  pub each : (i : ℕ) → i < j → P ((first + i) % entries)

pub seen_none : {P : ℕ → Type 0} {first : ℕ} → Seen P first 0
seen_none = record { most = omega arith; each = λ i h. absurd (omega arith) }

module _ {P : ℕ → Type 0} {first j : ℕ} (s : Seen P first j) where
  pub seen_more : j < entries → P ((first + j) % entries) → Seen P first (j + 1)
  seen_more h e = record { most = omega arith; each = below_more _ _ s.each e }

  pub seen_all : entries ≤ j → (e : ℕ) → e < entries → P e
  seen_all h e b =
      let i : ℕ = (e + entries - first % entries) % entries in
      let c : (first + i) % entries ≡ e = omega arith in
      rw (← c) (s.each i (omega arith))
