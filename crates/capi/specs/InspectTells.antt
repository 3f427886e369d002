-- `access_inspect` and `access_run` tell the same of an image.
use Rattle.std.specs.Prelude.{◌≡◌, ◌∷◌}
use Rattle.laws.specs.Kit.{ℕ, refl, sym, ap, ◌∙◌, List, [], some, length, get_or}
use Rattle.machine.specs.{Table.{State}, Steps.{open_count}}
use Rattle.block.specs.Damage.{whole_blocks}
use Rattle.image.specs.Load.{Loaded, refused, loaded, load}
use Rattle.load.specs.Finding.{finding_of, fault_number}
use Rattle.capi.specs.Access.{left, begin, started, start_of, run_started, access_run, inspected, access_inspect}
use Rattle.capi.specs.Link.ImageStart.{start-load}

-- the first of the five numbers
abbrev pub found : List ℕ → ℕ
found saved = get_or (finding_of (load saved)) 0 0

module _ (saved : List ℕ) (some_bytes : length saved ≡ 0 → ⊥) where
  -- where it is not 0, `access_run` returns it, whatever else it is given, and leaves every buffer as found
  pub refused-alike : (found saved ≡ 0 → ⊥) → (text answers image lengths : List ℕ)
      → access_run saved text answers image lengths ≡ left (found saved) answers image lengths
  unfolding access_run
  refused-alike f text answers image lengths = go (load saved) refl
    where
      go : (x : Loaded) → load saved ≡ x → run_started (start_of saved) text answers image lengths ≡ left (found saved) answers image lengths
      go (refused r) e = rw (start-load saved some_bytes, e)
      go (loaded s) e = absurd (f (rw e))

  -- where it is 0, it begins with a table, and the other numbers are that table's
  pub accepted-alike : found saved ≡ 0
      → (s : State) × (start_of saved ≡ begin (some s)) × (finding_of (load saved) ≡ 0 ∷ 0 ∷ s.setup.desks ∷ s.setup.cells ∷ open_count s ∷ [])
  accepted-alike z = go (load saved) refl
    where
      go : (x : Loaded) → load saved ≡ x → (s : State) × (start_of saved ≡ begin (some s)) × (finding_of (load saved) ≡ 0 ∷ 0 ∷ s.setup.desks ∷ s.setup.cells ∷ open_count s ∷ [])
      go (refused r) e = absurd (fault_number r (ap (λ (x : Loaded). get_or (finding_of x) 0 0) (sym e) ∙ z))
      go (loaded s) e = (s, start-load saved some_bytes ∙ ap started e, ap finding_of e)

-- computed: no bytes, with five numbers lent, with six and with four
pub no-bytes-told : access_inspect [] (9 ∷ 9 ∷ 9 ∷ 9 ∷ 9 ∷ []) ≡ inspected 0 (15 ∷ 0 ∷ 0 ∷ 0 ∷ 0 ∷ [])
unfolding access_inspect load whole_blocks
no-bytes-told = refl

pub behind_stays : access_inspect [] (9 ∷ 9 ∷ 9 ∷ 9 ∷ 9 ∷ 9 ∷ []) ≡ inspected 0 (15 ∷ 0 ∷ 0 ∷ 0 ∷ 0 ∷ 9 ∷ [])
unfolding access_inspect load whole_blocks
behind_stays = refl

pub four_are_short : access_inspect [] (9 ∷ 9 ∷ 9 ∷ 9 ∷ []) ≡ inspected 14 (9 ∷ 9 ∷ 9 ∷ 9 ∷ [])
unfolding access_inspect
four_are_short = refl
