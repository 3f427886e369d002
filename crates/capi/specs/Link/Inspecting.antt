-- The call of `access_inspect`, by the code's test of its buffer.
use Rattle.std.specs.Prelude.{◌<◌, ◌≤◌, ◌≡◌}
use Rattle.laws.specs.Kit.{List, ℕ, le-leb, lt-leb, length, sets}
use Rattle.image.specs.Load.{load}
use Rattle.load.specs.Finding.{finding_of}
use Rattle.capi.specs.Access.{five, inspected, access_inspect}

module _ (saved finding : List ℕ) where
  pub inspect_short : length finding < five → inspected 14 finding ≡ access_inspect saved finding
  unfolding access_inspect
  inspect_short h = rw (lt-leb _ _ h)

  pub inspect_done : {after numbers : List ℕ} → five ≤ length finding → after ≡ sets finding 0 numbers → numbers ≡ finding_of (load saved)
      → inspected 0 after ≡ access_inspect saved finding
  unfolding access_inspect
  inspect_done h e f = rw (le-leb _ _ h, e, f)
