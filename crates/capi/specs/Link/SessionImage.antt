-- The image of the session that the values hold.
use Rattle.std.specs.Prelude.{◌≡◌, ◌*◌, ◌≤◌}
use Rattle.laws.specs.Kit.{refl, sym, ap, ◌∙◌, [], none, some, arith, length}
use Rattle.clock.specs.Vectors.{places}
use Rattle.table.specs.{declared.Table.{Table}, Value.{desk_cells}, Model.{model_of, applied_m}, Sound.{SoundTable}}
use Rattle.block.specs.Limits.{places_for, block_bytes}
use Rattle.image.specs.Link.OrderFromCounts.{counted}
use Rattle.image.specs.Encode.{blocks_of, encode}
use Rattle.image.proofs.SavedIsImage.{length-is}
use Rattle.session.specs.{Session.{Session}, Holds.{Holds}}
use Rattle.capi.specs.Access.{image_of}

module _ (t : Table) where
  -- no table
  pub no-image : t.core.n ≡ 0 → (z : Session) → Holds t z → image_of z ≡ []
  no-image e none h = refl
  no-image e (some s) h = absurd (omega (arith, h.sound.rules.frame.ranges.desks.0))

  -- a table
  pub image_is : (t.core.n ≡ 0 → ⊥) → (z : Session) → Holds t z → SoundTable t × (image_of z ≡ encode (model_of t))
  image_is f none h = absurd (f (ap (λ (t : Table). t.core.n) h))
  image_is f (some s) h = (h.sound, ap encode (sym h.model_is))

  pub image-few : (t.core.n ≡ 0 → ⊥) → (z : Session) → Holds t z → (t.core.n ≤ places) × (t.core.m ≤ desk_cells)
  image-few f z h = let r = (image_is f z h).0.rules.frame.ranges in (r.desks.1, r.cells.1)

  -- its length, by the counts alone
  pub image-long : (f : t.core.n ≡ 0 → ⊥) (z : Session) (h : Holds t z)
      → block_bytes * blocks_of (places_for t.core.n) t.core.n t.core.m (length (counted t.core.n (applied_m t.core.desks))) ≡ length (image_of z)
  image-long f z h = let i = image_is f z h in length-is i.0 ∙ ap length (sym i.1)
