-- Of every table's image, whether it keeps the rules or not: no block of it is damaged, and each can stand where it is.
use Rattle.std.specs.Prelude.{◌<◌}
use Rattle.laws.specs.{Kit.{ℕ, arith, leb}, Loop.{cases}}
use Rattle.machine.specs.Table.{State}
use Rattle.block.specs.{Damage.{Right, blocks_in, Undamaged, right_block}, Stands.{EditionStands, Stands, StandsAt, block-stands}}
use Rattle.block.specs.Limits.{Wide, wide_for, narrow, places_for, edition_of}
use Rattle.image.specs.Encode.{encode_at, blocks, encode}
use Rattle.image.proofs.FieldPlaces.{length-encode, block-at, every-block}

pub sound-encode : (ps : ℕ) → Wide ps → (s : State) → Undamaged (encode_at ps s)
sound-encode ps wd s =
    let e = length-encode ps wd s in
    record {
      whole = record { nonzero = omega arith; multiple = rw e (omega arith) };
      checks = λ k h. rw (block-at ps wd s k (omega arith)) (every-block ps wd s (λ _. Right) (λ kind k l _. right_block (edition_of ps) kind k l) k);
    }

-- its length is a nonzero multiple of 512, and every block's check is right
pub image-sound : (s : State) → Undamaged (encode s)
image-sound s = let n = s.setup.desks in sound-encode (places_for n) (wide_for n) s

edition-stands : (p : ℕ) → EditionStands (edition_of p)
unfolding edition_of
edition-stands p = cases (leb p narrow) (λ e. rw e (omega arith, omega arith)) (λ e. rw e (omega arith, omega arith))

-- and every block can stand where it is
pub image-stands : (s : State) (k : ℕ) → k < blocks_in (encode s) → StandsAt (encode s) k
image-stands s k h =
    let ps = places_for s.setup.desks in
    let wd = wide_for s.setup.desks in
    let few : k < blocks ps s = omega (arith, length-encode ps wd s) in
    rw (block-at ps wd s k few) (every-block ps wd s Stands (λ kind k l h _. block-stands (edition_of ps) kind k l (edition-stands ps) h) k)
