-- Document 02, T-06: what an image of each edition holds at most, that all its blocks tell its edition, and that an old program takes no image
-- of edition 2.
use Rattle.std.specs.Prelude.{◌<◌, ◌≤◌, ◌≡◌, ◌≢◌}
use Rattle.laws.specs.Kit.{ℕ, refl, sym, ap, ◌∙◌, List, arith, dec_le, length, get_or}
use Rattle.machine.specs.{Table.{State}, Rules.{Rules}}
use Rattle.block.specs.{Check.{Bytes}, Block.{block}, Damage.{blocks_in, Undamaged}, Stands.{told_edition, StandsAt, first_misplaced}}
use Rattle.block.specs.{Stands.{first_misplaced_lem}, Limits.{narrow, broad, places_for, edition_of, edition_1, edition_2, desks-placed}}
use Rattle.block.specs.Limits.{one-edition, Wide, wide, wide_for, image_bytes}
use Rattle.image.specs.Encode.{blocks, encode_at, encode}
use Rattle.image.specs.Decode.{n_in, n-back}
use Rattle.image.specs.ImageSize.{most-blocks}
use Rattle.image.proofs.ImageSize.{bytes-encode}
use Rattle.image.specs.Load.{rule_fault, refused, loaded, load, NoImage}
use Rattle.image.proofs.Load.{load_13, other-rules, load_is, encode-load}
use Rattle.image.proofs.EachBlock.{image-sound}
use Rattle.image.proofs.FieldPlaces.{length-encode, block-at, every-block}
use Rattle.image.specs.Editions.{saves_narrow, saves_broad, edition_in}

-- at most 37 blocks in edition 1; "The largest image is 105 blocks."
pub narrow-largest : (s : State) → Rules s → s.setup.desks ≤ narrow → length (encode s) ≤ image_bytes narrow
narrow-largest s ok h =
    let w = wide narrow (omega arith) in rw (saves_narrow s h) (omega (arith, length-encode narrow w s, most-blocks narrow w s ok h))

pub image-largest : (s : State) → Rules s → length (encode s) ≤ image_bytes broad
image-largest s ok = go (dec_le s.setup.desks narrow)
  where
    go : Dec (s.setup.desks ≤ narrow) → length (encode s) ≤ image_bytes broad
    go (yes h) = omega (arith, narrow-largest s ok h)
    go (no h) =
        let w = wide broad (omega arith) in
        let l : narrow < s.setup.desks = omega arith in
        rw (saves_broad s l) (omega (arith, length-encode broad w s, most-blocks broad w s ok ok.frame.ranges.desks.1))

module _ (s : State) where
  abbrev width : ℕ
  width = places_for s.setup.desks

  wide_enough : Wide width
  wide_enough = wide_for s.setup.desks

  placed : Rules s → s.setup.desks ≤ width
  placed ok = desks-placed s.setup.desks ok.frame.ranges.desks.1

  -- every byte is below 256
  pub bytes-image : Rules s → Bytes (encode s)
  bytes-image ok = bytes-encode width wide_enough s ok (placed ok)

-- "all blocks of one image alike" (READINGS 32): that of n
pub editions_alike : (s : State) (k : ℕ) → k < blocks_in (encode s) → edition_in (encode s) k ≡ edition_of s.setup.desks
unfolding block
editions_alike s k h =
    let w = wide_enough s in
    let few : k < blocks (width s) s = omega (arith, length-encode (width s) w s) in
    ap (λ (l : List ℕ). get_or l 1 0) (block-at (width s) w s k few)
    ∙ every-block (width s) w s (λ _ l. told_edition l ≡ edition_of (width s)) (λ kind place l _ _. refl) k ∙ one-edition s.setup.desks

-- so an image that is loaded has in every block the edition of its n
pub loaded-edition : (b : List ℕ) (s : State) → load b ≡ loaded s → (k : ℕ) → k < blocks_in b → edition_in b k ≡ edition_of (n_in b)
loaded-edition b s e k h =
    let q = encode-load b s e in
    let l : k < blocks_in (encode s) = rw q h in
    ap (λ (d : List ℕ). edition_in d k) (sym q) ∙ editions_alike s k l ∙ ap edition_of (sym (n-back (width s) s) ∙ ap n_in q)

-- "An image whose edition doesn't fit its n is refused with 13 too", and one of mixed editions: with the block count for its place where every
-- block can stand where it is, whichever of the two editions it tells (READINGS 32)
pub wrong_edition : (b : List ℕ) (k : ℕ) → Undamaged b → k < blocks_in b → edition_in b k ≢ edition_of (n_in b)
    → (load b ≡ refused (rule_fault (first_misplaced b))) × (((j : ℕ) → j < blocks_in b → StandsAt b j) → load b ≡ refused (rule_fault (blocks_in b)))
wrong_edition b k u h f =
    let no : NoImage b = λ s r e. f (loaded-edition b s ((load_is b s).1 (r, e)) k h) in
    ((load_13 b (first_misplaced b)).1 (u, no, first_misplaced_lem b), λ a. (other-rules b).1 (u, no, a))

first-edition : (p : ℕ) (t : State) → get_or (encode_at p t) 1 0 ≡ edition_of p
unfolding encode_at block
first-edition p t = refl

-- "An old program refuses edition 2 with 13": it is undamaged, and in edition 1 the image of no table whatever
pub old_refuses : (s : State) → narrow < s.setup.desks → Undamaged (encode s) × ((t : State) → encode_at narrow t ≢ encode s)
old_refuses s h = (
  image-sound s,
  λ t e. (
      let z : ◌≡◌ {A = ℕ} 1 2 =
      sym edition_1.numbered ∙ sym (first-edition narrow t) ∙ ap (λ (l : List ℕ). get_or l 1 0) (e ∙ saves_broad s h) ∙ first-edition broad s ∙ edition_2.numbered in
      omega arith),
)
