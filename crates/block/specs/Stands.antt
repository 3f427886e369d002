-- Document 02, T-01: whether a block can stand where it is, by its own "place, edition or kind".
use Rattle.std.specs.Prelude.{◌+◌, ◌*◌, ◌<◌, ◌≤◌, ◌≡◌, ◌&&◌}
use Rattle.laws.specs.Kit.{ℕ, zero, suc, refl, Bool, false, List, arith, div-add-mod', eqb, leb, get_or}
use Rattle.laws.specs.{Kit.{dec_le}, Says.{Says, clash, says-leb, says-eqb, says_as, says_both}, FirstNot.{first_not, FirstNot}}
use Rattle.laws.specs.{FirstNot.{first_found}, Each.{each_at, each_part}}
use Rattle.block.specs.{Check.{Byte, Bytes}, Block.{block}, Damage.{block_in, blocks_in}}

-- "Byte 0 kind, 1 edition, 2-3 the block's place from 0"
abbrev pub told_kind : List ℕ → ℕ
told_kind l = get_or l 0 0

abbrev pub told_edition : List ℕ → ℕ
told_edition l = get_or l 1 0

abbrev pub told_place : List ℕ → ℕ
told_place l = get_or l 2 0 + 256 * get_or l 3 0

-- "kind 1 in block 0, 2 to 4 after it"
abbrev pub KindStands : ℕ → ℕ → Type 0
KindStands zero kind = kind ≡ 1
KindStands (suc k) kind = (2 ≤ kind) × (kind ≤ 4)

-- "T-01's place test takes either edition"
abbrev pub EditionStands : ℕ → Type 0
EditionStands edition = (1 ≤ edition) × (edition ≤ 2)

pub record Stands (k : ℕ) (l : List ℕ) : Type 0 where
  pub place : told_place l ≡ k
  pub edition : EditionStands (told_edition l)
  pub kind : KindStands k (told_kind l)

abbrev pub StandsAt : List ℕ → ℕ → Type 0
StandsAt b k = Stands k (block_in b k)

-- as a test
abbrev pub kind_stands : ℕ → ℕ → Bool
kind_stands zero kind = eqb kind 1
kind_stands (suc k) kind = leb 2 kind && leb kind 4

abbrev pub stands : ℕ → List ℕ → Bool
stands k l = eqb (told_place l) k && ((leb 1 (told_edition l) && leb (told_edition l) 2) && kind_stands k (told_kind l))

says-kind : (k kind : ℕ) → Says (kind_stands k kind) (KindStands k kind)
says-kind zero kind = says-eqb kind 1
says-kind (suc k) kind = says_both (leb 2 kind) (leb kind 4) (says-leb 2 kind) (says-leb kind 4)

pub says-stands : (k : ℕ) (l : List ℕ) → Says (stands k l) (Stands k l)
says-stands k l =
    let e = told_edition l in
    says_as (stands k l)
    (says_both _ _ (says-eqb (told_place l) k) (says_both _ _ (says_both _ _ (says-leb 1 e) (says-leb e 2)) (says-kind k (told_kind l))))
    (λ h. record { place = h.0; edition = h.1.0; kind = h.1.1 })
    (λ h. (h.place, (h.edition, h.kind)))

-- as the code tests: the kind
pub kind-first : (k kind : ℕ) → k ≡ 0 → Says (eqb kind 1) (KindStands k kind)
kind-first k kind e = rw e (says-eqb kind 1)

module _ (k kind : ℕ) (f : k ≡ 0 → ⊥) where
  pub kind-low : kind < 2 → Says false (KindStands k kind)
  kind-low h = go k f
    where
      go : (k : ℕ) → (k ≡ 0 → ⊥) → Says false (KindStands k kind)
      go zero f = absurd (f refl)
      go (suc k) f = record { to = λ e. clash e; from = λ g. absurd (let l = g.0 in omega arith) }

  pub kind-after : 2 ≤ kind → Says (leb kind 4) (KindStands k kind)
  kind-after h = go k f
    where
      go : (k : ℕ) → (k ≡ 0 → ⊥) → Says (leb kind 4) (KindStands k kind)
      go zero f = absurd (f refl)
      go (suc k) f = says_as (leb kind 4) (says-leb kind 4) (λ l. (omega arith, l)) (λ g. g.1)

-- and the others before it
module _ (k : ℕ) (l : List ℕ) where
  pub no_place : (told_place l ≡ k → ⊥) → Says false (Stands k l)
  no_place f = record { to = λ e. clash e; from = λ h. absurd (f h.place) }

  pub no-edition : (EditionStands (told_edition l) → ⊥) → Says false (Stands k l)
  no-edition f = record { to = λ e. clash e; from = λ h. absurd (f h.edition) }

  pub by_kind : {r : Bool} → told_place l ≡ k → EditionStands (told_edition l) → Says r (KindStands k (told_kind l)) → Says r (Stands k l)
  by_kind {r} p e s = says_as r s (λ h. record { place = p; edition = e; kind = h }) (λ h. h.kind)

-- "the first block whose place, edition or kind cannot stand there .. or the block count"
abbrev pub first_misplaced : List ℕ → ℕ
first_misplaced b = first_not (λ k. stands k (block_in b k)) (blocks_in b)

pub says-placed : (b : List ℕ) (k : ℕ) → k < blocks_in b → Says (stands k (block_in b k)) (StandsAt b k)
says-placed b k _ = says-stands k (block_in b k)

pub first_misplaced_lem : (b : List ℕ) → FirstNot (StandsAt b) (blocks_in b) (first_misplaced b)
first_misplaced_lem b = first_found _ (says-placed b)

-- what the format writes stands where it says
pub block-stands : (edition kind k : ℕ) (l : List ℕ) → EditionStands edition → KindStands k kind → Stands k (block edition kind k l)
unfolding block
block-stands edition kind k l e h = record { place = omega (arith, div-add-mod' k 256); edition = e; kind = h }

-- "A block past number 65,535 has no place that could be right." (READINGS 20)
pub past_all_places : (b : List ℕ) (k : ℕ) → Bytes b → 65535 < k → StandsAt b k → ⊥
past_all_places b k h l s =
    let byte = each_at Byte (block_in b k) 0 (omega arith) (each_part Byte _ _ b h) in omega (arith, s.place, byte 2, byte 3)

-- so none is told past block 65,536
pub places_end : (b : List ℕ) → Bytes b → first_misplaced b ≤ 65536
places_end b h = go (dec_le (first_misplaced b) 65536)
  where
    go : Dec (first_misplaced b ≤ 65536) → first_misplaced b ≤ 65536
    go (yes a) = a
    go (no a) = absurd (past_all_places b 65536 h (omega arith) ((first_misplaced_lem b).before 65536 (omega arith)))
