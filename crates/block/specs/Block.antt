-- Document 01, "Saved image", and document 02, T-06: the bytes of a block and its fields.
use Rattle.std.specs.Prelude.{◌-◌, ◌/◌, ◌%◌, ◌≡◌, ◌∷◌, ◌++◌}
use Rattle.laws.specs.{Kit.{ℕ, suc, refl, List, [], length, replicate}, Tab.{tab, length-tab}, Cat.{cat}}
use Rattle.laws.specs.Cat.{length-cat}
use Rattle.machine.specs.Table.{Vec}
use Rattle.block.specs.{Check.{check_of}, Limits.{payload_bytes, vector_bytes, edition_of}}

-- "numbers little-endian": of 16 bits, of 32 bits
abbrev pub word : ℕ → List ℕ
word x = x % 256 ∷ x / 256 ∷ []

abbrev pub long : ℕ → List ℕ
long x = x % 256 ∷ x / 256 % 256 ∷ x / 65536 % 256 ∷ x / 16777216 ∷ []

-- "Blocks of 512 bytes; bytes not named are zero. Byte 0 kind, 1 edition, 2-3 the block's place from 0, 4-507 payload, 508-511 check."
abbrev pub body : ℕ → ℕ → ℕ → List ℕ → List ℕ
body edition kind place payload = kind ∷ edition ∷ (word place ++ (payload ++ replicate (payload_bytes - length payload) 0))

abbrev pub sealed : List ℕ → List ℕ
sealed b = b ++ long (check_of b)

unfoldable pub block : ℕ → ℕ → ℕ → List ℕ → List ℕ
block edition kind place payload = sealed (body edition kind place payload)

-- A vector has p places: in edition 1, of which document 01 speaks here, 8, and in edition 2 16.
module _ (p : ℕ) where
  -- "all blocks of one image alike" (READINGS 32)
  abbrev pub block_of : ℕ → ℕ → List ℕ → List ℕ
  block_of kind place payload = block (edition_of p) kind place payload

  -- "8 vector places of 16 bits"
  unfoldable pub vector_words : Vec → List ℕ
  vector_words v = cat (λ t. word (v (suc t))) p

  -- "for each of 8 desks 0 not received, 1 held, 2 applied"
  unfoldable pub mark_bytes : Vec → List ℕ
  mark_bytes v = tab p (λ t. v (suc t))

-- their lengths
module _ (ps : ℕ) where
  pub length-words : (v : Vec) → length (vector_words ps v) ≡ vector_bytes ps
  unfolding vector_words
  length-words v = length-cat (λ t. word (v (suc t))) 2 (λ j. refl) ps

  pub length-marks : (v : Vec) → length (mark_bytes ps v) ≡ ps
  unfolding mark_bytes
  length-marks v = length-tab (λ t. v (suc t)) ps
