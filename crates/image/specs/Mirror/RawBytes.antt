-- The bytes of the code's cell and open write.
use Rattle.std.specs.Prelude.{◌<◌, ◌≡◌, ◌∷◌, ◌++◌}
use Rattle.laws.specs.Kit.{ℕ, List, arith, length, get_or, length-append}
use Rattle.clock.specs.Vectors.{place}
use Rattle.table.specs.{declared.Cell.{Cell}, declared.Open.{Open}}
use Rattle.block.specs.{Block.{vector_words, mark_bytes, length-words, length-marks}, Limits.{open_bytes}}

-- their numbers that take one byte
pub record SmallCell (c : Cell) : Type 0 where
  pub writer : c.writer < 256
  pub status : c.status < 256

pub record SmallOpen (o : Open) : Type 0 where
  pub writer : o.writer < 256
  pub status : o.status < 256
  pub cell : o.cell < 256
  pub marks : (t : ℕ) → get_or o.marks t 0 < 256

-- where a vector takes ps places
module _ (ps : ℕ) where
  unfoldable pub cell_raw : Cell → List ℕ
  cell_raw c = c.writer ∷ c.status ∷ 0 ∷ 0 ∷ vector_words ps (place c.vector)

  unfoldable pub open_raw : Open → List ℕ
  open_raw o = o.writer ∷ o.status ∷ o.cell ∷ 0 ∷ (vector_words ps (place o.vector) ++ mark_bytes ps (place o.marks))

  pub length-open_raw : (o : Open) → length (open_raw o) ≡ open_bytes ps
  unfolding open_raw
  length-open_raw o =
      rw (length-append (vector_words ps (place o.vector)) (mark_bytes ps (place o.marks)), length-words ps (place o.vector), length-marks ps (place o.marks)) (omega arith)
