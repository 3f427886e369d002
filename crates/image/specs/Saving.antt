-- The answer to a save: document 01's number and values for every case of it, and what it leaves in the buffer.
use Rattle.std.specs.Prelude.{◌<◌, ◌≤◌, ◌≡◌, Result, Ok, Err}
use Rattle.laws.specs.Kit.{ℕ, List, length, sets}
use Rattle.machine.specs.Answer.{Refusal, broken, short}
use Rattle.table.specs.{declared.Table.{Table}, Model.{model_of}, Sound.{SoundTable}}
use Rattle.image.specs.{declared.Unsaved.{Unsaved}, declared.Unsaved.TheVariants.{Broken, Short}, Encode.{encode}}

-- the image's length, or a refusal
pub data SaveAnswer : Type 0 where
  long : ℕ → SaveAnswer
  refused : Refusal → SaveAnswer

abbrev pub saving_of : Result ℕ Unsaved → SaveAnswer
saving_of (Ok n) = long n
-- 13
saving_of (Err Broken) = refused broken
-- 14
saving_of (Err Short) = refused short

-- "Save: 13, 14": a value that breaks the rules; a buffer that is shorter than the image; else the image from the buffer's start on,
-- and what lies behind it as it was. A refusal leaves the buffer as found.
pub data Saves (t : Table) (before after : List ℕ) : SaveAnswer → Type 0 where
  by_rule : (SoundTable t → ⊥) → after ≡ before → Saves t before after (refused broken)
  by_room : SoundTable t → length before < length (encode (model_of t)) → after ≡ before → Saves t before after (refused short)
  as_image : (n : ℕ) → SoundTable t → length (encode (model_of t)) ≤ length before → after ≡ sets before 0 (encode (model_of t)) → n ≡ length (encode (model_of t)) → Saves t before after (long n)
