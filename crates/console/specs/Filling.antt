-- A buffer filled from its front.
use Rattle.std.specs.Prelude.{ℕ, ◌<◌, List, length, take, Result, IfOk, Option}
use Rattle.std.specs.{Io.{ReadsAtMost}, Io.KnownBytes.{Consumes, IsAtEnd}}

-- so many bytes stand at the front of the buffer, where the input could be read
abbrev pub Filled : {E : Type 0} → Result ℕ E → List ℕ → Type 0
Filled r buffer = ReadsAtMost r buffer

-- where the input's bytes are known, these are its first, which it has no more, and where the buffer has room for more it has none left
abbrev pub Takes : {E : Type 0} → Option (List ℕ) → Option (List ℕ) → Result ℕ E → List ℕ → Type 0
Takes before after r buffer = IfOk r (λ n. Consumes before after (take n buffer) × (n < length buffer → IsAtEnd after))
