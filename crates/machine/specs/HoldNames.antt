-- Document 02, T-04: what the answer `H t.j` names, as a statement about a table and the history observed of it.
use mathlib.Core.{Path.{◌≡◌}, Logic.{◌⊎◌}, List.{List}}
use Rattle.std.specs.Prelude.{ℕ, ◌≤◌, ◌<◌}
use Rattle.machine.specs.{Table.{Name, held, State, mark_of}, Answer.{holds}, Steps.{Deliver, step}, Refusals.{Accepted}}
use Rattle.machine.specs.{History.{Event, desk_list}, Demand3.{WriteAt, Has, Missing}}

-- z is t.j, where the write at q is delivered to i
pub record FirstMissing (h : List Event) (i q : ℕ) (z : Name) : Type 0 where
  -- an accepted write that causally precedes the one at q and is not applied at i
  pub missing : Missing h i q z.writer z.number
  -- "the first write of t not applied here"
  pub earlier : (j : ℕ) → 1 ≤ j → j < z.number → Has (desk_list i h) z.writer j
  -- "the smallest failing desk": of no desk below t is a write missing so
  pub below : (t j : ℕ) → t < z.writer → Missing h i q t j → ⊥

-- z is held at i, or its delivery there is not refused
abbrev pub Sendable : State → ℕ → Name → Type 0
Sendable s i z = (mark_of s i z.writer z.number ≡ held) ⊎ Accepted (step s (Deliver i z.writer z.number)).answer

pub record HoldNames (s : State) (h : List Event) : Type 0 where
  -- where a delivery of u.k to i answers `H t.j`, t.j is that write
  pub named : (i u k : ℕ) (z : Name) → (step s (Deliver i u k)).answer ≡ holds z → (q : ℕ) × WriteAt h q u k × FirstMissing h i q z
  -- where there is such a write, a delivery that is not refused answers so
  pub exactly : (i u k q : ℕ) (z : Name) → Accepted (step s (Deliver i u k)).answer → WriteAt h q u k → FirstMissing h i q z
      → (step s (Deliver i u k)).answer ≡ holds z
  -- t.j sent there next is taken, unless it is held there already
  pub sent_next : (i u k : ℕ) (z : Name) → (step s (Deliver i u k)).answer ≡ holds z → Sendable (step s (Deliver i u k)).state i z
  -- and where it is then held, it waits for a larger desk
  pub upwards : (i u k : ℕ) (z z' : Name) → (step s (Deliver i u k)).answer ≡ holds z
      → (step (step s (Deliver i u k)).state (Deliver i z.writer z.number)).answer ≡ holds z' → z.writer < z'.writer
