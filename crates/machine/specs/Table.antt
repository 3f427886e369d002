-- Document 01, "The table". Desks, cells and write numbers count from 1.
use Rattle.std.proofs.Math.Option.{Option, none, some}
use Rattle.std.specs.Prelude.{ℕ}

-- the limits, named once --

abbrev pub most_desks : ℕ
most_desks = 16

abbrev pub most_cells : ℕ
most_cells = 64

abbrev pub most_open : ℕ
most_open = 64

abbrev pub most_trip : ℕ
most_trip = 16

abbrev pub most_writes : ℕ
most_writes = 65535

abbrev pub most_status : ℕ
most_status = 2

-- a vector: a number for each desk
abbrev pub Vec : Type 0
Vec = ℕ → ℕ

abbrev pub zeros : Vec
zeros t = 0

-- "Write number k of desk u is named u.k"
pub record Name : Type 0 where
  pub writer : ℕ
  pub number : ℕ

abbrev pub name : ℕ → ℕ → Name
name u k = record { writer = u; number = k }

-- "per cell: unset, or the status, the writing desk and the vector of the write last applied there"
pub data Cell : Type 0 where
  blank : Cell
  set : (status writer : ℕ) (vector : Vec) → Cell

-- "At each desk every accepted write is in exactly one place: not received, held, or applied there."
-- The numbers are those of the image: "0 not received, 1 held, 2 applied".
abbrev pub away : ℕ
away = 0

abbrev pub held : ℕ
held = 1

abbrev pub done : ℕ
done = 2

-- an open write: its cell, status and vector, and its place at each desk
pub record Open : Type 0 where
  pub cell : ℕ
  pub status : ℕ
  pub vector : Vec
  pub marks : Vec

-- what the beginning settles, and no step changes (`setup_stays`): "A table has n desks and m records, called cells."
pub record Setup : Type 0 where
  pub desks : ℕ
  pub cells : ℕ

abbrev pub sized : ℕ → ℕ → Setup
sized n m = record { desks = n; cells = m }

-- Per desk i: applied counts, causal clock, cells. An open write is found by its name: no entry has a place of its own, so open
-- writes count as a set.
pub record State : Type 0 where
  pub setup : Setup
  pub applied : ℕ → Vec
  pub clock : ℕ → Vec
  pub cell : ℕ → ℕ → Cell
  pub opens : ℕ → ℕ → Option Open

-- "Everything starts at zero and unset."
abbrev pub fresh : ℕ → ℕ → State
fresh n m = record {
  setup = sized n m;
  applied = λ i. zeros;
  clock = λ i. zeros;
  cell = λ i x. blank;
  opens = λ u k. none;
}

-- how often u has written: "applied at the writer at once"
abbrev pub written : State → ℕ → ℕ
written s u = s.applied u u

-- where the accepted write u.k is at desk i: "a write is open until it is applied at all n desks"
abbrev pub mark_in : Option Open → ℕ → ℕ
mark_in none i = done
mark_in (some w) i = w.marks i

abbrev pub mark_of : State → ℕ → ℕ → ℕ → ℕ
mark_of s i u k = mark_in (s.opens u k) i
