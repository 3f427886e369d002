-- A trip as a value: the cells seen one by one.
use Rattle.std.specs.Prelude.{◌+◌, ◌<◌, ◌≤◌, ◌≡◌, ◌∷◌}
use Rattle.laws.specs.Kit.{ℕ, ap, length, get_or, drop, drop_of_length-le, List, [], true, false, eqb}
use Rattle.laws.specs.{Lists.{drop-next}, Loop.{pick}}
use Rattle.clock.specs.{declared.Clock.{Clock}, Vectors.{join_clock}}
use Rattle.table.specs.{declared.Cell.{Cell}, declared.Desk.{Desk}, Value.{cell_at}, Model.{slot}}
use Rattle.reply.specs.{declared.Answer.{Answer}, declared.Answer.TheVariants.{Yes, No, Unknown}}
use Rattle.steps.specs.{Turn.{Turn}, declared.look.Seen.{Seen}, Mirror.Look.{clock_turn}}

abbrev pub seen_nothing : Clock → Seen
seen_nothing k = record { clock = k; two = false; one = true }

abbrev pub see_cell : Seen → Cell → Seen
see_cell s c = record {
  clock = join_clock s.clock c.vector;
  two = pick (eqb c.status 2) true s.two;
  one = pick (eqb c.status 1) s.one false;
}

-- the cells of desk i in the order of the list
unfoldable pub see_all : List Cell → ℕ → Seen → List ℕ → Seen
see_all cs i s [] = s
see_all cs i s (x ∷ xs) = see_all cs i (see_cell s (cell_at cs (slot i x))) xs

abbrev pub verdict_of : Seen → Answer
verdict_of s = pick s.two No (pick s.one Yes Unknown)

abbrev pub trip_turn : Desk → List Cell → ℕ → List ℕ → Turn
trip_turn d cs i xs = clock_turn d (see_all cs i (seen_nothing d.clock) xs).clock (verdict_of (see_all cs i (seen_nothing d.clock) xs))

module _ (cs : List Cell) (i : ℕ) (s : Seen) (l : List ℕ) (j : ℕ) where
  pub see_next : j < length l → see_all cs i s (drop j l) ≡ see_all cs i (see_cell s (cell_at cs (slot i (get_or l j 0)))) (drop (j + 1) l)
  unfolding see_all
  see_next h = ap (see_all cs i s) (drop-next l j 0 h)

  pub see_end : length l ≤ j → see_all cs i s (drop j l) ≡ s
  unfolding see_all
  see_end h = ap (see_all cs i s) (drop_of_length-le l h)
