-- The first fourteen lines of document 01's session, together, and the sentence under it.
use mathlib.Core.{Path.{◌≡◌, refl}, List.{List, [], ◌∷◌, ◌++◌, map}, Option.{Option, none, some}}
use Rattle.std.specs.Prelude.{ℕ}
use Rattle.laws.specs.{Loop.{turns, scan}, All.{all}, Update.{upd, upd2}, Sum.{sum}, Lists.{any, every}}
use Rattle.machine.specs.{Table.{name, Open, State}, Answer.{Answer, began, shows, wrote, holds, applies, judged, shown, Yes, No}}
use Rattle.machine.specs.{Answer.{Unknown}, Steps.{Step, Read, Write, Deliver, Trip, begin, step, answers, failing, everywhere}}
use Rattle.machine.specs.{Steps.{open_count, first_due, settle, reads, verdict}, History.{take_step, run}}

-- the answers of a schedule that begins with N n m
abbrev pub answers_from : Option State → List Step → List Answer
answers_from none ss = []
answers_from (some s) ss = answers s ss

abbrev pub session_answers : ℕ → ℕ → List Step → List Answer
session_answers n m ss = (begin n m).answer ∷ answers_from (begin n m).table ss

abbrev pub table_from : Option State → List Step → Option State
table_from none ss = none
table_from (some s) ss = some (run (λ s. s) s (map take_step ss))

-- the table that it leaves
abbrev pub session_table : ℕ → ℕ → List Step → Option State
session_table n m ss = table_from (begin n m).table ss

-- the first seven lines, without N 3 2; the next seven
abbrev pub first_lines : List Step
first_lines = Write 1 1 2 ∷ Deliver 2 1 1 ∷ Read 2 1 ∷ Write 1 1 1 ∷ Deliver 2 1 2 ∷ Write 2 2 1 ∷ []

abbrev pub next_lines : List Step
next_lines =
    Deliver 3 2 1 ∷ Trip 3 (1 ∷ 2 ∷ []) ∷ Deliver 3 1 1 ∷ Read 3 1 ∷ Trip 3 (1 ∷ 2 ∷ []) ∷ Deliver 3 1 2 ∷ Trip 3 (1 ∷ 2 ∷ []) ∷ []

-- the places 1 to 3 of an open write's vector
abbrev pub places_of : Option Open → List ℕ
places_of none = []
places_of (some w) = w.vector 1 ∷ w.vector 2 ∷ w.vector 3 ∷ []

-- the places of the open write u.k, and how many writes of t the desk i has applied
abbrev pub vector_and_count : (u k i t : ℕ) → Option State → List ℕ × ℕ
vector_and_count u k i t none = ([], 0)
vector_and_count u k i t (some s) = (places_of (s.opens u k), s.applied i t)

-- "The vector of 2.1 is (1,1,0): desk 2 had applied 1.2 but not read it."
pub vector_of_2_1 : vector_and_count 2 1 2 1 (session_table 3 2 first_lines) ≡ (1 ∷ 1 ∷ 0 ∷ [], 2)
unfolding turns scan all upd upd2 sum begin step run failing everywhere open_count first_due settle
vector_of_2_1 = refl

pub session-lines : session_answers 3 2 (first_lines ++ next_lines)
    ≡ began ∷
    wrote (name 1 1) ∷ applies (name 1 1 ∷ []) ∷ shows (shown 2 1 1) ∷ wrote (name 1 2) ∷ applies (name 1 2 ∷ []) ∷ wrote (name 2 1) ∷ holds (name 1 1) ∷
    judged Unknown ∷ applies (name 1 1 ∷ name 2 1 ∷ []) ∷ shows (shown 2 1 1) ∷ judged No ∷ applies (name 1 2 ∷ []) ∷ judged Yes ∷ []
unfolding turns scan all upd upd2 sum begin step answers failing everywhere open_count first_due settle reads any every verdict
session-lines = refl
