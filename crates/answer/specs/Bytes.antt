-- The output line of an answer (document 01, "Schedule text": "`replay` .. prints one line for each input line").
use Rattle.std.specs.Prelude.{◌∷◌, ◌++◌}
use Rattle.laws.specs.{Kit.{ℕ, List, []}, Text.{text}}
use Rattle.text.specs.Number.{decimal}
use Rattle.machine.specs.{Table.{Name}, Answer.{Answer, began, shows, wrote, holds, applies, judged, refused, unset, shown, Verdict, Yes}}
use Rattle.machine.specs.Answer.{No, Unknown, number_of}

-- "Write number k of desk u is named u.k"
unfoldable pub name_bytes : Name → List ℕ
name_bytes w = decimal w.writer ++ text "." ++ decimal w.number

-- names, each after a space
unfoldable pub names_bytes : List Name → List ℕ
names_bytes [] = []
names_bytes (w ∷ l) = text " " ++ name_bytes w ++ names_bytes l

-- "the words `T yes`, `T no` or `T unknown`"
abbrev pub verdict_bytes : Verdict → List ℕ
verdict_bytes Yes = text "T yes"
verdict_bytes No = text "T no"
verdict_bytes Unknown = text "T unknown"

-- "`N`; `R status u.k` or `R -`; `W u.k`; .. `A` and the applied names; .. `E number`"; "a held answer prints `H t.j`" (document 02, T-04)
abbrev pub answer_bytes : Answer → List ℕ
answer_bytes began = text "N"
answer_bytes (shows unset) = text "R -"
answer_bytes (shows (shown v u k)) = text "R " ++ decimal v ++ text " " ++ name_bytes (record { writer = u; number = k })
answer_bytes (wrote w) = text "W " ++ name_bytes w
answer_bytes (holds w) = text "H " ++ name_bytes w
answer_bytes (applies l) = text "A" ++ names_bytes l
answer_bytes (judged v) = verdict_bytes v
answer_bytes (refused r) = text "E " ++ decimal (number_of r)

-- the line, with its LF
abbrev pub answer_line : Answer → List ℕ
answer_line a = answer_bytes a ++ text "\n"

-- the most bytes: of a name, two numbers and the point; of an answer's names; of a line, `A` and the LF besides
abbrev pub most_name : ℕ
most_name = 11

abbrev pub most_names : ℕ
most_names = 768

abbrev pub most_answer : ℕ
most_answer = 770
