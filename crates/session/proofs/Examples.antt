-- Texts at the edges, computed.
use Rattle.std.specs.Prelude.{◌≡◌, ◌∷◌, ◌++◌}
use Rattle.laws.specs.{Kit.{refl, [], map, bind}, Loop.{turns, scan}, All.{all}, Update.{upd, upd2}, Sum.{sum}}
use Rattle.laws.specs.{Lists.{any, every}, Text.{text}}
use Rattle.machine.specs.Steps.{begin, step, failing, everywhere, open_count, first_due, settle, reads, verdict}
use Rattle.text.specs.{Number.{digits, decimal, is_digit, read_on, number}, Words.{words, numbers}}
use Rattle.schedule.specs.Grammar.{form, line_of}
use Rattle.answer.specs.Bytes.{name_bytes, names_bytes}
use Rattle.session.specs.Transcript.{lines_of, answers_of, printed, transcript_from, transcript}
use Rattle.session.specs.Examples.{fourteen, fourteen_out}

-- all eighteen; an empty line; a last line without LF; before a table, a refused N, a further N
pub edges : map transcript (
    (fourteen ++ text "R 1 2\nD 1 1 1\nD 3 1 2\nD 1 2 2\n") ∷ text "\n" ∷ text "N 2 1" ∷
    text "R 1 1\nN 17 1\nT 1\nN 2 1\nN 2 1\nT 1\n\nW 1 1 0\nR 1 1\nR 1 1" ∷ [])
    ≡ (fourteen_out ++ text "R -\nE 6\nE 8\nE 7\n") ∷ text "E 10\n" ∷ text "E 10\n" ∷
    text "E 10\nE 11\nE 10\nN\nE 10\nE 9\nE 10\nW 1.1\nR 0 1.1\nE 10\n" ∷ []
unfolding transcript transcript_from lines_of answers_of printed line_of words number numbers read_on form bind is_digit turns scan all upd upd2 sum begin step failing everywhere open_count first_due settle reads any every verdict digits decimal name_bytes names_bytes
edges = refl
