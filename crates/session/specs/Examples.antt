-- Document 01, "Whole session", bytes to bytes, and texts at the edges.
use Rattle.std.specs.Prelude.{◌≡◌}
use Rattle.laws.specs.{Kit.{refl, List, bind, ℕ}, Loop.{turns, scan}, All.{all}, Update.{upd, upd2}, Sum.{sum}}
use Rattle.laws.specs.{Lists.{any, every}, Text.{text}}
use Rattle.machine.specs.Steps.{begin, step, failing, everywhere, open_count, first_due, settle, reads, verdict}
use Rattle.text.specs.{Number.{digits, decimal, is_digit, read_on, number}, Words.{words, numbers}}
use Rattle.schedule.specs.Grammar.{form, line_of}
use Rattle.answer.specs.Bytes.{name_bytes, names_bytes}
use Rattle.session.specs.Transcript.{lines_of, answers_of, printed, transcript_from, transcript}

abbrev pub fourteen : List ℕ
fourteen = text "N 3 2\nW 1 1 2\nD 2 1 1\nR 2 1\nW 1 1 1\nD 2 1 2\nW 2 2 1\nD 3 2 1\nT 3 1 2\nD 3 1 1\nR 3 1\nT 3 1 2\nD 3 1 2\nT 3 1 2\n"

abbrev pub fourteen_out : List ℕ
fourteen_out = text "N\nW 1.1\nA 1.1\nR 2 1.1\nW 1.2\nA 1.2\nW 2.1\nH 1.1\nT unknown\nA 1.1 2.1\nR 2 1.1\nT no\nA 1.2\nT yes\n"

-- the first fourteen lines
pub session-bytes : transcript fourteen ≡ fourteen_out
unfolding transcript transcript_from lines_of answers_of printed line_of words number numbers read_on form bind is_digit turns scan all upd upd2 sum begin step failing everywhere open_count first_due settle reads any every verdict digits decimal name_bytes names_bytes
session-bytes = refl

-- desk numbers of two digits: a write that waits for the last desk
pub sixteen_desks : transcript (text "N 16 1\nW 16 1 1\nD 1 16 1\nR 1 1\nW 1 1 2\nD 2 1 1\nD 2 16 1\nD 17 1 1\n")
    ≡ text "N\nW 16.1\nA 16.1\nR 1 16.1\nW 1.1\nH 16.1\nA 16.1 1.1\nE 1\n"
unfolding transcript transcript_from lines_of answers_of printed line_of words number numbers read_on form bind is_digit turns scan all upd upd2 sum begin step failing everywhere open_count first_due settle reads any every verdict digits decimal name_bytes names_bytes
sixteen_desks = refl
