-- Lines as in document 01's session, computed; in a name the two numbers differ, so that neither stands for the other.
use Rattle.std.specs.Prelude.{◌≡◌, ◌∷◌}
use Rattle.laws.specs.{Kit.{refl, []}, Text.{text}}
use Rattle.machine.specs.{Table.{name}, Answer.{began, shows, wrote, holds, applies, judged, refused, unset, shown, Yes, No, Unknown}}
use Rattle.machine.specs.Answer.{own_write, short}
use Rattle.text.specs.Number.{digits, decimal}
use Rattle.answer.specs.Bytes.{name_bytes, names_bytes, answer_line}

line_N : answer_line began ≡ text "N\n"
line_N = refl

line_W : answer_line (wrote (name 1 2)) ≡ text "W 1.2\n"
unfolding digits decimal name_bytes
line_W = refl

line_R : answer_line (shows (shown 2 1 3)) ≡ text "R 2 1.3\n"
unfolding digits decimal name_bytes
line_R = refl

line-unset : answer_line (shows unset) ≡ text "R -\n"
line-unset = refl

line_H : answer_line (holds (name 1 2)) ≡ text "H 1.2\n"
unfolding digits decimal name_bytes
line_H = refl

line_A : answer_line (applies (name 1 1 ∷ name 2 1 ∷ [])) ≡ text "A 1.1 2.1\n"
unfolding digits decimal name_bytes names_bytes
line_A = refl

line_unknown : answer_line (judged Unknown) ≡ text "T unknown\n"
line_unknown = refl

line-no : answer_line (judged No) ≡ text "T no\n"
line-no = refl

line-yes : answer_line (judged Yes) ≡ text "T yes\n"
line-yes = refl

line-E : answer_line (refused own_write) ≡ text "E 6\n"
unfolding digits decimal
line-E = refl

line_E14 : answer_line (refused short) ≡ text "E 14\n"
unfolding digits decimal
line_E14 = refl
