-- How long a name is, and the names of an answer one by one.
use Rattle.std.specs.Prelude.{◌+◌, ◌-◌, ◌<◌, ◌≤◌, ◌≡◌, ◌++◌}
use Rattle.std.proofs.lemmas.List.{get_or-take}
use Rattle.laws.specs.Kit.{ℕ, min, sym, ap, ◌∙◌, List, [], append_assoc, arith, length, take, length-append, length-take-le}
use Rattle.laws.specs.{Tab.{tab_from, tab-start, tab-next, tab_end, tab_ext}, Text.{text}}
use Rattle.machine.specs.{Table.{name, most_open}, Answer.{shows, shown}}
use Rattle.reply.specs.{declared.Name.{Name}, Meaning.{name_of, name_at, names_of}}
use Rattle.text.specs.Number.{decimal}
use Rattle.answer.specs.Bytes.{name_bytes, names_bytes, answer_bytes}

-- the parts of a name, in the order in which they are written
pub name_parts : (u k : ℕ) → name_bytes (name u k) ≡ decimal u ++ (text "." ++ decimal k)
unfolding name_bytes
name_parts u k = append_assoc (decimal u) (text ".") (decimal k)

pub name-length : (u k : ℕ) → length (name_bytes (name u k)) ≡ length (decimal u) + 1 + length (decimal k)
unfolding name_bytes
name-length u k = simp length-append (omega arith)

pub shown_parts : (v u k : ℕ) → answer_bytes (shows (shown v u k)) ≡ (text "R " ++ decimal v) ++ (text " " ++ name_bytes (name u k))
shown_parts v u k = append_assoc (text "R " ++ decimal v) (text " ") (name_bytes (name u k))

pub shown-length : (v u k : ℕ) → length (answer_bytes (shows (shown v u k))) ≡ 3 + length (decimal v) + length (name_bytes (name u k))
shown-length v u k = simp length-append (omega arith)

-- the bytes that are left of n names from name j on
unfoldable pub names_left : ℕ → List Name → ℕ → List ℕ
names_left n names j = names_bytes (tab_from (name_at names) (n - j) j)

pub names-start : (n count : ℕ) (names : List Name) → n ≡ min count most_open → names_left n names 0 ≡ names_bytes (names_of count names)
unfolding names_left names_of
names-start n count names e = rw (e, tab-start)

-- the names meant, by themselves
pub names-taken : (n count : ℕ) (names : List Name) → n ≡ min count most_open → n ≤ length names → names_left (length (take n names)) (take n names) 0 ≡ names_bytes (names_of count names)
unfolding names_left
names-taken n count names e h =
    rw (length-take-le n names h) (ap names_bytes (tab-start (name_at (take n names)) n ∙ tab_ext (name_at (take n names)) (name_at names) n (λ j b. taken j b) ∙ sym (tab-start (name_at names) n)) ∙ names-start n count names e)
  where
    taken : (j : ℕ) → j < n → name_at (take n names) j ≡ name_at names j
    taken j b = ap name_of (get_or-take n names j record { writer = 0; number = 0 } b)

pub names-next : (n : ℕ) (names : List Name) (j : ℕ) → j < n → names_left n names j ≡ text " " ++ name_bytes (name_at names j) ++ names_left n names (j + 1)
unfolding names_left names_bytes
names-next n names j h = rw (tab-next (name_at names) n j h)

pub names_longer : (n : ℕ) (names : List Name) (j : ℕ) → j < n → length (names_left n names j) ≡ 1 + length (name_bytes (name_at names j)) + length (names_left n names (j + 1))
names_longer n names j h = rw (names-next n names j h) (simp length-append (omega arith))

pub names_end : (n : ℕ) (names : List Name) (j : ℕ) → n ≤ j → names_left n names j ≡ []
unfolding names_left names_bytes
names_end n names j h = rw (tab_end (name_at names) n j h)
