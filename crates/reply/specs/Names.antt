-- The names of an answer, for whoever fills the array.
use Rattle.std.specs.Prelude.{◌+◌, ◌<◌, ◌≤◌, ◌≡◌, ◌∷◌, ◌++◌}
use Rattle.laws.specs.Kit.{ℕ, min, refl, List, [], arith, length, set}
use Rattle.laws.specs.{Kit.{get_or-set_same, get_or-set_other}, Tab.{tab, tab_from, length-tab, tab-more, tab_ext}}
use Rattle.machine.specs.Table.{most_open}
use Rattle.reply.specs.{declared.Name.{Name}, Meaning.{name_of, name_at, names_of}}

pub length-names : (j : ℕ) (names : List Name) → j ≤ most_open → length (names_of j names) ≡ j
unfolding names_of
length-names j names h = let m : min j most_open ≡ j = omega arith in rw m (length-tab (name_at names) j)

-- no name yet; one more, stored behind the others
pub names-none : (names : List Name) → names_of 0 names ≡ []
unfolding names_of tab tab_from
names-none names = refl

pub names_more : (names : List Name) (j : ℕ) (w : Name) → j < most_open → j < length names → names_of (j + 1) (set names j w) ≡ names_of j names ++ name_of w ∷ []
unfolding names_of
names_more names j w h l =
    let none : Name = record { writer = 0; number = 0 } in
    let m : min (j + 1) most_open ≡ j + 1 = omega arith in
    let m' : min j most_open ≡ j = omega arith in
    rw (m, m', tab-more, get_or-set_same names j w none l, tab_ext (name_at (set names j w)) (name_at names) j (λ i b. before i b))
  where
    before : (i : ℕ) → i < j → name_at (set names j w) i ≡ name_at names i
    before i b = rw (get_or-set_other names j i w record { writer = 0; number = 0 } (λ e. (omega arith)))
