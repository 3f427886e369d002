-- Source document 003, example 1, figure 1 and table 1, computed: a is 1, c is 2, b is 1, d is 2.
use mathlib.Core.{Path.{◌≡◌, refl}, List.{List, [], ◌∷◌, ◌++◌, map}, Bool.{Bool, true, false}}
use Rattle.std.specs.Prelude.{ℕ}
use Rattle.laws.specs.{Loop.{turns, scan}, All.{all}, Update.{upd, upd2}, Sum.{sum}, Lists.{any, every}}
use Rattle.machine.specs.{Table.{Name, name, fresh}, Answer.{wrote, shows, shown, holds, applies}, Steps.{Step, Read, Write, Deliver}}
use Rattle.machine.specs.{Steps.{step, answers, failing, everywhere, open_count, first_due, settle, reads, verdict}, History.{Event}}
use Rattle.machine.specs.{History.{read_at, write_at, receive_at, apply_at, take_step, run, history}, Past.{some_below, those, linked}}
use Rattle.machine.specs.{Past.{before_by, in_past, X_co_safe}, Session.{places_of}}

-- the history H1, with run (2) of figure 1 at p_3: w_2(x_2)b is received before w_1(x_1)a
abbrev pub example_1 : List Step
example_1 =
    Write 1 1 1 ∷ Deliver 2 1 1 ∷ Read 2 1 ∷ Write 1 1 2 ∷ Write 2 2 1 ∷
    Deliver 3 2 1 ∷ Deliver 3 1 1 ∷ Deliver 3 1 2 ∷ Read 3 2 ∷ Write 3 2 2 ∷ []

-- "apply_3(w_2(x_2)b) suffers a write delay due to late arrival of the message associated with w_1(x_1)", which is a; and no other
pub figure_1 : answers (fresh 3 2) example_1 ≡
    wrote (name 1 1) ∷ applies (name 1 1 ∷ []) ∷ shows (shown 1 1 1) ∷ wrote (name 1 2) ∷ wrote (name 2 1) ∷
    holds (name 1 1) ∷ applies (name 1 1 ∷ name 2 1 ∷ []) ∷ applies (name 1 2 ∷ []) ∷ shows (shown 1 2 1) ∷ wrote (name 3 1) ∷ []
unfolding turns scan all upd upd2 sum step answers failing everywhere open_count first_due settle reads any every verdict
figure_1 = refl

-- the same, with every write delivered to every process
abbrev pub whole : List Event
whole = history (λ s. s) (fresh 3 2) (map take_step (example_1 ++ Deliver 2 1 2 ∷ Deliver 1 2 1 ∷ Deliver 1 3 1 ∷ Deliver 2 3 1 ∷ []))

-- the writes of H1: w_1(x_1)a, w_1(x_1)c, w_2(x_2)b, w_3(x_2)d
abbrev a : Name
a = name 1 1

abbrev c : Name
c = name 1 2

abbrev b : Name
b = name 2 1

abbrev d : Name
d = name 3 1

abbrev is_apply : Event → Bool
is_apply (read_at i x v) = false
is_apply (write_at i x v k) = false
is_apply (receive_at i w) = false
is_apply (apply_at i w) = true

-- the apply events, as they come: those of table 1
pub applied_in_whole : those is_apply whole
    ≡ apply_at 1 a ∷ apply_at 2 a ∷ apply_at 1 c ∷ apply_at 2 b ∷ apply_at 3 a ∷ apply_at 3 b ∷ apply_at 3 c ∷ apply_at 3 d ∷
    apply_at 2 c ∷ apply_at 1 b ∷ apply_at 1 d ∷ apply_at 2 d ∷ []
unfolding turns scan all upd upd2 sum step history failing everywhere open_count first_due settle reads any every verdict those
applied_in_whole = refl

-- a row of table 1: an apply event, and its X_co-safe
abbrev row : ℕ → Name → Event × List Event
row k w = (apply_at k w, X_co_safe whole k w)

-- table 1, whole (what `X_co_safe` computes is definition 4: Proofs/Past)
pub table-1 :
    row 1 a ∷ row 2 a ∷ row 3 a ∷
    row 1 c ∷ row 2 c ∷ row 3 c ∷
    row 1 b ∷ row 2 b ∷ row 3 b ∷
    row 1 d ∷ row 2 d ∷ row 3 d ∷ []
    ≡ (apply_at 1 a, []) ∷ (apply_at 2 a, []) ∷ (apply_at 3 a, []) ∷
    (apply_at 1 c, apply_at 1 a ∷ []) ∷ (apply_at 2 c, apply_at 2 a ∷ []) ∷ (apply_at 3 c, apply_at 3 a ∷ []) ∷
    (apply_at 1 b, apply_at 1 a ∷ []) ∷ (apply_at 2 b, apply_at 2 a ∷ []) ∷ (apply_at 3 b, apply_at 3 a ∷ []) ∷
    (apply_at 1 d, apply_at 1 a ∷ apply_at 1 b ∷ []) ∷ (apply_at 2 d, apply_at 2 a ∷ apply_at 2 b ∷ []) ∷ (apply_at 3 d, apply_at 3 a ∷ apply_at 3 b ∷ []) ∷ []
unfolding turns scan all upd upd2 sum step history failing everywhere open_count first_due settle reads any every verdict some_below those linked before_by in_past
table-1 = refl

-- and the vectors say the same: each write's vector counts itself and those that it waits for. (A fourth desk, to which nothing is
-- delivered, keeps the writes open, so that their vectors stand in the table.)
pub table_1_vectors : map (λ w. places_of ((run (λ s. s) (fresh 4 2) (map take_step example_1)).opens w.writer w.number)) (a ∷ c ∷ b ∷ d ∷ [])
    ≡ (1 ∷ 0 ∷ 0 ∷ []) ∷ (2 ∷ 0 ∷ 0 ∷ []) ∷ (1 ∷ 1 ∷ 0 ∷ []) ∷ (1 ∷ 1 ∷ 1 ∷ []) ∷ []
unfolding turns scan all upd upd2 sum step run failing everywhere open_count first_due settle reads any every verdict
table_1_vectors = refl
