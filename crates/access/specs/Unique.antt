-- The contract leaves no choice: the code's answer, the core and the cells are fixed as values, of the open writes the set, and a refusal hands
-- back the very table.
use Rattle.std.specs.Prelude.{◌<◌, ◌≡◌, ◌∷◌}
use Rattle.laws.specs.{Kit.{ℕ, refl, sym, ap, ◌∙◌, List, [], inl, inr, arith, sets}, Loop.{cases}, Says.{apart}}
use Rattle.machine.specs.{Table.{State}, Steps.{Step, Read, Write, Deliver, Trip, step, answers}, Refusals.{Row, rows_of, FirstFails}}
use Rattle.machine.proofs.Refusals.{refusal-exactly}
use Rattle.machine.specs.Answer as machine
use Rattle.reply.specs.{declared.Name.{Name}, declared.Answer.{Answer}, declared.Answer.TheVariants.{Refused}, declared.Refusal.{Refusal}}
use Rattle.reply.specs.{Meaning.{refusal_of, answer_of, Counted}, Unique.{answer_is, Silent, silent_counted}}
use Rattle.table.specs.{declared.Table.{Table}, TypeShape.{Shaped, EachFull}, Model.{model_of}, SameTable.{Same}, Sound.{SoundTable}}
use Rattle.table.specs.Unique.{StandsIn, same-core, same-opens}
use Rattle.table.proofs.Unique.{same-cells}
use Rattle.rules.specs.{Link.PassesToRules.{Fit}, TestIsRules.{keeps-says}}
use Rattle.steps.specs.{Stepped.{names_beside}, Unique.{refused_silent, read_silent, write_silent, trip_silent}}
use Rattle.access.specs.{declared.Done.{Done}, declared.Delivered.{Delivered}, Met.{Met, Brought, no_names}}

-- two outcomes of one step on one table, whose lists are as its type says
module _ {t : Table} (sh : EachFull t) (fit : Fit t.core.desks)
    {a : Step} {r r' : Table} {x x' : machine.Answer} (p : Met t a r x) (q : Met t a r' x') where
  either : {R : Type 0} → (SoundTable t → R) → ((SoundTable t → ⊥) → R) → R
  either f g =
      let s = keeps-says t sh fit in
      cases _ (λ e. f (s.to e)) (λ e. g (λ h. apart _ (s.from h) e))

  pub one_answer : x ≡ x'
  one_answer =
      either (λ s. (p.steps s).answer_is ∙ sym (q.steps s).answer_is)
      (λ s. (p.broken s).answer_is ∙ sym (q.broken s).answer_is)

  pub one-model : Same r r'
  one-model =
      either (λ s. (p.steps s).state_is ∙ sym (q.steps s).state_is)
      (λ s. ap model_of ((p.broken s).table_is ∙ sym (q.broken s).table_is))

  pub one_table : (f : machine.Refusal) → x ≡ machine.refused f → r ≡ r'
  one_table f e = p.refuses f e ∙ sym (q.refuses f (sym one_answer ∙ e))

  -- a step that lists no names is answered by a value that counts none
  silent : ((s : State) → Silent (step s a).answer) → Silent x
  silent f = either (λ s. rw (p.steps s).answer_is (f (model_of t))) (λ s. rw (p.broken s).answer_is (refused_silent machine.broken))

  -- but for where open writes stand, and what lies in free entries, the values are one
  module _ (hr : Shaped r) (hr' : Shaped r') where
    by_value : (R : Table → Table → Type 0) → ((y : Table) → R y y) → (SoundTable r → SoundTable r' → R r r') → R r r'
    by_value R same f =
        either (λ s. f (p.steps s).sound (q.steps s).sound)
        (λ s. rw ((p.broken s).table_is, (q.broken s).table_is) (same t))

    pub one-core : r.core ≡ r'.core
    one-core = by_value (λ y z. y.core ≡ z.core) (λ y. refl) (λ s s'. same-core r r' hr hr' s s' one-model)

    pub one-cells : r.cells ≡ r'.cells
    one-cells = by_value (λ y z. y.cells ≡ z.cells) (λ y. refl) (λ s s'. same-cells r r' hr hr' s s' one-model)

    pub one-opens : StandsIn r.opens r'.opens
    one-opens = by_value (λ y z. StandsIn y.opens z.opens) (λ y j h f. record { at = j; small = h; is = refl }) (λ s s'. same-opens r r' hr hr' s s' one-model)

-- what the code hands back
pub record OneTable (r r' : Table) (a a' : Answer) : Type 0 where
  pub answer : a ≡ a'
  pub same : Same r r'
  pub core : r.core ≡ r'.core
  pub cells : r.cells ≡ r'.cells
  pub opens : StandsIn r.opens r'.opens
  pub refused : (f : Refusal) → a ≡ Refused f → r ≡ r'

module _ {t : Table} (sh : EachFull t) (fit : Fit t.core.desks) where
  outcome : {c : Step} {r r' : Table} {a a' : Answer} (names names' : List Name) (p : Met t c r (answer_of a names)) (q : Met t c r' (answer_of a' names'))
      → Counted a → Counted a' → Shaped r → Shaped r' → OneTable r r' a a'
  outcome {a = a} {a' = a'} names names' p q n n' h h' = record {
    answer = answer_is a names n (one_answer sh fit p q) ∙ sym (answer_is a' names' n' refl);
    same = one-model sh fit p q;
    core = one-core sh fit p q h h';
    cells = one-cells sh fit p q h h';
    opens = one-opens sh fit p q h h';
    refused = λ f e. one_table sh fit p q (refusal_of f) (ap (λ (y : Answer). answer_of y names) e);
  }

  quiet : {c : Step} {r r' : Done} (p : Met t c r.table (answer_of r.answer [])) (q : Met t c r'.table (answer_of r'.answer []))
      → ((s : State) → Silent (step s c).answer) → Shaped r.table → Shaped r'.table → OneTable r.table r'.table r.answer r'.answer
  quiet {r = r} {r' = r'} p q f h h' =
      outcome [] [] p q (silent_counted r.answer [] (silent sh fit p q f) refl) (silent_counted r'.answer [] (silent sh fit q p f) refl) h h'

  module _ {r r' : Done} (h : Shaped r.table) (h' : Shaped r'.table) where
    pub one-read : {i x : ℕ} → Met t (Read i x) r.table (answer_of r.answer []) → Met t (Read i x) r'.table (answer_of r'.answer [])
        → OneTable r.table r'.table r.answer r'.answer
    one-read {i} {x} p q = quiet p q (λ s. read_silent s i x) h h'

    pub one-write : {i x v : ℕ} → Met t (Write i x v) r.table (answer_of r.answer []) → Met t (Write i x v) r'.table (answer_of r'.answer [])
        → OneTable r.table r'.table r.answer r'.answer
    one-write {i} {x} {v} p q = quiet p q (λ s. write_silent s i x v) h h'

    pub one_trip : {i : ℕ} {xs : List ℕ} → Met t (Trip i xs) r.table (answer_of r.answer []) → Met t (Trip i xs) r'.table (answer_of r'.answer [])
        → OneTable r.table r'.table r.answer r'.answer
    one_trip {i} {xs} p q = quiet p q (λ s. trip_silent s i xs) h h'

  module _ {i u k : ℕ} {r r' : Delivered} (p : Brought t i u k r.table r.answer r.names) (q : Brought t i u k r'.table r'.answer r'.names) where
    pub one_deliver : Shaped r.table → Shaped r'.table → OneTable r.table r'.table r.answer r'.answer
    one_deliver = outcome r.names r'.names p.met q.met p.counted q.counted

    -- the array beside it, whole
    pub one_array : r.names ≡ r'.names
    one_array = p.names_are ∙ ap (λ (x : machine.Answer). sets no_names 0 (names_beside x)) (one_answer sh fit p.met q.met) ∙ sym q.names_are

-- a schedule, each step on the table that the one before gave
pub data StepsRun : Table → List Step → List machine.Answer → Type 0 where
  ends : {t : Table} → StepsRun t [] []
  then : {t r : Table} {a : Step} {x : machine.Answer} {l : List Step} {xs : List machine.Answer} → Met t a r x → StepsRun r l xs → StepsRun t (a ∷ l) (x ∷ xs)

-- from a table that keeps the rules, the answers are the machine's to the end
pub runs-answers : {t : Table} {l : List Step} {xs : List machine.Answer} → SoundTable t → StepsRun t l xs → xs ≡ answers (model_of t) l
unfolding answers
runs-answers s ends = refl
runs-answers {t} s (then {a = a} {l = l} m h) =
    let e = m.steps s in
    λ j. e.answer_is j ∷ (runs-answers e.sound h ∙ ap (λ (z : State). answers z l) e.state_is) j

-- 13 is no step's own refusal --

abbrev Below : List Row → Type 0
Below [] = Unit {0}
Below (w ∷ l) = (machine.number_of w.else < 13) × Below l

all-below : (s : State) (a : Step) → Below (rows_of s a)
all-below s (Read i x) = (omega arith, (omega arith, tt))
all-below s (Write i x v) = (omega arith, (omega arith, (omega arith, (omega arith, (omega arith, tt)))))
all-below s (Deliver i u k) = (omega arith, (omega arith, (omega arith, (omega arith, tt))))
all-below s (Trip i xs) = (omega arith, (omega arith, (omega arith, tt)))

never : (l : List Row) → Below l → FirstFails l machine.broken → ⊥
never [] b f = f
never (w ∷ l) b (inl h) = let e : 13 ≡ machine.number_of w.else = ap machine.number_of h.1 in omega (arith, b.0, e)
never (w ∷ l) b (inr h) = never l b.1 h.1

pub broken_only : {t : Table} {a : Step} {r : Table} {x : machine.Answer} → Met t a r x → x ≡ machine.refused machine.broken → SoundTable t → ⊥
broken_only {t} {a} m e s = never (rows_of (model_of t) a) (all-below (model_of t) a) ((refusal-exactly (model_of t) a machine.broken).0 (sym (m.steps s).answer_is ∙ e))
