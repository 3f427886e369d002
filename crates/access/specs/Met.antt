-- What a step on a table value promises: the machine's step where the value keeps the rules, and 13 where it breaks them.
use Rattle.std.specs.Prelude.{◌-◌, ◌≤◌, ◌≡◌}
use Rattle.laws.specs.Kit.{ℕ, refl, sym, ap, ◌∙◌, List, Bool, true, false, not, arith, get_or, replicate, sets}
use Rattle.laws.specs.Says.{Says, clash}
use Rattle.clock.specs.Vectors.{places}
use Rattle.machine.specs.Answer as machine
use Rattle.machine.specs.{Rules.{In}, Steps.{Step, Deliver, step}}
use Rattle.reply.specs.{declared.Name.{Name}, declared.Answer.{Answer}, declared.Answer.TheVariants.{Refused}, declared.Refusal.TheVariants.{Broken}}
use Rattle.reply.specs.Meaning.{answer_of, Counted}
use Rattle.table.specs.{declared.Cell.{Cell}, declared.Open.{Open}}
use Rattle.table.specs.{declared.Desk.{Desk}, declared.Table.{Table}, Value.{desk0, entries}, TypeShape.{Shaped}, Model.{model_of}}
use Rattle.table.specs.Sound.{SoundTable}
use Rattle.rules.specs.{Mirror.Test.{owns}, Link.ArrayLimits.{own_is}}
use Rattle.steps.specs.{Stepped.{Placed, Stepped, put_desk, put_back, names_beside, table_after}, Turn.{Turn}, Link.Deliver.{Meets}}
use Rattle.steps.specs.Link.LookStepped.{stops, passes}

-- of a table that keeps the rules: the machine's answer and its table, which keeps them too
pub record Steps (t : Table) (a : Step) (r : Table) (answer : machine.Answer) : Type 0 where
  pub answer_is : answer ≡ (step (model_of t) a).answer
  pub state_is : model_of r ≡ (step (model_of t) a).state
  pub sound : SoundTable r

-- of one that breaks them
pub record Turned (t r : Table) (answer : machine.Answer) : Type 0 where
  pub answer_is : answer ≡ machine.refused machine.broken
  pub table_is : r ≡ t

-- step a on the table t gives the table r and the answer
pub record Met (t : Table) (a : Step) (r : Table) (answer : machine.Answer) : Type 0 where
  pub steps : SoundTable t → Steps t a r answer
  -- "leaves table as found": the very value
  pub refuses : (x : machine.Refusal) → answer ≡ machine.refused x → r ≡ t
  pub broken : (SoundTable t → ⊥) → Turned t r answer

abbrev pub no_names : List Name
no_names = replicate entries record { writer = 0; number = 0 }

-- of a delivery also the array beside: the names applied, as many as are counted, then zeros
pub record Brought (t : Table) (i u k : ℕ) (r : Table) (answer : Answer) (names : List Name) : Type 0 where
  pub met : Met t (Deliver i u k) r (answer_of answer names)
  pub names_are : names ≡ sets no_names 0 (names_beside (answer_of answer names))
  pub counted : Counted answer

module _ {t : Table} where
  pub few-desks : SoundTable t → t.core.n ≤ places
  few-desks s = s.rules.frame.ranges.desks.1

  pub met_unsound : {a : Step} → (SoundTable t → ⊥) → Met t a t (machine.refused machine.broken)
  met_unsound off = record {
    steps = λ s. absurd (off s);
    refuses = λ x e. refl;
    broken = λ s. record { answer_is = refl; table_is = refl };
  }

  pub brought_unsound : {i u k : ℕ} → (SoundTable t → ⊥) → Brought t i u k t (Refused Broken) no_names
  brought_unsound off = record { met = met_unsound off; names_are = refl; counted = λ c q. clash (cc) }

  module _ {b : Bool} (says : Says b (SoundTable t)) where
    pub met-broken : (a : Step) → not b ≡ true → Met t a t (machine.refused machine.broken)
    met-broken a off =
        record {
          steps = λ s. absurd (stops says refl off s);
          refuses = λ x e. refl;
          broken = λ s. record { answer_is = refl; table_is = refl };
        }

    pub placed : {own : List ℕ} {i : ℕ} {d : Desk} → not b ≡ false → Shaped t → own ≡ owns t.core.desks → (In places i → get_or t.core.desks (i - 1) desk0 ≡ d)
        → Placed t own i d
    placed on sh eo e =
        let s = passes says refl on in
        record {
          sound = s;
          shape = sh.desks;
          cells_shape = sh.cells;
          opens_shape = sh.opens;
          desk = λ h. e (h.0, omega (arith, h.1, few-desks s));
          own_counts = λ u h. rw eo (own_is t.core.desks sh.desks u);
        }

  module _ {own : List ℕ} {i : ℕ} {d : Desk} (p : Placed t own i d) where
    pub met-stepped : {a : Step} {d' : Desk} {cs : List Cell} {os : List Open} {answer : machine.Answer} → Stepped t i d a d' cs os answer → Met t a (table_after t.core i d' cs os) answer
    met-stepped {d' = d'} {cs = cs} {os = os} s =
        record {
          steps = λ g. record { answer_is = s.answer_is; state_is = s.state_is; sound = s.sound };
          refuses = λ x e. same (s.refused_desk x e) (s.refused_cells x e) (s.refused_opens x e);
          broken = λ no. absurd (no p.sound);
        }
      where
        same : d' ≡ d → cs ≡ t.cells → os ≡ t.opens → table_after t.core i d' cs os ≡ t
        same ed ec eo = λ j. record {
          core = record { n = t.core.n; m = t.core.m; desks = (ap (put_desk t.core.n t.core.desks i) ed ∙ put_back t.core.n t.core.desks i d p.desk) j };
          cells = ec j;
          opens = eo j;
        }

    pub brought : {u k : ℕ} {r : Turn} {cs : List Cell} {os : List Open} {names : List Name} → Meets t d no_names i u k r cs os names
        → Brought t i u k (table_after t.core i r.desk cs os) r.answer names
    brought w = record {
      met = met-stepped w.stepped;
      names_are = w.names_are ∙ ap (λ (x : machine.Answer). sets no_names 0 (names_beside x)) (sym w.stepped.answer_is);
      counted = w.counted;
    }
