-- Deliver: the refusals in their order, and the step as the machine's.
use Rattle.std.specs.Prelude.{◌-◌, ◌<◌, ◌≤◌, ◌≡◌, ◌∷◌, ◌≢◌, Result, Ok, Err, IsErrAnd}
use Rattle.std.proofs.lemmas.Result.{err_from_is_err_and}
use Rattle.laws.specs.Kit.{ℕ, refl, sym, ap, ◌∙◌, List, [], true, Option, none, some, arith, set, sets, inl}
use Rattle.laws.specs.{Kit.{inr}, Update.{upd-is}, Says.{clash}}
use Rattle.clock.specs.Vectors.{places, place}
use Rattle.machine.specs.Table as machine
use Rattle.machine.specs.{Table.{State, away, done, written, mark_in}, Answer.{received, no_desk, own_write, no_write}}
use Rattle.machine.specs.{Steps.{Out, Deliver, step}, Rules.{In}, Refusals.{Row, ◌or◌, rows_of, FirstFails, AllPass}}
use Rattle.machine.proofs.RulesKept.{done-counted}
use Rattle.machine.proofs.Refusals.{refusal-exactly, accepted-effect, effect_of, deliver_effect}
use Rattle.machine.specs.Answer as machineAnswer
use Rattle.reply.specs.{declared.Answer.{Answer}, declared.Name.{Name}, declared.Refusal.{Refusal}, Meaning.{refusal_of, answer_of, Counted}}
use Rattle.table.specs.{declared.Cell.{Cell}, declared.Desk.{Desk}, declared.Open.{Open}, declared.Table.{Table}, Value.{entries, open_at}, EntryNames.{named_at}, Model.{applied_m}}
use Rattle.table.specs.{Model.{open_m, cells_m, opens_m, applied_put, clock_keep, model_of, table_of}, Link.OpensModel.{opens_at}}
use Rattle.steps.specs.Turn.{Turn, turned}
use Rattle.steps.specs.{Stepped.{Placed, names_beside, Stepped}, Link.Cascade.{midst}}
use Rattle.steps.specs.{Link.DeliverReceive.{Arrival, ReceivesAs, effect}, Mirror.Look.{refused_turn}, Link.LookStepped.{in_desks}}
use Rattle.steps.specs.{Link.LookStepped.{desk-shape, refused-stepped, taken-stepped}, Link.Look.{counts_start}}

-- the part of a table that a delivery is handed
abbrev pub Part : (n : ℕ) (d : Desk) (own : List ℕ) (cs : List Cell) (os : List Open) (i : ℕ) → Type 0
Part n d own cs os i = (m : ℕ) × (ds : List Desk) × Placed (table_of n m ds cs os) own i d

-- the machine's delivery, and the names in the array beside the answer: all else in it stays
pub record Meets (t : Table) (d : Desk) (names : List Name) (i u k : ℕ) (r : Turn) (cs' : List Cell) (os' : List Open) (names' : List Name) : Type 0 where
  pub stepped : Stepped t i d (Deliver i u k) r.desk cs' os' (answer_of r.answer names')
  pub names_are : names' ≡ sets names 0 (names_beside (step (model_of t) (Deliver i u k)).answer)
  pub counted : Counted r.answer

-- for every table that these are a part of
abbrev pub Delivers : (n : ℕ) (d : Desk) (own : List ℕ) (cs : List Cell) (os : List Open) (names : List Name) (i u k : ℕ) (r : Turn) (cs' : List Cell) (os' : List Open) (names' : List Name) → Type 0
Delivers n d own cs os names i u k r cs' os' names' =
    (m : ℕ) (ds : List Desk) → Placed (table_of n m ds cs os) own i d → Meets (table_of n m ds cs os) d names i u k r cs' os' names'

-- what is asked before an entry is looked for: the machine's rows, the last by the desk's count
abbrev pub asked_of : ℕ → List ℕ → List ℕ → ℕ → ℕ → ℕ → List Row
asked_of n a own i u k =
    (In n i × In n u or no_desk) ∷
    (i ≢ u or own_write) ∷
    (In (place own u) k or no_write) ∷
    (place a u < k or received) ∷ []

abbrev pub Tested : ℕ → List ℕ → List ℕ → ℕ → ℕ → ℕ → Result Unit Refusal → Type 0
Tested n a own i u k (Err r) = FirstFails (asked_of n a own i u k) (refusal_of r)
Tested n a own i u k (Ok _) = AllPass (asked_of n a own i u k)

module _ {whole : Table} {own : List ℕ} {i : ℕ} {d : Desk} (p : Placed whole own i d) where
  abbrev n : ℕ
  n = whole.core.n

  abbrev ds : List Desk
  ds = whole.core.desks

  abbrev cs : List Cell
  cs = whole.cells

  abbrev os : List Open
  os = whole.opens

  abbrev s : State
  s = model_of whole

  pub few-desks : n ≤ places
  few-desks = p.sound.rules.frame.ranges.desks.1

  -- a refusal leaves all as it came
  pub meets_refused : (u k : ℕ) (r : Refusal) (names : List Name) → FirstFails (rows_of s (Deliver i u k)) (refusal_of r)
      → Meets whole d names i u k (refused_turn d r) cs os names
  meets_refused u k r names f = record {
    stepped = refused-stepped p (Deliver i u k) (refusal_of r) f;
    names_are = rw ((refusal-exactly s (Deliver i u k) (refusal_of r)).1 f);
    counted = λ c q. clash (cc);
  }

  -- a refusal handed on by `?`
  pub meets_refused_on : (u k : ℕ) (r : Refusal) {y : Refusal} (names : List Name) (made : Result Answer Refusal) → IsErrAnd made (λ x. x ≡ y) → y ≡ r
      → FirstFails (rows_of s (Deliver i u k)) (refusal_of r) → Meets whole d names i u k (turned d made) cs os names
  meets_refused_on u k r names made h e f =
      let q = err_from_is_err_and made h in
      rw (q.1, q.2, e) (meets_refused u k r names f)

  module _ (u k : ℕ) where
    own_is : In n u → place own u ≡ written s u
    own_is h = p.own_counts u (h.0, (omega (arith, h.1, few-desks)))

    -- what the desk has applied it has received
    old : In n i → In n u → In (written s u) k → (place d.applied u < k → ⊥) → machine.mark_of s i u k ≡ away → ⊥
    old hi hu hk l q =
        let e = ap (λ (v : machine.Vec). v u) (counts_start p hi) in
        omega (arith, (done-counted p.sound.rules.frame i u k hi hu hk).1 (omega arith))

    -- the tests fail as the machine's do
    pub failed : (r : machineAnswer.Refusal) → FirstFails (asked_of n d.applied own i u k) r → FirstFails (rows_of s (Deliver i u k)) r
    failed r (inl f) = inl f
    failed r (inr (h, inl f)) = inr (h, inl f)
    failed r (inr (h, inr (o, inl f))) = inr (h, inr (o, inl (rw (own_is h.1) at f)))
    failed r (inr (h, inr (o, inr (m, inl f)))) =
        let m' = rw (own_is h.1) at m in
        inr (h, inr (o, inr (m', inl (old h.0 h.1 m' f.0, f.1))))
    failed r (inr (h, inr (o, inr (m, inr (l, f))))) = absurd f

    module _ (a : AllPass (asked_of n d.applied own i u k)) where
      hi : In n i
      hi = a.0.0

      number : In (written s u) k
      number = rw (own_is a.0.1) at a.1.1.0

      pub small-number : k < 65536
      small-number = omega (arith, number.1, p.sound.rules.frame.ranges.written u)

      pub known : (machine.mark_of s i u k ≡ away → ⊥) → FirstFails (rows_of s (Deliver i u k)) machineAnswer.received
      known f = inr (a.0, inr (a.1.0, inr (number, inl (f, refl))))

      pub none_open : opens_m os u k ≡ none → machine.mark_of s i u k ≡ away → ⊥
      none_open e q = let z : done ≡ away = rw e at q in omega arith

      module _ (e : ℕ) (h : e < entries) (t : named_at os u k e ≡ true) where
        entry_open : opens_m os u k ≡ some (open_m (open_at os e))
        entry_open = opens_at os e u k p.sound.unique h t

        pub known_open : (place (open_at os e).marks i ≡ away → ⊥) → machine.mark_of s i u k ≡ away → ⊥
        known_open ne q = ne (rw entry_open at q)

        -- the model with another desk in its place --

        midst-is : midst s i d.applied cs os ≡ s
        midst-is = λ j. record {
          setup = s.setup;
          applied = sym (upd-is (applied_m ds) i (place d.applied) (applied_m ds) (counts_start p hi) (λ j ne. refl)) j;
          clock = s.clock;
          cell = s.cell;
          opens = s.opens;
        }

        model_is : (d' : Desk) (cs' : List Cell) (os' : List Open) → d'.clock ≡ d.clock
            → model_of (table_of n whole.core.m (set ds (i - 1) d') cs' os') ≡ midst s i d'.applied cs' os'
        model_is d' cs' os' q = λ j. record {
          setup = s.setup;
          applied = applied_put ds i (in_desks p hi) d' j;
          clock = clock_keep ds i (in_desks p hi) d' (rw (q, p.desk hi)) j;
          cell = cells_m cs';
          opens = opens_m os';
        }

        module _ (q : place (open_at os e).marks i ≡ away) where
          pub arrival : Arrival s n i u k e d.applied own cs os
          arrival = record {
            running = record {
              count = refl;
              mid = rw midst-is (record { frame = p.sound.rules.frame; quiet = λ j ne. p.sound.rules.quiet j });
              desk = hi;
              blanks = p.sound.blanks;
              unique = p.sound.unique;
              own_counts = λ u hu. p.own_counts u hu ∙ sym (ap (λ (x : State). written x u) midst-is);
              counts_size = (desk-shape p hi).applied;
              cells_shape = p.cells_shape;
              opens_shape = p.opens_shape;
            };
            small = h;
            named = t;
            is_away = q;
          }

          pub meets_received : {r : Turn} {names : List Name} {cs' : List Cell} {os' : List Open} {names' : List Name} → ReceivesAs s n i u k e d cs os names r cs' os' names'
              → Meets whole d names i u k r cs' os' names'
          meets_received {r} {names} {cs'} {os'} x =
              let w = open_m (open_at os e) in
              let rows : AllPass (rows_of s (Deliver i u k)) =
              (a.0, (a.1.0, (number, (ap (λ (o : Option machine.Open). mark_in o i) entry_open ∙ q, tt)))) in
              let o : effect (midst s i d.applied cs os) i u k w ≡ effect_of s (Deliver i u k) =
              ap (λ (y : State). effect y i u k w) midst-is ∙ sym (ap (deliver_effect s i u k) entry_open) in
              record {
                stepped =
                    taken-stepped p (Deliver i u k) hi rows (x.answer_is ∙ ap (λ (y : Out). y.answer) o)
                    (model_is r.desk cs' os' x.clock_is ∙ x.state_is ∙ ap (λ (y : Out). y.state) o) x.blanks x.unique;
                names_are =
                    x.names_are ∙ ap (λ (y : Out). sets names 0 (names_beside y.answer))
                    (o ∙ sym (accepted-effect s (Deliver i u k) rows));
                counted = x.counted;
              }
