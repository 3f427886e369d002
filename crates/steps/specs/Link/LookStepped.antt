-- A step by what the machine's tests say: refused by the first that fails, or the effect.
use Rattle.std.specs.Prelude.{◌-◌, ◌<◌, ◌≡◌, Result, Err, IsErrAnd}
use Rattle.std.proofs.lemmas.Result.{err_from_is_err_and}
use Rattle.laws.specs.Kit.{ℕ, refl, sym, ap, ◌∙◌, List, [], Bool, true, false, not, arith, not-true, not-false, length, set}
use Rattle.laws.specs.{Loop.{pick}, Says.{Says, apart}}
use Rattle.machine.specs.Answer as machine
use Rattle.machine.specs.{Refusals.{rows_of, FirstFails, AllPass, Accepted}, Rules.{In}, Steps.{Out, Step, step}}
use Rattle.machine.proofs.Refusals.{says-within, refusal-exactly, refused-leaves-table, accepted-effect, accepted-exactly, effect_of}
use Rattle.machine.proofs.RulesKept.{step-keeps-rules}
use Rattle.clock.specs.Vectors.{places}
use Rattle.table.specs.{declared.Cell.{Cell}, declared.Desk.{Desk}, declared.Open.{Open}, declared.Table.{Table}}
use Rattle.table.specs.{Value.{desk_cells, all_cells, cell_at}, TypeShape.{DeskShape}}
use Rattle.table.specs.{Link.OpensModel.{Unique}, Sound.{AllZero}, Model.{model_of, table_of}}
use Rattle.reply.specs.{Meaning.{answer_of, refusal_of}, declared.Answer.{Answer}, declared.Refusal.{Refusal}}
use Rattle.steps.specs.{Turn.{Turn, turned}, Mirror.Look.{refused_turn}, Stepped.{Placed, Stepped, put_desk, put_back, table_after}}

-- what a test of the code, `if !b`, says
pub stops : {b p : Bool} {P : Type 0} → Says p P → b ≡ p → not b ≡ true → P → ⊥
stops {b} {p} s e t h = apart p (s.from h) (sym e ∙ not-true b t)

pub passes : {b p : Bool} {P : Type 0} → Says p P → b ≡ p → not b ≡ false → P
passes {b} s e t = s.to (sym e ∙ not-false b t)

-- of equal turns
pub stepped_as : {t : Table} {i : ℕ} {d : Desk} {a : Step} {r s : Turn} {cs : List Cell} {os : List Open} → r ≡ s
    → Stepped t i d a s.desk cs os (answer_of s.answer []) → Stepped t i d a r.desk cs os (answer_of r.answer [])
stepped_as e h = rw e h

module _ {whole : Table} {own : List ℕ} {i : ℕ} {d : Desk} (p : Placed whole own i d) where
  abbrev n : ℕ
  n = whole.core.n

  abbrev ds : List Desk
  ds = whole.core.desks

  pub in_places : In n i → In places i
  in_places h = (h.0, omega (arith, h.1, p.sound.rules.frame.ranges.desks.1))

  pub in_cells : {x : ℕ} → In whole.core.m x → In desk_cells x
  in_cells h = (h.0, omega (arith, h.1, p.sound.rules.frame.ranges.cells.1))

  pub in_desks : In n i → In (length ds) i
  in_desks h = (h.0, omega (arith, (in_places h).1, p.shape.count))

  -- the acting desk has its places
  pub desk-shape : In n i → DeskShape d
  desk-shape h = rw (← p.desk h) (p.shape.each (i - 1) (omega (arith, in_places h)))

  pub put_in : (d' : Desk) → In n i → put_desk n ds i d' ≡ set ds (i - 1) d'
  put_in d' h = ap (λ (b : Bool). pick b (set ds (i - 1) d') ds) ((says-within n i).from h)

  module _ (a : Step) where
    pub refused-stepped : (r : machine.Refusal) → FirstFails (rows_of (model_of whole) a) r → Stepped whole i d a d whole.cells whole.opens (machine.refused r)
    refused-stepped r f =
        let e = (refusal-exactly (model_of whole) a r).1 f in
        record {
          answer_is = sym e;
          state_is = ap (λ (l : List Desk). model_of (table_of n whole.core.m l whole.cells whole.opens)) (put_back n ds i d p.desk) ∙ sym (refused-leaves-table (model_of whole) a r e);
          sound = rw (put_back n ds i d p.desk) p.sound;
          refused_desk = λ _ _. refl;
          refused_cells = λ _ _. refl;
          refused_opens = λ _ _. refl;
        }

    -- the code's refusal
    pub refused-turn : (r : Refusal) {t : Turn} → t ≡ refused_turn d r → FirstFails (rows_of (model_of whole) a) (refusal_of r)
        → Stepped whole i d a t.desk whole.cells whole.opens (answer_of t.answer [])
    refused-turn r e f = rw e (refused-stepped (refusal_of r) f)

    -- a refusal handed on by `?`
    pub refused_on : (r : Refusal) {y : Refusal} (made : Result Answer Refusal) → IsErrAnd made (λ x. x ≡ y) → y ≡ r → FirstFails (rows_of (model_of whole) a) (refusal_of r)
        → Stepped whole i d a (turned d made).desk whole.cells whole.opens (answer_of (turned d made).answer [])
    refused_on r made h e f =
        let q = err_from_is_err_and made h in
        refused-turn r (ap (turned d) (q.1 ∙ ap Err (q.2 ∙ e))) f

    -- every test has passed, and the model becomes what the effect says
    pub taken-stepped : {d' : Desk} {cs' : List Cell} {os' : List Open} {answer : machine.Answer} → In n i → AllPass (rows_of (model_of whole) a)
        → answer ≡ (effect_of (model_of whole) a).answer → model_of (table_of n whole.core.m (set ds (i - 1) d') cs' os') ≡ (effect_of (model_of whole) a).state
        → ((s : ℕ) → s < all_cells → (cell_at cs' s).writer ≡ 0 → AllZero (cell_at cs' s)) → Unique os'
        → Stepped whole i d a d' cs' os' answer
    taken-stepped {d'} {cs'} {os'} {answer} hi h ea es blanks unique =
        let s = model_of whole in
        let e = accepted-effect s a h in
        let an : answer ≡ (step s a).answer = ea ∙ sym (ap (λ (o : Out). o.answer) e) in
        let st : model_of (table_after whole.core i d' cs' os') ≡ (step s a).state =
        ap (λ (l : List Desk). model_of (table_of n whole.core.m l cs' os')) (put_in d' hi) ∙ es ∙ sym (ap (λ (o : Out). o.state) e)
        in
        let no : Accepted answer = (λ r q. (accepted-exactly s a).1 h r (sym an ∙ q)) in
        record {
          answer_is = an;
          state_is = st;
          sound = record { rules = rw st (step-keeps-rules p.sound.rules a); blanks = blanks; unique = unique };
          refused_desk = λ r q. absurd (no r q);
          refused_cells = λ r q. absurd (no r q);
          refused_opens = λ r q. absurd (no r q);
        }
