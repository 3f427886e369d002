-- The contracts of the four steps leave one outcome: the answer, the desk and the cells as values, and the names beside the answer. Of the open
-- writes it is the set: document 01 leaves open which entry holds one.
use Rattle.std.specs.Prelude.{◌-◌, ◌≡◌}
use Rattle.laws.specs.Kit.{ℕ, refl, sym, ap, ◌∙◌, inl, true, List, [], arith, get_or, length-set, get_or-set_same}
use Rattle.laws.specs.{Kit.{get_or-set_other}, Loop.{cases}, Says.{apart}, Update.{same_or}}
use Rattle.machine.specs.Answer as machine
use Rattle.machine.specs.{Table.{State}, Rules.{In}, Steps.{Step, Read, Write, Deliver, Trip, within, step}, Paper.{actor}}
use Rattle.machine.proofs.Refusals.{says-within, refusal-exactly, step_cases}
use Rattle.reply.specs.{declared.Name.{Name}, declared.Answer.{Answer}, declared.Answer.TheVariants.{Refused}, declared.Refusal.{Refusal}}
use Rattle.reply.specs.{Meaning.{answer_of, refusal_of, Counted}, Unique.{answer_is, Silent, silent_counted}}
use Rattle.table.specs.{declared.Cell.{Cell}, declared.Core.{Core}, declared.Desk.{Desk}, declared.Open.{Open}, declared.Table.{Table}}
use Rattle.table.specs.{Value.{desk0, CellsShape, OpensShape}, TypeShape.{DeskShape, DesksShape, Shaped}, Model.{model_of, table_of}, Unique.{StandsIn}}
use Rattle.table.specs.Unique.{same-core, same-opens}
use Rattle.table.proofs.Unique.{same-cells}
use Rattle.steps.specs.{Turn.{Turn}, Stepped.{Placed, Stepped, put_desk, table_after}, Link.LookStepped.{in_places}}
use Rattle.steps.specs.{Mirror.Look.{SomeLook, Looks}, Mirror.Write.{SomeTable, Writes}, Link.Deliver.{Part, Delivers}}

pub outside : (s : State) (a : Step) → (In s.setup.desks (actor a) → ⊥) → (step s a).answer ≡ machine.refused machine.no_desk
outside s (Read i x) f = (refusal-exactly s (Read i x) machine.no_desk).1 (inl (f, refl))
outside s (Write i x v) f = (refusal-exactly s (Write i x v) machine.no_desk).1 (inl (f, refl))
outside s (Deliver i u k) f = (refusal-exactly s (Deliver i u k) machine.no_desk).1 (inl (λ h. f h.0, refl))
outside s (Trip i xs) f = (refusal-exactly s (Trip i xs) machine.no_desk).1 (inl (f, refl))

-- only a delivery lists names
pub refused_silent : (r : machine.Refusal) → Silent (machine.refused r)
refused_silent r l e = let z : ◌≡◌ {A = ℕ} 0 1 = cc in omega arith

pub read_silent : (s : State) (i x : ℕ) → Silent (step s (Read i x)).answer
read_silent s i x = step_cases s (Read i x) (λ o. Silent o.answer) refused_silent (λ h l e. let z : ◌≡◌ {A = ℕ} 0 1 = cc in omega arith)

pub write_silent : (s : State) (i x v : ℕ) → Silent (step s (Write i x v)).answer
write_silent s i x v = step_cases s (Write i x v) (λ o. Silent o.answer) refused_silent (λ h l e. let z : ◌≡◌ {A = ℕ} 0 1 = cc in omega arith)

pub trip_silent : (s : State) (i : ℕ) (xs : List ℕ) → Silent (step s (Trip i xs)).answer
trip_silent s i xs = step_cases s (Trip i xs) (λ o. Silent o.answer) refused_silent (λ h l e. let z : ◌≡◌ {A = ℕ} 0 1 = cc in omega arith)

-- what the types tell of the desk handed back and the lists left
pub record LeftShape (d : Desk) (cs : List Cell) (os : List Open) : Type 0 where
  pub desk : DeskShape d
  pub cells : CellsShape cs
  pub opens : OpensShape os

lent_shape : {t : Table} {own : List ℕ} {i : ℕ} {d e : Desk} → Placed t own i d → DeskShape e → LeftShape e t.cells t.opens
lent_shape p h = record { desk = h; cells = p.cells_shape; opens = p.opens_shape }

desks_put : {ds : List Desk} {d : Desk} (n i : ℕ) → DesksShape ds → DeskShape d → DesksShape (put_desk n ds i d)
desks_put {ds} {d} n i s h =
    cases (within n i)
    (λ t. rw t (record {
      count = length-set ds (i - 1) d ∙ s.count;
      each = λ j b. same_or j (i - 1)
          (λ q. rw (q, get_or-set_same ds (i - 1) d desk0 (omega (arith, s.count))) h)
          (λ q. rw (get_or-set_other ds (i - 1) j d desk0 q) (s.each j b));
    }))
    (λ t. rw t s)

module _ {whole : Table} {own : List ℕ} {i : ℕ} {d : Desk} (p : Placed whole own i d) {a : Step} (who : actor a ≡ i)
    {d' d'' : Desk} {cs' cs'' : List Cell} {os' os'' : List Open} {x y : machine.Answer}
    (f : Stepped whole i d a d' cs' os' x) (g : Stepped whole i d a d'' cs'' os'' y) (hf : LeftShape d' cs' os') (hg : LeftShape d'' cs'' os'') where
  abbrev n : ℕ
  n = whole.core.n

  shaped : {e : Desk} {l : List Cell} {k : List Open} → LeftShape e l k → Shaped (table_after whole.core i e l k)
  shaped h = record { desks = desks_put n i p.shape h.desk; cells = h.cells; opens = h.opens }

  same : model_of (table_after whole.core i d' cs' os') ≡ model_of (table_after whole.core i d'' cs'' os'')
  same = f.state_is ∙ sym g.state_is

  pub one-cells : cs' ≡ cs''
  one-cells = same-cells (table_after whole.core i d' cs' os') (table_after whole.core i d'' cs'' os'') (shaped hf) (shaped hg) f.sound g.sound same

  pub one-opens : StandsIn os' os''
  one-opens = same-opens (table_after whole.core i d' cs' os') (table_after whole.core i d'' cs'' os'') (shaped hf) (shaped hg) f.sound g.sound same

  pub one-desk : d' ≡ d''
  one-desk = cases (within n i) inside (λ t. off (λ h. apart (within n i) ((says-within n i).from h) t))
    where
      back : within n i ≡ true → (e : Desk) → get_or (put_desk n whole.core.desks i e) (i - 1) desk0 ≡ e
      back t e = let h = in_places p ((says-within n i).to t) in rw t (get_or-set_same whole.core.desks (i - 1) e desk0 (omega (arith, h.0, h.1, p.shape.count)))

      inside : within n i ≡ true → d' ≡ d''
      inside t =
          sym (back t d')
          ∙ ap (λ (c : Core). get_or c.desks (i - 1) desk0) (same-core (table_after whole.core i d' cs' os') (table_after whole.core i d'' cs'' os'') (shaped hf) (shaped hg) f.sound g.sound same)
          ∙ back t d''

      off : (In n i → ⊥) → d' ≡ d''
      off q =
          let e = outside (model_of whole) a (rw who q) in
          f.refused_desk machine.no_desk (f.answer_is ∙ e) ∙ sym (g.refused_desk machine.no_desk (g.answer_is ∙ e))

  pub one-entries : (r : machine.Refusal) → x ≡ machine.refused r → os' ≡ os''
  one-entries r e = f.refused_opens r e ∙ sym (g.refused_opens r (g.answer_is ∙ sym f.answer_is ∙ e))

-- the code's answer is the one that stands for the machine's
turn_is : {r r' : Turn} (names names' : List Name) {x : machine.Answer} → r.desk ≡ r'.desk → Counted r.answer → Counted r'.answer
    → answer_of r.answer names ≡ x → answer_of r'.answer names' ≡ x → r ≡ r'
turn_is {r} {r'} names names' e c c' f g =
    let a : r.answer ≡ r'.answer = answer_is r.answer names c f ∙ sym (answer_is r'.answer names' c' g) in
    λ j. record { desk = e j; answer = a j }

-- Read and trip: the whole turn --

look_is : {n m : ℕ} {cs : List Cell} {i : ℕ} {d : Desk} {a : Step} {r r' : Turn} → SomeLook n m cs i d → actor a ≡ i → ((s : State) → Silent (step s a).answer)
    → Looks n m cs i d a r → Looks n m cs i d a r' → DeskShape r.desk → DeskShape r'.desk → r ≡ r'
look_is {n} {m} {cs} {a = a} {r = r} {r' = r'} w who quiet f g hf hg =
    let p = w.placed in
    let x = f w.desks w.opens w.own p in
    let y = g w.desks w.opens w.own p in
    let q = quiet (model_of (table_of n m w.desks cs w.opens)) in
    turn_is [] [] (one-desk p who x y (lent_shape p hf) (lent_shape p hg)) (silent_counted r.answer [] q x.answer_is) (silent_counted r'.answer [] q y.answer_is) x.answer_is y.answer_is

module _ {n m : ℕ} {cs : List Cell} {i : ℕ} {d : Desk} {r r' : Turn} (w : SomeLook n m cs i d) (hf : DeskShape r.desk) (hg : DeskShape r'.desk) where
  pub one-read : {x : ℕ} → Looks n m cs i d (Read i x) r → Looks n m cs i d (Read i x) r' → r ≡ r'
  one-read {x} f g = look_is w refl (λ s. read_silent s i x) f g hf hg

  pub one_trip : {xs : List ℕ} → Looks n m cs i d (Trip i xs) r → Looks n m cs i d (Trip i xs) r' → r ≡ r'
  one_trip {xs} f g = look_is w refl (λ s. trip_silent s i xs) f g hf hg

-- Write and deliver: the turn, the cells, the open writes --

pub record OneOutcome (r r' : Turn) (cs cs' : List Cell) (os os' : List Open) : Type 0 where
  pub turn : r ≡ r'
  pub cells : cs ≡ cs'
  pub opens : StandsIn os os'
  pub refused : (x : Refusal) → r.answer ≡ Refused x → os ≡ os'

one-outcome : {t : Table} {own : List ℕ} {i : ℕ} {d : Desk} (p : Placed t own i d) {a : Step}
    (who : actor a ≡ i) {r r' : Turn} {cs' cs'' : List Cell} {os' os'' : List Open} (names names' : List Name)
    → LeftShape r.desk cs' os' → LeftShape r'.desk cs'' os'' → Counted r.answer → Counted r'.answer
    → Stepped t i d a r.desk cs' os' (answer_of r.answer names) → Stepped t i d a r'.desk cs'' os'' (answer_of r'.answer names')
    → OneOutcome r r' cs' cs'' os' os''
one-outcome p who names names' hf hg c c' a b = record {
  turn = turn_is names names' (one-desk p who a b hf hg) c c' a.answer_is b.answer_is;
  cells = one-cells p who a b hf hg;
  opens = one-opens p who a b hf hg;
  refused = λ z e. one-entries p who a b hf hg (refusal_of z) (ap (λ (y : Answer). answer_of y names) e);
}

pub one-write : {n m : ℕ} {cs : List Cell} {os : List Open} {i : ℕ} {d : Desk} {x v : ℕ} {r r' : Turn} {cs' cs'' : List Cell} {os' os'' : List Open} → SomeTable n m cs os i d
    → LeftShape r.desk cs' os' → LeftShape r'.desk cs'' os''
    → Writes n m cs os i d (Write i x v) r cs' os' → Writes n m cs os i d (Write i x v) r' cs'' os'' → OneOutcome r r' cs' cs'' os' os''
one-write {n} {m} {cs} {os} {i} {d} {x} {v} {r} {r'} w hf hg f g =
    let a = f w.desks w.own w.placed in
    let b = g w.desks w.own w.placed in
    let q = write_silent (model_of (table_of n m w.desks cs os)) i x v in
    one-outcome w.placed refl [] [] hf hg (silent_counted r.answer [] q a.answer_is)
    (silent_counted r'.answer [] q b.answer_is) a b

-- and the names beside the answer
pub record OneDelivery (r r' : Turn) (cs cs' : List Cell) (os os' : List Open) (names names' : List Name) : Type 0 where
  pub outcome : OneOutcome r r' cs cs' os os'
  pub beside : names ≡ names'

pub one_deliver : {n : ℕ} {d : Desk} {own : List ℕ} {cs : List Cell} {os : List Open} {names : List Name} {i u k : ℕ} {r r' : Turn} {cs' cs'' : List Cell} {os' os'' : List Open} {names' names'' : List Name} → Part n d own cs os i
    → LeftShape r.desk cs' os' → LeftShape r'.desk cs'' os''
    → Delivers n d own cs os names i u k r cs' os' names' → Delivers n d own cs os names i u k r' cs'' os'' names'' → OneDelivery r r' cs' cs'' os' os'' names' names''
one_deliver {names' = names'} {names'' = names''} w hf hg f g =
    let a = f w.0 w.1 w.2 in
    let b = g w.0 w.1 w.2 in
    let o = one-outcome w.2 refl names' names'' hf hg a.counted b.counted a.stepped b.stepped in
    record { outcome = o; beside = a.names_are ∙ sym b.names_are }
