-- The frame of the four steps: 13 where the table breaks the rules, else what the step given makes of the table's parts.
use Rattle.std.specs.{Prelude.{◌≡◌, ◌⊎◌, Result}, Borrow.{MutBor}, Fn.{Once}}
use Rattle.laws.specs.Kit.{ℕ, List, [], inl, inr, refl, sym, ap, ◌∙◌, get_or, set}
use Rattle.machine.specs.{Paper.{actor}, Steps.{Step, Deliver}}
use Rattle.machine.specs.Answer as machine
use Rattle.reply.specs.{declared.Name.{Name}, declared.Answer.{Answer}, declared.Answer.TheVariants.{Refused}, declared.Refusal.{Refusal}}
use Rattle.reply.specs.{declared.Refusal.TheVariants.{Broken}, Meaning.{answer_of}}
use Rattle.table.specs.{declared.Cell.{Cell}, declared.Desk.{Desk}, declared.Open.{Open}, declared.Table.{Table}, Value.{desk0}}
use Rattle.table.specs.{Model.{table_of}, Sound.{SoundTable}}
use Rattle.rules.specs.Mirror.Test.{owns}
use Rattle.steps.specs.{Turn.{answer_in, turned}, Stepped.{Placed, Stepped, table_after}, Seat.{seat_of, put_seat, outside_keeps}}
use Rattle.steps.specs.{Mirror.Look.{SomeLook, Looks}, Mirror.Write.{SomeTable, Writes}, Link.Deliver.{Part, Delivers}}
use Rattle.access.specs.{declared.Delivered.{Delivered}, Met.{few-desks, no_names, Met, Brought, met_unsound, brought_unsound, met-stepped, brought}}

-- the step given: the desk, the cells, the open writes and the names are lent to it --

abbrev pub Lent : Type 0
Lent = MutBor Desk × (MutBor (List Cell) × (MutBor (List Open) × (MutBor (List Name) × Unit {0})))

abbrev pub Made : Type 0
Made = Result Answer Refusal

abbrev pub Given : Type 0 → Type 1
Given F = Once F Lent (Made × Lent)

-- it may be called with desk d and the arrays of the table
abbrev pub Takes : {F : Type 0} → Given F → F → Table → Desk → Type 0
Takes g f t d =
    (z : MutBor Desk) (a : MutBor (List Cell)) (b : MutBor (List Open)) (c : MutBor (List Name)) → z.now ≡ d → a.now ≡ t.cells → b.now ≡ t.opens → c.now ≡ no_names
    → g.pre f (z, (a, (b, (c, tt))))

-- so called, it may give this and leave these
pub record Gives {F : Type 0} (g : Given F) (f : F) (t : Table) (d : Desk) (r : Made) (d' : Desk) (cs : List Cell) (os : List Open) (names : List Name) : Type 0 where
  pub desk : MutBor Desk
  pub cells : MutBor (List Cell)
  pub opens : MutBor (List Open)
  pub beside : MutBor (List Name)
  pub shows : (desk.now ≡ d) × (cells.now ≡ t.cells) × (opens.now ≡ t.opens) × (beside.now ≡ no_names)
  pub desk_left : MutBor Desk
  pub cells_left : MutBor (List Cell)
  pub opens_left : MutBor (List Open)
  pub beside_left : MutBor (List Name)
  pub leaves : (desk_left.now ≡ d') × (cells_left.now ≡ cs) × (opens_left.now ≡ os) × (beside_left.now ≡ names)
  pub met : g.post f (desk, (cells, (opens, (beside, tt)))) (r, (desk_left, (cells_left, (opens_left, (beside_left, tt)))))

-- what is handed back --

abbrev pub broken_delivered : Table → Delivered
broken_delivered t = record { table = t; answer = Refused Broken; names = no_names }

-- the desk stands where it stood
abbrev pub table_left : Table → ℕ → Desk → List Cell → List Open → Table
table_left t i d cs os = table_of t.core.n t.core.m (set t.core.desks (seat_of i) d) cs os

pub record Outcome {F : Type 0} (g : Given F) (f : F) (t : Table) (i : ℕ) (r : Delivered) : Type 0 where
  pub desk : Desk
  pub here : get_or t.core.desks (seat_of i) desk0 ≡ desk
  pub placed : Placed t (owns t.core.desks) i desk
  pub made : Made
  pub left : Desk
  pub cells : List Cell
  pub opens : List Open
  pub names : List Name
  pub gives : Gives g f t desk made left cells opens names
  pub is : r ≡ record { table = table_left t i left cells opens; answer = answer_in made; names = names }

abbrev pub Acted : {F : Type 0} → Given F → F → Table → ℕ → Delivered → Type 0
Acted g f t i r = ((SoundTable t → ⊥) × (r ≡ broken_delivered t)) ⊎ Outcome g f t i r

-- a step's desk, stored where it stood
module _ {t : Table} {i : ℕ} {d : Desk} (p : Placed t (owns t.core.desks) i d) (here : get_or t.core.desks (seat_of i) desk0 ≡ d) where
  left-is : {d' : Desk} {cs : List Cell} {os : List Open} {answer : machine.Answer} (a : Step) → actor a ≡ i → Stepped t i d a d' cs os answer
      → table_left t i d' cs os ≡ table_after t.core i d' cs os
  left-is {d'} {cs} {os} a who s =
      ap (λ (ds : List Desk). table_of t.core.n t.core.m ds cs os)
      (put_seat t.core.n t.core.desks i d d' (few-desks p.sound) here (outside_keeps a who s))

-- the same promise of equal parts
module _ {cs cs₀ : List Cell} {d d₀ d' d₁ : Desk} {r z : Made} (e : r ≡ z) (da : d ≡ d₀) (dl : d' ≡ d₁) (ca : cs ≡ cs₀) where
  looks-same : {n m i : ℕ} {a : Step} → Looks n m cs i d a (turned d' z) → Looks n m cs₀ i d₀ a (turned d₁ r)
  looks-same w = rw (e, ← da, ← dl, ← ca) w

module _ {cs cs₀ cs' cs₁ : List Cell} {os os₀ os' os₁ : List Open} {d d₀ d' d₁ : Desk} {r z : Made}
    (e : r ≡ z) (da : d ≡ d₀) (dl : d' ≡ d₁) (ca : cs ≡ cs₀) where
  writes-same : {n m i : ℕ} {a : Step} → os ≡ os₀ → cs' ≡ cs₁ → os' ≡ os₁ → Writes n m cs os i d a (turned d' z) cs' os' → Writes n m cs₀ os₀ i d₀ a (turned d₁ r) cs₁ os₁
  writes-same oa c o w = rw (e, ← da, ← dl, ← ca, ← oa, ← c, ← o) w

  delivers-same : {n i u k : ℕ} {own : List ℕ} {names names₀ names' names₁ : List Name} → os ≡ os₀ → names ≡ names₀ → cs' ≡ cs₁ → os' ≡ os₁ → names' ≡ names₁
      → Delivers n d own cs os names i u k (turned d' z) cs' os' names' → Delivers n d₀ own cs₀ os₀ names₀ i u k (turned d₁ r) cs₁ os₁ names₁
  delivers-same oa na c o b w = rw (e, ← da, ← dl, ← ca, ← oa, ← na, ← c, ← o, ← b) w

-- what the step promises of the parts that it was lent, said of the table --

module _ {F : Type 0} {g : Given F} {f : F} {t : Table} {i : ℕ} {r : Delivered} (o : Acted g f t i r) where
  pub met_looked : (a : Step) → actor a ≡ i
      → ((d : Desk) (made : Made) (left : Desk) (cs : List Cell) (os : List Open) (names : List Name) (y : Gives g f t d made left cs os names)
      → (z : Made) × (made ≡ z) × (d' : Desk) × (y.desk_left.now ≡ d') × (y.cells_left.now ≡ y.cells.now) × (y.opens_left.now ≡ y.opens.now) × Looks t.core.n t.core.m y.cells.now i y.desk.now a (turned d' z))
      → Met t a r.table (answer_of r.answer [])
  met_looked a who h = after o
    where
      after : Acted g f t i r → Met t a r.table (answer_of r.answer [])
      after (inl (off, e)) = rw e (met_unsound off)
      after (inr x) =
          let y = x.gives in
          let l = h x.desk x.made x.left x.cells x.opens x.names y in
          let c : x.cells ≡ t.cells = sym y.leaves.1 ∙ l.4 ∙ y.shows.1 in
          let p : x.opens ≡ t.opens = sym y.leaves.2 ∙ l.5 ∙ y.shows.2 in
          let k : Looks t.core.n t.core.m t.cells i x.desk a (turned x.left x.made) = looks-same l.1 y.shows.0 (sym l.3 ∙ y.leaves.0) y.shows.1 l.6 in
          let s = k t.core.desks t.opens _ x.placed in
          rw (x.is, c, p, left-is x.placed x.here a who s) (met-stepped x.placed s)

  pub met_written : (a : Step) → actor a ≡ i
      → ((d : Desk) (made : Made) (left : Desk) (cs : List Cell) (os : List Open) (names : List Name) (y : Gives g f t d made left cs os names)
      → (z : Made) × (made ≡ z) × (d' : Desk) × (cs' : List Cell) × (os' : List Open) × (names' : List Name) × (y.desk_left.now ≡ d') × (y.cells_left.now ≡ cs') × (y.opens_left.now ≡ os') × (y.beside_left.now ≡ names') × Writes t.core.n t.core.m y.cells.now y.opens.now i y.desk.now a (turned d' z) cs' os')
      → Met t a r.table (answer_of r.answer [])
  met_written a who h = after o
    where
      after : Acted g f t i r → Met t a r.table (answer_of r.answer [])
      after (inl (off, e)) = rw e (met_unsound off)
      after (inr x) =
          let y = x.gives in
          let l = h x.desk x.made x.left x.cells x.opens x.names y in
          let k = writes-same l.1 y.shows.0 (sym l.6 ∙ y.leaves.0) y.shows.1 y.shows.2 (sym l.7 ∙ y.leaves.1) (sym l.8 ∙ y.leaves.2) l.10 in
          let s = k t.core.desks _ x.placed in
          rw (x.is, left-is x.placed x.here a who s) (met-stepped x.placed s)

  pub brought_acted : {u k : ℕ}
      → ((d : Desk) (made : Made) (left : Desk) (cs : List Cell) (os : List Open) (names : List Name) (y : Gives g f t d made left cs os names)
      → (z : Made) × (made ≡ z) × (d' : Desk) × (cs' : List Cell) × (os' : List Open) × (names' : List Name) × (y.desk_left.now ≡ d') × (y.cells_left.now ≡ cs') × (y.opens_left.now ≡ os') × (y.beside_left.now ≡ names') × Delivers t.core.n y.desk.now (owns t.core.desks) y.cells.now y.opens.now y.beside.now i u k (turned d' z) cs' os' names')
      → Brought t i u k r.table r.answer r.names
  brought_acted {u} {k} h = after o
    where
      after : Acted g f t i r → Brought t i u k r.table r.answer r.names
      after (inl (off, e)) = rw e (brought_unsound off)
      after (inr x) =
          let y = x.gives in
          let l = h x.desk x.made x.left x.cells x.opens x.names y in
          let w = delivers-same l.1 y.shows.0 (sym l.6 ∙ y.leaves.0) y.shows.1 y.shows.2 y.shows.3 (sym l.7 ∙ y.leaves.1) (sym l.8 ∙ y.leaves.2) (sym l.9 ∙ y.leaves.3) l.10 in
          let s = w t.core.m t.core.desks x.placed in
          rw (x.is, left-is x.placed x.here (Deliver i u k) refl s.stepped) (brought x.placed s)

module _ {t : Table} {own : List ℕ} {i : ℕ} {d : Desk} (p : Placed t own i d) where
  pub part_of_look : {e : Desk} {cs : List Cell} → e ≡ d → cs ≡ t.cells → SomeLook t.core.n t.core.m cs i e
  part_of_look q e = rw (q, e) (record { desks = t.core.desks; opens = t.opens; own = own; placed = p })

  pub part_of_write : {e : Desk} {cs : List Cell} {os : List Open} → e ≡ d → cs ≡ t.cells → os ≡ t.opens → SomeTable t.core.n t.core.m cs os i e
  part_of_write q e f = rw (q, e, f) (record { desks = t.core.desks; own = own; placed = p })

  pub part_of_delivery : {e : Desk} {cs : List Cell} {os : List Open} → e ≡ d → cs ≡ t.cells → os ≡ t.opens → Part t.core.n e own cs os i
  part_of_delivery q e f = rw (q, e, f) (t.core.m, t.core.desks, p)
