-- A write is received: held or applied, on the values as in the machine.
use Rattle.std.specs.Prelude.{◌-◌, ◌<◌, ◌≡◌}
use Rattle.std.specs.Prelude as std
use Rattle.laws.specs.{Kit.{ℕ, suc, refl, sym, ap, subst, ◌∙◌, List, map, true, Option, some, arith, sets}, Update.{upd_same}}
use Rattle.clock.specs.{Vectors.{places, place}, Readiness.{ready_at, failing-narrow}}
use Rattle.machine.specs.Table as machine
use Rattle.machine.specs.{Table.{State, Name as MachineName, most_open, away, held}, Answer.{applies}, Steps.{Out, Settled, failing, hold}}
use Rattle.machine.specs.Steps.{deliver_by, with_opens}
use Rattle.machine.specs.Rules.{In}
use Rattle.machine.proofs.Ready.{is-none, not-applied}
use Rattle.machine.proofs.RulesKept.{ReadyAt, ready-next}
use Rattle.machine.proofs.Apply.{to_be_open}
use Rattle.reply.specs.{declared.Name.{Name}, Unique.{name_for}, declared.Answer.{Answer}, declared.Answer.TheVariants.{Held, Applied}, Meaning.{answer_of, Counted}}
use Rattle.table.specs.{declared.Cell.{Cell}, declared.Desk.{Desk}, declared.Open.{Open}, Value.{all_cells, cell_at, entries, open_at, put_mark}, EntryNames.{named_at}}
use Rattle.table.specs.{Model.{open_m, opens_m}, Link.OpensModel.{Unique, opens_at, opens-mark, unique-mark}, Sound.{AllZero}}
use Rattle.steps.specs.{Turn.{Turn}, Stepped.{names_beside}, Link.Cascade.{midst, Running, NextReady, CascadeDoes, from}}
use Rattle.steps.specs.Link.Cascade.{in_places, small_n, narrow, flat, here}

-- entry e holds u.k, which desk i has not received
pub record Arrival (b : State) (n i u k e : ℕ) (a own : List ℕ) (cs : List Cell) (os : List Open) : Type 0 where
  pub running : Running b n i a own cs os
  pub small : e < entries
  pub named : named_at os u k e ≡ true
  pub is_away : place (open_at os e).marks i ≡ away

-- the answer to a write that is not ready: the name that `failing` gives
pub record Waits (a v : List ℕ) (u : ℕ) (r : Answer) : Type 0 where
  pub what : MachineName
  pub named : failing places (place a) u (place v) ≡ some what
  pub is : r ≡ Held (name_for what)

-- whether there is one
abbrev pub MissingOf : List ℕ → List ℕ → ℕ → std.Option Name → Type 0
MissingOf a v u (std.Some w) = Waits a v u (Held w)
MissingOf a v u std.None = ready_at a v u ≡ true

module _ (a v : List ℕ) (u : ℕ) (r : std.Option Name) (h : MissingOf a v u r) where
  pub missing-some : {w : Name} → r ≡ std.Some w → Waits a v u (Held w)
  missing-some e = rw e at h

  pub missing-none : r ≡ std.None → ready_at a v u ≡ true
  missing-none e = rw e at h

-- what the machine does with it
abbrev pub effect : State → ℕ → ℕ → ℕ → machine.Open → Out
effect s i u k w = deliver_by s i u k w (failing s.setup.desks (s.applied i) u w.vector)

pub record ReceivesAs (b : State) (n i u k e : ℕ) (d : Desk) (cs : List Cell) (os : List Open) (names : List Name) (r : Turn) (cs' : List Cell) (os' : List Open) (names' : List Name) : Type 0 where
  pub answer_is : answer_of r.answer names' ≡ (effect (midst b i d.applied cs os) i u k (open_m (open_at os e))).answer
  pub state_is : midst b i r.desk.applied cs' os' ≡ (effect (midst b i d.applied cs os) i u k (open_m (open_at os e))).state
  pub clock_is : r.desk.clock ≡ d.clock
  pub blanks : (s : ℕ) → s < all_cells → (cell_at cs' s).writer ≡ 0 → AllZero (cell_at cs' s)
  pub unique : Unique os'
  pub names_are : names' ≡ sets names 0 (names_beside (effect (midst b i d.applied cs os) i u k (open_m (open_at os e))).answer)
  pub counted : Counted r.answer

abbrev pub Arriving : (n i u e : ℕ) (a own : List ℕ) (cs : List Cell) (os : List Open) → Type 0
Arriving n i u e a own cs os = (b : State) × (k : ℕ) × Arrival b n i u k e a own cs os

abbrev pub ReceivedAs : (n i u e : ℕ) (d : Desk) (own : List ℕ) (cs : List Cell) (os : List Open) (names : List Name) (r : Turn) (cs' : List Cell) (os' : List Open) (names' : List Name) → Type 0
ReceivedAs n i u e d own cs os names r cs' os' names' =
    (b : State) (k : ℕ) → Arrival b n i u k e d.applied own cs os → ReceivesAs b n i u k e d cs os names r cs' os' names'

-- the desk with other counts
abbrev pub with_counts : Desk → List ℕ → Desk
with_counts d a = record { applied = a; clock = d.clock }

module _ {b : State} {n i u k e : ℕ} {a own : List ℕ} {cs : List Cell} {os : List Open} (r : Arrival b n i u k e a own cs os) where
  abbrev s : State
  s = midst b i a cs os

  abbrev w : machine.Open
  w = open_m (open_at os e)

  pub stands_open : opens_m os u k ≡ some w
  stands_open = opens_at os e u k r.running.unique r.small r.named

  pub writer_in : In n u
  writer_in = rw r.running.count at (to_be_open r.running.mid.frame u k stands_open).writer

  -- ready --

  ready-here : ready_at a (open_at os e).vector u ≡ true → ReadyAt s i u k w
  ready-here h = record {
    desk = rw r.running.count r.running.desk;
    is = stands_open;
    ready = rw (r.running.count, upd_same b.applied i (place a)) (sym (narrow r.running u k w writer_in stands_open) ∙ h);
  }

  next-is : ready_at a (open_at os e).vector u ≡ true → suc (s.applied i u) ≡ k
  next-is h = (ready-next r.running.mid.frame (ready-here h)).next

  pub next_of_arrival : ready_at a (open_at os e).vector u ≡ true → NextReady n a os u e
  next_of_arrival h = record {
    small = r.small;
    holds = subst (λ (x : ℕ). named_at os u x e ≡ true) (sym (sym (ap suc (here r.running u)) ∙ next-is h)) r.named;
    is_ready = sym (narrow r.running u k w writer_in stands_open) ∙ h;
  }

  effect-ready : ready_at a (open_at os e).vector u ≡ true
      → effect s i u k w ≡ (let q : Settled = from most_open s i u w in record { answer = applies q.names; state = q.state })
  effect-ready h = let z = is-none (failing b.setup.desks (s.applied i) u w.vector) (ready-here h).ready in rw (z, ← next-is h)

  -- not ready --

  -- its own number is above the count
  pub late_here : place a u < place (open_at os e).vector u
  late_here = rw (upd_same b.applied i (place a)) at (not-applied (r.running.mid.frame.open-write u k w stands_open) i (rw r.running.count r.running.desk) (λ d. omega (arith, r.is_away)))

  failing-here : (z : MachineName) → failing places (place a) u (place (open_at os e).vector) ≡ some z
      → failing b.setup.desks (s.applied i) u w.vector ≡ some z
  failing-here z f =
      rw (r.running.count, upd_same b.applied i (place a))
      (sym (failing-narrow n places (place a) u w.vector (flat r.running u k w stands_open) writer_in.1 (small_n r.running)) ∙ f)

-- it is applied, and the cascade runs
pub received-ready : {b : State} {n i u k e : ℕ} {own : List ℕ} {cs : List Cell} {os : List Open} {names : List Name} {a' : List ℕ} {cs' : List Cell} {os' : List Open} {names' : List Name} {len : ℕ} (d : Desk) → Arrival b n i u k e d.applied own cs os
    → ready_at d.applied (open_at os e).vector u ≡ true → CascadeDoes n i u e d.applied own cs os names a' len cs' os' names'
    → ReceivesAs b n i u k e d cs os names (record { desk = with_counts d a'; answer = Applied len }) cs' os' names'
received-ready {b} {n} {i} {u} {k} {e} {own} {cs} {os} {names} {len = len} d r h f =
    let t = f b r.running (next_of_arrival r h) in
    let x = effect-ready r h in
    let q = t.same in
    record {
      answer_is = sym (ap (λ (o : Out). o.answer) x ∙ ap (λ (z : Settled). applies z.names) q);
      state_is = sym (ap (λ (o : Out). o.state) x ∙ ap (λ (z : Settled). z.state) q);
      clock_is = refl;
      blanks = t.now.blanks;
      unique = t.now.unique;
      names_are = t.holds ∙ sym (ap (λ (o : Out). sets names 0 (names_beside o.answer)) x ∙ ap (λ (z : Settled). sets names 0 (map name_for z.names)) q);
      counted = λ c y. let z : len ≡ c = cc in omega (arith, t.few);
    }

-- it is held
pub received-held : {b : State} {n i u k e : ℕ} {own : List ℕ} {cs : List Cell} {os : List Open} {os' : List Open} (names : List Name) {x : Answer} (d : Desk) → Arrival b n i u k e d.applied own cs os
    → Waits d.applied (open_at os e).vector u x → os' ≡ put_mark os e (i - 1) held
    → ReceivesAs b n i u k e d cs os names (record { desk = d; answer = x }) cs os' names
received-held {b} {n} {i} {u} {k} {e} {own} {cs} {os} {os'} names {x} d r f p =
    record {
      answer_is = rw (z, f.is);
      state_is = rw z same;
      clock_is = refl;
      blanks = g.blanks;
      unique = rw p (unique-mark os e u k r.small g.opens_shape.count g.unique r.named i held (in_places g i g.desk));
      names_are = rw z;
      counted = λ c y. let q : Held (name_for f.what) ≡ Applied c = sym f.is ∙ y in let w : ◌≡◌ {A = ℕ} 0 1 = cc in absurd (omega arith);
    }
  where
    g : Running b n i d.applied own cs os
    g = r.running

    z : failing b.setup.desks ((midst b i d.applied cs os).applied i) u (place (open_at os e).vector) ≡ some f.what
    z = failing-here r f.what f.named

    same : midst b i d.applied cs os' ≡ hold (midst b i d.applied cs os) i u k (open_m (open_at os e))
    same =
        ap (λ (o : ℕ → ℕ → Option machine.Open). with_opens (midst b i d.applied cs os) o)
        (rw p (opens-mark os e u k r.small g.opens_shape.count g.unique r.named (g.opens_shape.each e r.small) i held (in_places g i g.desk)))
