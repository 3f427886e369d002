-- The test tells of the rules.
use Rattle.std.specs.Prelude.{ℕ, ◌≤◌}
use mathlib.Core.{Path.{◌≡◌, refl, sym, ap, ◌∙◌}, Bool.{true, not}, Option.{Option, none, some}}
use Rattle.std.proofs.Common.{arith}
use Rattle.laws.specs.{Update.{same_or}, Says.{Says, says_as, clash}}
use Rattle.machine.specs.{Table.{most_desks, most_writes, Vec, Cell, blank, set, done, Open, State, written}, Steps.{is_none}}
use Rattle.machine.specs.{Rules.{In, Flat, Below, SetCell, ToBeOpen, OpenWrite, Rules}, RulesTest.{count_at_test, desk_at_test, below_at_test}}
use Rattle.machine.specs.RulesTest.{cell_rules, lacking, mark_at_test, write_at_test, open_rules, kept, keeps, ZeroPast}

-- what is above 0 only where P holds keeps a bound that P gives
bounded : {P : Type 0} (a b : ℕ) → (1 ≤ a → P) → (P → a ≤ b) → a ≤ b
bounded a b f g = same_or a 0 (λ e. omega arith) (λ e. g (f (omega arith)))

-- at every desk's place, so at all
below_all : (v w : Vec) → Flat most_desks v → (below_at_test v w).holds → Below v w
below_all v w f h t = bounded (v t) (w t) (f t) (λ i. h t i.0 i.1)

module _ (s : State) (z : ZeroPast s) (h : (kept s).holds) where
  at-desk : (i : ℕ) → In s.setup.desks i → (desk_at_test s i).holds
  at-desk i g = h.1.0 i g.0 g.1

  at_count : (i t : ℕ) → In s.setup.desks i × In most_desks t → (count_at_test s i t).holds
  at_count i t g = (at-desk i g.0).1.1 t g.1.0 g.1.1

  to-most : (i t : ℕ) → s.applied i t ≤ written s t
  to-most i t = bounded (s.applied i t) (written s t) (z.counts i t) (λ g. (at_count i t g).1.0)

  to-clock : (i t : ℕ) → s.clock i t ≤ s.applied i t
  to-clock i t = bounded (s.clock i t) (s.applied i t) (z.clocks i t) (λ g. (at_count i t g).1.1)

  to_cell : (i x v u : ℕ) (w : Vec) → s.cell i x ≡ set v u w → SetCell s i x v u w
  to_cell i x v u w e =
      let g = z.cell i x v u w e in
      let c : (cell_rules s i (set v u w)).holds = rw e at (h.1.1.0 i g.0.0 g.0.1 x g.1.0.0 g.1.0.1) in
      let b = below_all w (s.applied i) g.1.1 c.1.1.1 in
      record {
        desk = g.0;
        cell = g.1.0;
        status_in = c.0;
        writer_in = c.1.0;
        below = b;
        first = c.1.1.0;
        issued = λ t. omega (arith, b t, to-most i t);
      }

  -- an open write
  module _ (u k : ℕ) (w : Open) (e : s.opens u k ≡ some w) where
    g : In s.setup.desks u × (In (written s u) k × (Flat most_desks w.vector × Flat most_desks w.marks))
    g = z.opens u k w e

    at_open : (lacking s u k).holds × (write_at_test s u k w).holds
    at_open = rw e at (h.1.1.1 u g.0.0 g.0.1 k g.1.0.0 g.1.0.1)

    at_mark : (i : ℕ) → In most_desks i → (mark_at_test s u k w i).holds
    at_mark i l = at_open.1.1.1.1.1 i l.0 l.1

    -- a desk with a mark
    marked_in : (i : ℕ) → 1 ≤ w.marks i → (mark_at_test s u k w i).holds
    marked_in i l = at_mark i (g.1.1.1 i l)

    to_write : OpenWrite s u k w
    to_write =
        let a = at_open.1 in
        let f = g.1.1 in
        record {
          cell = a.0;
          status_in = a.1.0;
          number = a.1.1.0;
          issued = below_all w.vector (written s) f.0 a.1.1.1.0;
          marks_in = λ i. bounded (w.marks i) done (λ l. l) (λ l. (marked_in i l).0);
          marks_flat = λ i l. ((f.1 i l).0, (marked_in i l).1.0 l);
          marked = λ i l. (at_mark i (l.0, omega (arith, h.0.0.1, l.1))).1.1.0 l.1;
          below = λ i q. below_all w.vector (s.applied i) f.0 ((marked_in i (omega arith)).1.1.1.0 q);
        }

  to_open : (u k : ℕ) (o : Option Open) → s.opens u k ≡ o → not (is_none o) ≡ true → ToBeOpen s u k
  to_open u k none e t = clash t
  to_open u k (some w) e t = record { writer = (g u k w e).0; number = (g u k w e).1.0; lacks = (at_open u k w e).0 }

  from_open : (u k : ℕ) → ToBeOpen s u k → (o : Option Open) → (open_rules s u k o).holds → not (is_none o) ≡ true
  from_open u k t none f = absurd (f t.lacks)
  from_open u k t (some w) f = refl

  pub to-rules : Rules s
  to-rules =
      record {
        frame = record {
          ranges = record {
            desks = h.0.0;
            cells = h.0.1.0;
            written = λ u. bounded (written s u) most_writes (z.counts u u) (λ g. (at-desk u g.0).0);
            few = h.0.1.1;
          };
          counts = record { inside = λ i t l. (let g = z.counts i t l in (g.0, (g.1.0, (at_count i t g).0 l))); most = to-most };
          clocks = record {
            below = to-clock;
            own = λ i. same_or (s.applied i i) 0
                (λ e. omega (arith, to-clock i i))
                (λ e. (at-desk i (z.counts i i (omega arith)).0).1.0);
          };
          cell = to_cell;
          open-exactly = λ u k. (
            to_open u k (s.opens u k) refl,
            λ t. from_open u k t (s.opens u k) (h.1.1.1 u t.writer.0 t.writer.1 k t.number.0 t.number.1),
          );
          open-write = to_write;
        };
        quiet = λ i u k w e q. (marked_in u k w e i (omega arith)).1.1.1.1 q;
      }

module _ (s : State) (r : Rules s) where
  from_cell : (i x : ℕ) (c : Cell) → s.cell i x ≡ c → (cell_rules s i c).holds
  from_cell i x blank e = tt
  from_cell i x (set v u w) e = let h = r.frame.cell i x v u w e in (h.status_in, (h.writer_in, (h.first, λ t _ _. h.below t)))

  from-write : (u k : ℕ) (o : Option Open) → s.opens u k ≡ o → In s.setup.desks u → In (written s u) k → (open_rules s u k o).holds
  from-write u k none e a b =
      λ l. clash (sym (ap (λ (o : Option Open). not (is_none o)) e) ∙ (r.frame.open-exactly u k).1 (record { writer = a; number = b; lacks = l }))
  from-write u k (some w) e a b =
      let h = r.frame.open-write u k w e in
      let marks : (i : ℕ) → 1 ≤ i → i ≤ most_desks → (mark_at_test s u k w i).holds =
      (λ i l _. (h.marks_in i, (λ g. (h.marks_flat i g).1, (λ g. h.marked i (l, g), (λ q t _ _. h.below i q t, r.quiet i u k w e))))) in (
        ((r.frame.open-exactly u k).0 (ap (λ (o : Option Open). not (is_none o)) e)).lacks,
        (h.cell, (h.status_in, (h.number, (λ t _ _. h.issued t, marks)))),
      )

  pub from-rules : (kept s).holds
  from-rules =
      let f = r.frame in
      let count : (i t : ℕ) → (count_at_test s i t).holds = (λ i t. (λ g. (f.counts.inside i t g).1.1, (f.counts.most i t, f.clocks.below i t))) in
      let desk : (i : ℕ) → (desk_at_test s i).holds = (λ i. (f.ranges.written i, (f.clocks.own i, λ t _ _. count i t))) in (
        (f.ranges.desks, (f.ranges.cells, f.ranges.few)),
        (λ i _ _. desk i, (λ i _ _ x _ _. from_cell i x (s.cell i x) refl, λ u a b k c d. from-write u k (s.opens u k) refl (a, b) (c, d))),
      )

-- of a table that was read
pub says-rules : (s : State) → ZeroPast s → Says (keeps s) (Rules s)
unfolding keeps
says-rules s z = says_as (keeps s) (kept s).says (to-rules s z) (from-rules s)
