-- A table value that passes the test keeps the rules.
use Rattle.std.specs.Prelude.{◌+◌, ◌*◌, ◌<◌, ◌≤◌, ◌/◌, ◌%◌, ◌≡◌}
use Rattle.laws.specs.Kit.{ℕ, zero, suc, refl, sym, ap, ◌∙◌, List, Option, none, some, Bool, true, false}
use Rattle.laws.specs.{Kit.{not, arith, ltb-true, ltb-false, leb-true, leb-false, eqb-true, eqb-false, get_or, eqb, leb, ltb}, Loop.{cases}}
use Rattle.laws.specs.{Tab.{get_or-tab}, Says.{all-not, apart}}
use Rattle.machine.specs.Table.{most_desks, most_cells, most_writes, Vec, Cell, blank, set, done, State, written}
use Rattle.machine.specs.{Steps.{is_none, everywhere, ready}, Rules.{In, Flat, Lacks}, RulesTest.{ZeroPast}}
use Rattle.machine.proofs.RulesTestTells.{to-rules}
use Rattle.machine.specs.Table as machine
use Rattle.table.specs.declared.Cell as code
use Rattle.machine.specs.RulesTest as keeps
use Rattle.clock.specs.{Vectors.{places, place}, Readiness.{ready_at, ready-narrow}}
use Rattle.table.specs.{declared.Desk.{Desk}, declared.Open.{Open}, declared.Table.{Table}, Value.{desk0, desk_cells, all_cells, entries}}
use Rattle.table.specs.{Value.{cell_at, open_at, is_free}, TypeShape.{DesksShape, EachFull}}
use Rattle.table.specs.{EntryNames.{entry_number, named_at, named-is}, Model.{applied_m, clock_m, open_m, model_of}, Link.OpensModel.{Unique}}
use Rattle.table.specs.Sound.{AllZero, SoundTable}
use Rattle.rules.specs.Mirror.Test.{owns, has, gap_at, gaps, ranges_test, due_test, last_test, used_test, entry_test, all_entries_test}
use Rattle.rules.specs.Mirror.Test.{counts_test, cell_test, all_cells_test, mark_test, all_marks, all_desks_test, own_test, keeps_test}
use Rattle.rules.specs.{Link.FewEntries.{few}, Link.Gap.{gap_above}, Link.ArrayLimits.{flat-place, zero-all, applied_in, clock_in}}
use Rattle.rules.specs.Link.ArrayLimits.{own_is, set-each, open-each}

-- the test's numbers within the arrays
abbrev pub Fit : List Desk → Type 0
Fit ds = (t : ℕ) → place (owns ds) t ≤ most_writes

abbrev is_some : Option machine.Open → Bool
is_some o = not (is_none o)

module _ (whole : Table) (shape : EachFull whole) (fit : Fit whole.core.desks) (ok : (keeps_test whole).holds) where
  abbrev sh : DesksShape whole.core.desks
  sh = shape.desks

  abbrev n : ℕ
  n = whole.core.n

  abbrev m : ℕ
  m = whole.core.m

  abbrev ds : List Desk
  ds = whole.core.desks

  abbrev cs : List code.Cell
  cs = whole.cells

  abbrev os : List Open
  os = whole.opens

  abbrev s : State
  s = model_of whole

  -- what each part of the test says
  sizes_in : In most_desks n × In most_cells m
  unfolding own_test
  sizes_in = ok.0

  entry_of : (e : ℕ) → e < entries → is_free (open_at os e) ≡ false
      → let o = open_at os e in (ranges_test n m o).holds × ((due_test n (owns ds) o).holds × (last_test os o.writer (entry_number o) e).holds)
  unfolding own_test all_entries_test entry_test used_test
  entry_of e b f = ok.1.0 e b f

  counts_of : (i : ℕ) → i < places → (counts_test n (owns ds) (gaps (owns ds) os) i (get_or ds i desk0)).holds
  unfolding own_test all_desks_test
  counts_of i b = (ok.1.1 i b).0

  cell_of_lem : (i x : ℕ) → i < places → x < desk_cells → (cell_test m (get_or ds i desk0).applied x (cell_at cs (i * desk_cells + x))).holds
  unfolding own_test all_desks_test all_cells_test
  cell_of_lem i x b = (ok.1.1 i b).1.0 x

  mark_of : (i e : ℕ) → i < places → e < entries → (mark_test n (get_or ds i desk0).applied i (open_at os e)).holds
  unfolding own_test all_desks_test all_marks
  mark_of i e b = (ok.1.1 i b).1.1 e

  counts_in : (i t : ℕ) → 1 ≤ s.applied i t → In n i × In places t
  unfolding applied_m
  counts_in i t h = let b = applied_in ds sh i t h in (go i b h, b.1)
    where
      go : (i : ℕ) → In places i × In places t → 1 ≤ applied_m ds i t → In n i
      go zero b h = absurd (omega (arith, b.0.0))
      go (suc i) b h =
          cases (ltb i n)
          (λ q. (omega arith, ltb-true i n q))
          (λ q. absurd (omega (arith, (counts_of i b.0.1).1.1.1.1 (λ z. (omega (arith, ltb-false i n q))) t b.1.0 b.1.1)))

  clocks_in : (i t : ℕ) → 1 ≤ s.clock i t → In n i × In places t
  unfolding applied_m clock_m
  clocks_in i t h = counts_in i t (go i (clock_in ds sh i t h) h)
    where
      go : (i : ℕ) → In places i × In places t → 1 ≤ clock_m ds i t → 1 ≤ applied_m ds i t
      go zero b h = absurd (omega (arith, b.0.0))
      go (suc i) b h = omega (arith, (counts_of i b.0.1).1.0 t b.1.0 b.1.1)

  -- the cells
  abbrev SetSaid : ℕ → ℕ → ℕ → ℕ → Vec → Type 0
  SetSaid i x v u w = In n i × (In m x × (Flat most_desks w × (keeps.cell_rules s i (set v u w)).holds))

  row_good : (i x : ℕ) → i < places → x < desk_cells → ((cell_at cs (i * desk_cells + x)).writer ≡ 0 → ⊥)
      → let c = cell_at cs (i * desk_cells + x) in SetSaid (suc i) (suc x) c.status c.writer (place c.vector)
  unfolding applied_m cell_test
  row_good i x hi hx is_set =
      let row = i * desk_cells + x in
      let u = (cell_at cs row).writer in
      let g = (cell_of_lem i x hi hx).1 is_set in
      let first = g.1.1.0 in
      let below = g.1.1.1 in
      let flat = flat-place (cell_at cs row).vector (shape.cells row (omega arith)).vector in
      let p = flat u first in
      let b = below u p.0 p.1 in
      let d = counts_in (suc i) u (omega (arith, first, b)) in
      let w = counts_in u u (omega (arith, first, b, own_is ds sh u, (counts_of i hi).0 u p.0 p.1)) in
      (d.0, ((omega arith, g.0), (flat, (g.1.0, (w.0, (first, below))))))

  set_good : (i x v u : ℕ) (w : Vec) → s.cell i x ≡ set v u w → SetSaid i x v u w
  set_good = set-each cs SetSaid row_good

  -- an open write
  module _ (e : ℕ) (h : e < entries) (f : is_free (open_at os e) ≡ false) where
    abbrev o : Open
    o = open_at os e

    flat : Flat places (place o.vector)
    flat = flat-place o.vector (shape.opens e h).vector

    first : 1 ≤ entry_number o
    first = (entry_of e h f).1.0.0

    issued : (t : ℕ) → 1 ≤ t → t ≤ places → place o.vector t ≤ written s t
    issued t a b = omega (arith, (entry_of e h f).1.0.1.0 t a b, own_is ds sh t)

    vector-flat : Flat n (place o.vector)
    vector-flat t l = let p = flat t l in (counts_in t t (omega (arith, issued t p.0 p.1))).0

    writer_in : In n o.writer
    writer_in = vector-flat o.writer first

    not-ready : (a : List ℕ) → ready_at a o.vector o.writer ≡ false → ready n (place a) o.writer (place o.vector) ≡ false
    not-ready a q = sym (ready-narrow n places (place a) o.writer (place o.vector) vector-flat writer_in.1 sizes_in.0.1) ∙ q

    mark_good : (i : ℕ) → 1 ≤ i → i ≤ places → (keeps.mark_at_test s o.writer (entry_number o) (open_m o) i).holds
    unfolding applied_m mark_test
    mark_good zero a b = absurd (omega arith)
    mark_good (suc i) a b =
        let k = mark_of i e b h f in
        let cnt = (get_or ds i desk0).applied in
        let p = get_or o.marks i 0 in
        cases (ltb i n)
        (λ l. let li : i < n = ltb-true i n l in
        cases (leb (entry_number o) (place cnt o.writer))
        (λ q. let y = leb-true (entry_number o) (place cnt o.writer) q in
        let z = (k.0 li).0 y in
        (omega (arith, z.0), (λ _. li, (λ _. (λ _. y, λ _. z.0), (λ _. z.1, λ r. absurd (omega (arith, z.0)))))))
        (λ q. let y = leb-false (entry_number o) (place cnt o.writer) q in
        cases (eqb p 0)
        (λ r. let z : p ≡ 0 = eqb-true p 0 r in
        (omega arith, (λ _. li, (λ _. (λ r. absurd (omega arith), λ r. absurd (omega arith)), (λ r. absurd (omega arith), λ r. absurd (omega arith))))))
        (λ r. let z = ((k.0 li).1 (λ r. (omega arith))).1 (eqb-false p 0 r) in
        (omega (arith, z.0), (λ _. li, (λ _. (λ r. absurd (omega (arith, z.0)), λ r. absurd (omega arith)), (λ r. absurd (omega (arith, z.0)), λ _. not-ready cnt z.1)))))))
        (λ l. let z = k.1 (λ r. (omega (arith, ltb-false i n l))) in
        let nl = ltb-false i n l in
        (omega (arith, z), (λ r. absurd (omega (arith, z)), (λ r. absurd (omega arith), (λ r. absurd (omega (arith, z)), λ r. absurd (omega (arith, z)))))))

    lacks_good : Lacks s o.writer (entry_number o)
    unfolding everywhere
    lacks_good =
        let r = all-not (λ t. eqb (place o.marks t) done) n 1 (entry_of e h f).1.0.1.1 in
        let z = ((mark_good r.0 r.1 (omega (arith, r.2, sizes_in.0.1))).1.1.0 (omega (arith, r.2))).1 in
        record {
          desk = r.0;
          desk_in = (r.1, omega (arith, r.2));
          lower = cases (ltb (s.applied r.0 o.writer) (entry_number o))
              (λ q. ltb-true _ _ q)
              (λ q. absurd (eqb-false (place o.marks r.0) done r.3 (z (ltb-false _ _ q))));
        }

    write_good : (keeps.write_at_test s o.writer (entry_number o) (open_m o)).holds
    write_good = let g = (entry_of e h f).0.1 in (g.0, (g.1, (refl, (issued, mark_good))))

    number_in : In (written s o.writer) (entry_number o)
    number_in = let p = flat o.writer first in (first, issued o.writer p.0 p.1)

  abbrev OpenSaid : ℕ → ℕ → machine.Open → Type 0
  OpenSaid u k w =
      (In n u × (In (written s u) k × (Flat most_desks w.vector × Flat most_desks w.marks))) × (Lacks s u k × (keeps.write_at_test s u k w).holds)

  opens_good : (u k : ℕ) (w : machine.Open) → s.opens u k ≡ some w → OpenSaid u k w
  opens_good =
      open-each os OpenSaid
      (λ e h f. (
        (writer_in e h f, (number_in e h f, (flat e h f, flat-place (open_at os e).marks (shape.opens e h).marks))),
        (lacks_good e h f, write_good e h f),
      ))

  -- none is missing
  gap_least : (u k : ℕ) → In places u → k ≤ written s u → has os u k ≡ false → k ≤ place (gaps (owns ds) os) u
  unfolding gaps
  gap_least zero k hu hk q = absurd (omega (arith, hu.0))
  gap_least (suc t) k hu hk q =
      let v : place (gaps (owns ds) os) (suc t) ≡ gap_at (owns ds) os t = get_or-tab (gap_at (owns ds) os) places t 0 hu.1 in
      cases (ltb (gap_at (owns ds) os t) k)
      (λ l. apart (has os (suc t) k) (gap_above (has os (suc t)) (get_or (owns ds) t 0) k (ltb-true (gap_at (owns ds) os t) k l) (omega (arith, own_is ds sh (suc t)))) q)
      (λ l. omega (arith, ltb-false (gap_at (owns ds) os t) k l))

  closed : (u k : ℕ) → In n u → k ≤ written s u → s.opens u k ≡ none → Lacks s u k → ⊥
  unfolding applied_m
  closed u k hu hk q l = go l.desk l.desk_in l.lower
    where
      go : (i : ℕ) → In n i → s.applied i u < k → ⊥
      go zero a b = omega (arith, a.0)
      go (suc i) a b =
          let p : u ≤ places = omega (arith, hu.1, sizes_in.0.1) in
          let z = gap_least u k (hu.0, p) hk (ap is_some q) in
          omega (arith, (counts_of i (omega (arith, a.1, sizes_in.0.1))).1.1.1.0 a.1 u hu.0 p)

  cell_good : (i x : ℕ) (c : Cell) → s.cell i x ≡ c → (keeps.cell_rules s i c).holds
  cell_good i x blank e = tt
  cell_good i x (set v u w) e = (set_good i x v u w e).1.1.1

  open-good : (u k : ℕ) (w : Option machine.Open) → s.opens u k ≡ w → In n u → k ≤ written s u → (keeps.open_rules s u k w).holds
  open-good u k none e hu hk = closed u k hu hk e
  open-good u k (some w) e hu hk = (opens_good u k w e).1

  desk_good : (i : ℕ) → 1 ≤ i → i ≤ n → (keeps.desk_at_test s i).holds
  unfolding applied_m clock_m
  desk_good zero a b = absurd (omega arith)
  desk_good (suc i) a b =
      let k = counts_of i (omega (arith, sizes_in.0.1)) in
      let most : (t : ℕ) → 1 ≤ t → t ≤ places → s.applied (suc i) t ≤ written s t =
      (λ t c d. omega (arith, k.0 t c d, own_is ds sh t)) in (
        omega (arith, fit (suc i), own_is ds sh (suc i)),
        (k.1.1.0, λ t c d. (λ l. (counts_in t t (omega (arith, most t c d))).0.1, (most t c d, k.1.0 t c d))),
      )

  zero_past : ZeroPast s
  zero_past =
      record {
        counts = counts_in;
        clocks = clocks_in;
        cell = λ i x v u w e. (let r = set_good i x v u w e in (r.0, (r.1.0, r.1.1.0)));
        opens = λ u k w e. (opens_good u k w e).0;
      }

  once : Unique os
  once e j he hj ne u k te tj =
      cases (ltb e j)
      (λ l. meet e j he hj (ltb-true e j l) te tj)
      (λ l. let b = ltb-false e j l in meet j e hj he (omega arith) tj te)
    where
      meet : (e j : ℕ) → e < entries → j < entries → e < j → named_at os u k e ≡ true → named_at os u k j ≡ true → ⊥
      meet e j he hj l te tj =
          let a = named-is (open_at os e) u k te in
          let z : named_at os u k j ≡ false = rw (a.2, a.1) at ((entry_of e he a.0).1.1 j l hj) in
          apart (named_at os u k j) tj z

  unset : (r : ℕ) → r < all_cells → (cell_at cs r).writer ≡ 0 → AllZero (cell_at cs r)
  unfolding cell_test
  unset r h q =
      let i = r / desk_cells in
      let x = r % desk_cells in
      let e : i * desk_cells + x ≡ r = omega arith in
      let z = rw e at (cell_of_lem i x (omega arith) (omega arith)).0 q in
      record { status = z.0; vector = zero-all (cell_at cs r).vector (shape.cells r h).vector z.1 }

  pub to-sound : SoundTable whole
  to-sound =
      record {
        rules = to-rules s zero_past (
          (sizes_in.0, (sizes_in.1, few whole)),
          (desk_good, (λ i _ _ x _ _. cell_good i x (s.cell i x) refl, λ u a b k _ d. open-good u k (s.opens u k) refl (a, b) d)),
        );
        blanks = unset;
        unique = once;
      }
