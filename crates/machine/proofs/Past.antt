-- The causal order as it is computed is the causal order.
use Rattle.std.specs.Prelude.{◌≡◌, ◌↔◌, ◌&&◌, ◌||◌, ◌∷◌, ◌+◌, ◌≤◌, ◌<◌}
use Rattle.laws.specs.Kit.{refl, inl, inr, Bool, true, false, List, [], Memᴰ, Memᴰ-head}
use Rattle.laws.specs.Kit.{Memᴰ-tail, Memᴰ-not_nil, Memᴰ-cases_cons, Option, none, some, ℕ, zero, suc, arith}
use Rattle.laws.specs.{Kit.{ltb-true, lt-ltb, eqb-true, eq-eqb, eqb, ltb, length, get_elem?}, Ends.{at-inside}, Loop.{cases}, Says.{clash}}
use Rattle.laws.specs.Update.{same_or}
use Rattle.machine.specs.{Table.{most_desks, most_cells, Name, State, fresh}, Answer.{unset, shown}, History.{Event, read_at}}
use Rattle.machine.specs.History.{write_at, receive_at, apply_at, At, OpOf, a_read, a_write, Precedes, same_desk, shown_by, chained}
use Rattle.machine.specs.{History.{Act, history}, Past.{some_below, those, is_op_of, in_process_order, is_read_from, link_of, linked}}
use Rattle.machine.specs.Past.{before_by, before, writes_name, in_past, enables, X_co_safe, InPast, Enabling, enabling}
use Rattle.machine.specs.Demand3.{WriteAt}
use Rattle.machine.specs.Rules.{In, Rules}
use Rattle.machine.proofs.RulesKept.{fresh-rules}
use Rattle.machine.proofs.Order.{forward}
use Rattle.machine.proofs.StepsTraced.{observed_fresh}
use Rattle.machine.proofs.RunsTraced.{observed_run}
use Rattle.machine.proofs.Ready.{option_cases}

-- some number below n passes
below-some : (n : ℕ) (g : ℕ → Bool) → some_below n g ≡ true → (r : ℕ) × (g r ≡ true)
unfolding some_below
below-some zero g e = clash (cc)
below-some (suc n) g e = cases (g n) (λ t. (n, t)) (λ f. below-some n g (rw (f, some_below) at e))

some_below_lem : (n : ℕ) (g : ℕ → Bool) (r : ℕ) → r < n → g r ≡ true → some_below n g ≡ true
unfolding some_below
some_below_lem zero g r l e = absurd (omega arith)
some_below_lem (suc n) g r l e =
    same_or r n
    (λ q. let t : g n ≡ true = rw q at e in rw (t, some_below))
    (λ q. cases (g n) (λ t. rw (t, some_below)) (λ f. rw (f, some_below) (some_below_lem n g r (omega arith) e)))

-- One link --

both_true : (a b : Bool) → (a && b) ≡ true → (a ≡ true) × (b ≡ true)
both_true true b e = (refl, e)
both_true false b e = clash (cc)

data Linked (p q : ℕ) : Event → Event → Type 0 where
  by_desk : {i : ℕ} {e f : Event} → OpOf i e → OpOf i f → p < q → Linked p q e f
  by_read : {i u x v k : ℕ} → Linked p q (write_at u x v k) (read_at i x (shown v u k))

op_of : (i : ℕ) (f : Event) → is_op_of i f ≡ true → OpOf i f
op_of i (read_at j x v) e = rw (eqb-true j i e) a_read
op_of i (write_at j x v k) e = rw (eqb-true j i e) a_write
op_of i (receive_at j w) e = clash (cc)
op_of i (apply_at j w) e = clash (cc)

of_op : (i : ℕ) {f : Event} → OpOf i f → is_op_of i f ≡ true
of_op i a_read = eq-eqb i i refl
of_op i a_write = eq-eqb i i refl

in_order : (p q : ℕ) (e f : Event) → p < q → in_process_order e f ≡ true → Linked p q e f
in_order p q (read_at i x v) f l e = by_desk a_read (op_of i f e) l
in_order p q (write_at i x v k) f l e = by_desk a_write (op_of i f e) l
in_order p q (receive_at i w) f l e = clash (cc)
in_order p q (apply_at i w) f l e = clash (cc)

of_order : {i : ℕ} {e : Event} (f : Event) → OpOf i e → OpOf i f → in_process_order e f ≡ true
of_order {i} f a_read o = of_op i o
of_order {i} f a_write o = of_op i o

from-read : (p q : ℕ) (e f : Event) → is_read_from e f ≡ true → Linked p q e f
from-read p q (read_at i x v) f e = clash (cc)
from-read p q (receive_at i w) f e = clash (cc)
from-read p q (apply_at i w) f e = clash (cc)
from-read p q (write_at u x v k) (read_at i y unset) e = clash (cc (both_true (eqb y x) false e).1)
from-read p q (write_at u x v k) (read_at i y (shown v' u' k')) e =
    let a = both_true (eqb y x) _ e in
    let b = both_true (eqb v' v) _ a.1 in
    let c = both_true (eqb u' u) _ b.1 in
    rw (eqb-true y x a.0, eqb-true v' v b.0, eqb-true u' u c.0, eqb-true k' k c.1) by_read
from-read p q (write_at u x v k) (write_at i y w l) e = clash (cc)
from-read p q (write_at u x v k) (receive_at i w) e = clash (cc)
from-read p q (write_at u x v k) (apply_at i w) e = clash (cc)

of_read_from : (i u x v k : ℕ) → is_read_from (write_at u x v k) (read_at i x (shown v u k)) ≡ true
of_read_from i u x v k = rw (eq-eqb x x refl, eq-eqb v v refl, eq-eqb u u refl, eq-eqb k k refl)

link-either : (p q : ℕ) (e f : Event) → link_of p q (some e) (some f) ≡ true → Linked p q e f
link-either p q e f z =
    cases (ltb p q && in_process_order e f)
    (λ t. let r = both_true (ltb p q) (in_process_order e f) t in in_order p q e f (ltb-true p q r.0) r.1)
    (λ n. from-read p q e f (rw n at z))

of_either : {p q : ℕ} {e f : Event} → Linked p q e f → link_of p q (some e) (some f) ≡ true
of_either {p} {q} {f = f} (by_desk a b l) = rw (lt-ltb p q l, of_order f a b)
of_either {p} {q} (by_read {i} {u} {x} {v} {k}) =
    rw (of_read_from i u x v k) (elim (ltb p q && eqb i u) as (λ a. (a || true) ≡ true) [ true ↦ refl | false ↦ refl ])

module _ (h : List Event) where
  link_at : {R : Type 0} (p q : ℕ) → linked h p q ≡ true → ((e f : Event) → At h p e → At h q f → Linked p q e f → R) → R
  unfolding linked
  link_at p q z k =
      option_cases (get_elem? h p) (λ d. clash (rw d at z))
      (λ e d. option_cases (get_elem? h q) (λ g. clash (rw (d, g) at z)) (λ f g. k e f d g (link-either p q e f (rw (d, g) at z))))

  link-precedes : (p q : ℕ) → linked h p q ≡ true → Precedes h p q
  link-precedes p q z = link_at p q z (λ e f. by)
    where
      by : {e f : Event} → At h p e → At h q f → Linked p q e f → Precedes h p q
      by a b (by_desk x y l) = same_desk a b x y l
      by a b by_read = shown_by a b

  link_of_lem : {p q : ℕ} {e f : Event} → At h p e → At h q f → Linked p q e f → linked h p q ≡ true
  unfolding linked
  link_of_lem a b l = rw (a, b) (of_either l)

  -- a link ends inside the history
  link-inside : (p q : ℕ) → linked h p q ≡ true → q < length h
  link-inside p q z = link_at p q z (λ e f a b l. at-inside h q f b)

  -- Chains --

  -- at a place of a chain: the last link, or one link and the rest
  through : (f p q : ℕ) → ℕ → Bool
  through f p q r = elim (linked h p r) [ true ↦ before_by f h r q | false ↦ false ]

  through-both : (f p q r : ℕ) → through f p q r ≡ true → (linked h p r ≡ true) × (before_by f h r q ≡ true)
  unfolding through
  through-both f p q r z = cases (linked h p r) (λ t. (t, rw (t, through) at z)) (λ n. clash (rw (n, through) at z))

  of_through : (f p q r : ℕ) → linked h p r ≡ true → before_by f h r q ≡ true → through f p q r ≡ true
  unfolding through
  of_through f p q r t e = rw (t, through) e

  data Chain (f p q : ℕ) : Type 0 where
    last_link : linked h p q ≡ true → Chain f p q
    more_links : (r : ℕ) → linked h p r ≡ true → before_by f h r q ≡ true → Chain f p q

  chain : (f p q : ℕ) → before_by (suc f) h p q ≡ true → Chain f p q
  unfolding before_by through
  chain f p q z =
      cases (linked h p q) last_link
      (λ n. let r = below-some (length h) (through f p q) (rw (n, before_by) at z) in
      let b = through-both f p q r.0 r.1 in
      more_links r.0 b.0 b.1)

  of_chain : (f p q : ℕ) → Chain f p q → before_by (suc f) h p q ≡ true
  unfolding before_by through
  of_chain f p q (last_link t) = rw (t, before_by)
  of_chain f p q (more_links r t e) =
      cases (linked h p q) (λ z. rw (z, before_by))
      (λ n. rw (n, before_by) (some_below_lem (length h) (through f p q) r (link-inside p r t) (of_through f p q r t e)))

  before-precedes : (f p q : ℕ) → before_by f h p q ≡ true → Precedes h p q
  before-precedes zero p q z = unfold before_by in clash (cc)
  before-precedes (suc f) p q z = elim (chain f p q z) [
    | last_link t ↦ link-precedes p q t
    | more_links r t e ↦ chained (link-precedes p r t) (before-precedes f r q e)
  ]

  -- where causes come first, as many links as places are enough
  module _ (forward : (p q : ℕ) → Precedes h p q → p < q) where
    abbrev Reaches : ℕ → ℕ → Type 0
    Reaches p q = (f : ℕ) → q ≤ p + f → before_by f h p q ≡ true

    one_more : (p r q : ℕ) → linked h p r ≡ true → r < q → Reaches r q → Reaches p q
    one_more p r q t l e zero d = let z = forward p r (link-precedes p r t) in absurd (omega arith)
    one_more p r q t l e (suc f) d = let z = forward p r (link-precedes p r t) in of_chain f p q (more_links r t (e f (omega arith)))

    go_on : (f p q r : ℕ) → before_by f h p q ≡ true → q < r → Reaches q r → Reaches p r
    go_on zero p q r z l e = unfold before_by in clash (cc)
    go_on (suc f) p q r z l e = elim (chain f p q z) [
      | last_link t ↦ one_more p q r t l e
      | more_links s t b ↦ one_more p s r t (let z = forward s q (before-precedes f s q b) in omega arith) (go_on f s q r b l e)
    ]

    one_link : (p q : ℕ) → linked h p q ≡ true → Reaches p q
    one_link p q t zero d = let z = forward p q (link-precedes p q t) in absurd (omega arith)
    one_link p q t (suc f) d = of_chain f p q (last_link t)

    reaches : {p q : ℕ} → Precedes h p q → Reaches p q
    reaches {p} {q} (same_desk a b x y l) = one_link p q (link_of_lem a b (by_desk x y l))
    reaches {p} {q} (shown_by a b) = one_link p q (link_of_lem a b by_read)
    reaches {p} {q = r} (chained {q = q} c d) =
        let y = forward p q c in
        go_on q p q r (reaches c q (omega arith)) (forward q r d) (reaches d)

    inside : {p q : ℕ} → Precedes h p q → q < length h
    inside {q = q} (same_desk {f = f} a b x y l) = at-inside h q f b
    inside {q = q} (shown_by {i = i} {u = u} {x = x} {v = v} {k = k} a b) = at-inside h q (read_at i x (shown v u k)) b
    inside (chained c d) = inside d

    before-is : (p q : ℕ) → (before h p q ≡ true) ↔ Precedes h p q
    before-is p q = (before-precedes (length h) p q, λ c. (let l = inside c in reaches c (length h) (omega arith)))

-- Definition 4 --

those_in : (g : Event → Bool) (l : List Event) (e : Event) → Memᴰ e (those g l) → Memᴰ e l × (g e ≡ true)
unfolding those
those_in g [] e m = absurd (Memᴰ-not_nil m)
those_in g (a ∷ l) e m =
    cases (g a)
    (λ t. elim (Memᴰ-cases_cons (rw (t, those) at m)) [
      | inl q ↦ (Memᴰ-head q, rw q t)
      | inr r ↦ (let z = those_in g l e r in (Memᴰ-tail z.0, z.1))
    ])
    (λ n. let r = those_in g l e (rw (n, those) at m) in (Memᴰ-tail r.0, r.1))

in_those : (g : Event → Bool) (l : List Event) (e : Event) → Memᴰ e l → g e ≡ true → Memᴰ e (those g l)
unfolding those
in_those g [] e m z = absurd (Memᴰ-not_nil m)
in_those g (a ∷ l) e m z = elim (Memᴰ-cases_cons m) [
  | inl q ↦ (let t : g a ≡ true = rw q at z in rw (t, those) (Memᴰ-head q))
  | inr r ↦ cases (g a) (λ t. rw (t, those) (Memᴰ-tail (in_those g l e r z))) (λ n. rw (n, those) (in_those g l e r z))
]

module _ (h : List Event) where
  -- the write of a name at a place
  written_at : (w : Name) (p : ℕ) → writes_name w (get_elem? h p) ≡ true → WriteAt h p w.writer w.number
  written_at w p z = by (get_elem? h p) refl z
    where
      by : (o : Option Event) → get_elem? h p ≡ o → writes_name w o ≡ true → WriteAt h p w.writer w.number
      by none e z = clash (cc)
      by (some (read_at i x v)) e z = clash (cc)
      by (some (receive_at i u)) e z = clash (cc)
      by (some (apply_at i u)) e z = clash (cc)
      by (some (write_at i x v k)) e z =
          let r = both_true (eqb w.writer i) (eqb w.number k) z in
          record { cell = x; status = v; at = rw (eqb-true w.writer i r.0, eqb-true w.number k r.1) e }

  at-written : (w : Name) (p : ℕ) → WriteAt h p w.writer w.number → writes_name w (get_elem? h p) ≡ true
  at-written w p a = rw (a.at, eq-eqb w.writer w.writer refl, eq-eqb w.number w.number refl)

  module _ (forward : (p q : ℕ) → Precedes h p q → p < q) where
    past_to : (w w' : Name) → in_past h w w' ≡ true → InPast h w w'
    unfolding in_past
    past_to w w' z =
        let q = below-some (length h) _ z in
        let a = both_true (writes_name w (get_elem? h q.0)) _ q.1 in
        let p = below-some (length h) _ a.1 in
        let b = both_true (writes_name w' (get_elem? h p.0)) _ p.1 in
        record {
          place = q.0;
          earlier = p.0;
          write = written_at w q.0 a.0;
          other = written_at w' p.0 b.0;
          order = (before-is h forward p.0 q.0).0 b.1;
        }

    past_from : (w w' : Name) → InPast h w w' → in_past h w w' ≡ true
    unfolding in_past
    past_from w w' i =
        let p = i.earlier in
        let q = i.place in
        some_below_lem (length h) _ q (inside h forward i.order)
        (rw (at-written w q i.write)
        (some_below_lem (length h) _ p (let l = inside h forward i.order in let f = forward p q i.order in omega arith)
        (rw (at-written w' p i.other) ((before-is h forward p q).1 i.order))))

    X_co_safe_is : (k : ℕ) (w : Name) (e : Event) → Memᴰ e (X_co_safe h k w) ↔ Enabling h k w e
    X_co_safe_is k w e = (λ m. let r = those_in (enables h k w) h e m in to e r.0 r.1, from)
      where
        to : (e : Event) → Memᴰ e h → enables h k w e ≡ true → Enabling h k w e
        to (read_at i x v) m z = clash (cc)
        to (write_at i x v l) m z = clash (cc)
        to (receive_at i u) m z = clash (cc)
        to (apply_at i u) m z =
            let r = both_true (eqb i k) (in_past h w u) z in
            let same : i ≡ k = eqb-true i k r.0 in
            rw same (enabling (rw same at m) (past_to w u r.1))

        from : {e : Event} → Enabling h k w e → Memᴰ e (X_co_safe h k w)
        from (enabling {w' = u} m i) = in_those (enables h k w) h (apply_at k u) m (rw (eq-eqb k k refl) (past_from w u i))

-- Schedules --

module _ (reload : State → State) (same : (s : State) → Rules s → reload s ≡ s) (n m : ℕ) (hn : In most_desks n) (hm : In most_cells m) (l : List Act) where
  goes_forward : (p q : ℕ) → Precedes (history reload (fresh n m) l) p q → p < q
  goes_forward p q c = forward (observed_run reload same (fresh-rules n m hn hm) (observed_fresh n m) l).traced.story.ordered c

  pub before-exactly : (p q : ℕ) → (before (history reload (fresh n m) l) p q ≡ true) ↔ Precedes (history reload (fresh n m) l) p q
  before-exactly = before-is (history reload (fresh n m) l) goes_forward

  pub X_co_safe_exactly : (k : ℕ) (w : Name) (e : Event)
      → Memᴰ e (X_co_safe (history reload (fresh n m) l) k w) ↔ Enabling (history reload (fresh n m) l) k w e
  X_co_safe_exactly = X_co_safe_is (history reload (fresh n m) l) goes_forward
