use Rattle.std.specs.Prelude.{◌+◌, ◌-◌}
use Rattle.laws.specs.{Kit.{refl, sym, ◌∙◌, none, some, arith, get_or, set, length-set}, Loop.{scan_end, scan-here, scan-next}}
use Rattle.machine.specs.Table.{State, most_open}
use Rattle.table.specs.{Value.{open_at}, Model.{open_m}}
use Rattle.steps.specs.Link.Cascade.{midst, from, due-at, due-not, Running, NextReady, Gone, going-starts}
use Rattle.steps.specs.{Link.Cascade.{going_safe, going-turn, gone_ends, gone_on}, Link.CascadeSearch.{Yields, scan-whole, yields_at}}
use Rattle.steps.specs.Link.CascadeSearch.{yields_none}
use Rattle.steps.proofs.deliver.cascade.Goals as goal
use Rattle.steps.proofs.deliver.cascade.Goals.{After-apply_at, Left-loop-t}
use Rattle.steps.proofs.deliver.cascade.Goals.{then-loop-t-test+in-Some, else-loop-t-test, then-loop-t-test+in_default+else-t-n}

-- a turn, for every state that the values are a part of
gone : (c : goal.After-apply_at)
    → (let A = c.apply in
    let g = c.args in
    (b : State) → Running b g.n g.i g.counts g.own g.cells.now g.opens.now → NextReady g.n g.counts g.opens.now g.writer g.entry
    → Gone (from most_open (midst b g.i g.counts g.cells.now g.opens.now) g.i g.writer (open_m (open_at g.opens.now g.entry)))
    b g.n g.i (set A.counts (A.writer - 1) (get_or A.counts (A.writer - 1) 0 + 1)) g.own c.apply_at.new.cells c.apply_at.new.opens
    g.names.now (set A.names A.len record { writer = A.writer; number = get_or A.counts (A.writer - 1) 0 + 1 }) (A.len + 1))
gone c b r d = going-turn (c.apply.invariant.2 b r d) refl c.apply_at.ensures (record { is = refl; size = c.apply.invariant.1 })

-- what the search yields: the first writer with a write that is due, and its entry
yields : (c : goal.Left-loop-t)
    → (let A = c.apply in
    let g = c.args in
    let a = set A.counts (A.writer - 1) (get_or A.counts (A.writer - 1) 0 + 1) in
    Yields g.n g.i a g.own c.apply_at.new.opens c.loop-t-test.found)
yields c =
    let s = c.loop-t in
    let n = c.args.n in
    elim c.loop-t-test.branch [
      | then-loop-t-test+in-Some w ↦ (let d = due-at _ _ _ _ _ w.due_of.result _ w.due_of.ensures w.in-Some.is in
          rw w.found-is (omega arith, w.loop-t-test.true, sym s.invariant ∙ scan-here _ some none (n + 1) s.t (omega arith) d.is_due, d))
      | else-loop-t-test w ↦ rw w.found-is (sym s.invariant ∙ scan_end _ some none (n + 1) s.t (omega arith))
      | then-loop-t-test+in_default+else-t-n w ↦ (let d = due-not _ _ _ _ _ w.due_of.result w.due_of.ensures w.in_default.is in
          rw w.found-is (sym s.invariant ∙ scan-next _ some none (n + 1) s.t (omega arith) d ∙ scan_end _ some none (n + 1) (s.t + 1) (omega arith)))
    ]

pub apply-init : goal.apply-init
apply-init c =
    let p = c.requires in (going_safe (going-starts c.args.names.now p.1 p.2), c.told-names, λ b r d. going-starts c.args.names.now r d)

pub loop-t-init : goal.loop-t-init
loop-t-init c = scan-whole _ _

pub due_of-requires : goal.due_of-requires
due_of-requires c =
    let p = c.requires in
    let h = c.apply.invariant.0 in
    (h.desk, ((omega arith, omega (arith, c.loop-t-test.true, h.count)), (gone (goal.at.due_of-requires c).After-apply_at p.0 p.1 p.2).now.unique))

pub loop-t-preserved : goal.loop-t-preserved
loop-t-preserved c =
    let L = c.loop-t in
    let n = c.args.n in
    let h = c.loop-t-test.true in
    sym (scan-next _ some none (n + 1) L.t (omega arith) (due-not _ _ _ _ L.t c.due_of.result c.due_of.ensures c.in_default.is)) ∙ L.invariant

pub apply-preserved : goal.apply-preserved
apply-preserved c =
    let y = yields_at _ _ _ _ _ c.loop-t-test.found (yields (goal.at.apply-preserved c).Left-loop-t) c.in-Some-found.is in
    let p = c.requires in
    let s = going_safe (gone_on (gone (goal.at.apply-preserved c).After-apply_at p.0 p.1 p.2) (y.0, y.1) y.2 y.3) in
    (s, rw length-set c.apply.invariant.1, λ b r d. gone_on (gone (goal.at.apply-preserved c).After-apply_at b r d) (y.0, y.1) y.2 y.3)

pub returns : goal.returns
returns c b r d =
    gone_ends (gone (goal.at.returns c).After-apply_at b r d) (yields_none _ _ _ _ _ c.loop-t-test.found (yields (goal.at.returns c).Left-loop-t) c.in_default-found.is)
