use Rattle.std.specs.Prelude.{◌≡◌, ◌≤◌, min}
use Rattle.std.proofs.Common.{rules}
use Rattle.laws.specs.{Kit.{refl, ap, arith, length, take, length-set}, Stores.{stored_one, left-start}}
use Rattle.laws.specs.Stores.{left_put, left-none}
use Rattle.machine.specs.Table.{most_open}
use Rattle.answer.specs.Link.NameLengths.{names-taken, names-next, names_longer, names_end}
use Rattle.answer.proofs.put_names.Goals as goal

pub loop-w-init : goal.loop-w-init
loop-w-init c =
    let a = c.args in
    let e : c.min.result ≡ min a.count most_open = search rules in
    let h : c.min.result ≤ length a.names.now = omega (arith, c.told-names) in
    (omega (arith, ap length (names-taken c.min.result a.count a.names.now e h)), left-start)

pub bounds-out-p : goal.bounds-out-p
bounds-out-p c =
    let names = take c.min.result c.args.names.now in
    omega (arith, names_longer (length names) names c.loop-w.w-index (search rules))

pub put_name-p-requires : goal.put_name-p-requires
put_name-p-requires c =
    let names = take c.min.result c.args.names.now in
    simp length-set (omega (arith, names_longer (length names) names c.loop-w.w-index (search rules)))

pub loop-w-preserved : goal.loop-w-preserved
loop-w-preserved c =
    let names = take c.min.result c.args.names.now in
    let L = c.loop-w in
    (L.invariant.0, left_put c.put_name-p.ensures (left_put (stored_one refl) (rw (names-next (length names) names L.w-index (search rules)) at L.invariant.1)))

pub returns : goal.returns
returns c =
    let a = c.args in
    let names = take c.min.result a.names.now in
    let L = c.loop-w in
    let e : c.min.result ≡ min a.count most_open = search rules in
    let h : c.min.result ≤ length a.names.now = omega (arith, c.told-names) in
    rw (← names-taken c.min.result a.count a.names.now e h) (left-none (rw (names_end (length names) names L.w-index (search rules)) at L.invariant.1))
