use Rattle.std.specs.Prelude.{◌≡◌, ◌≤◌, min}
use Rattle.std.proofs.Common.{rules}
use Rattle.laws.specs.Kit.{ap, arith, length, take, length-take-le}
use Rattle.machine.specs.Table.{most_open}
use Rattle.answer.specs.Link.NameLengths.{names-taken, names_longer, names_end}
use Rattle.answer.proofs.names_length.Goals as goal

pub loop-w-preserved : goal.loop-w-preserved
loop-w-preserved c =
    let names = take c.min.result c.args.names.now in
    (search rules, omega (arith, names_longer (length names) names c.loop-w.w-index (search rules)))

pub returns : goal.returns
returns c =
    let a = c.args in
    let n = c.min.result in
    let names = take n a.names.now in
    let e : n ≡ min a.count most_open = search rules in
    let h : n ≤ length a.names.now = omega (arith, c.told-names) in
    let k = length-take-le n a.names.now h in
    let i : c.loop-w.w-index ≤ length names = c.loop-w.auto.w-index-end in (
      omega (arith, ap length (names_end (length names) names c.loop-w.w-index (search rules)), ap length (names-taken n a.count a.names.now e h)),
      omega (arith, c.loop-w.invariant.0),
    )
