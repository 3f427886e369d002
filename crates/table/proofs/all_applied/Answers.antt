use Rattle.std.proofs.Common.{rules}
use Rattle.laws.specs.{Kit.{sym, ◌∙◌, eqb, get_or}, All.{all_shift}}
use Rattle.machine.specs.{Table.{done}, Steps.{everywhere}}
use Rattle.clock.specs.Vectors.{place}
use Rattle.table.specs.Value.{open_at}
use Rattle.laws.specs.Chains.{all_below}
use Rattle.table.proofs.all_applied.Goals as goal

pub returns : goal.returns
unfolding everywhere
returns c = let o = open_at c.args.opens.now c.args.e in
    all_below (λ t. eqb (get_or o.marks t 0) done) c.all.ensures.ran (λ t b q l h. search rules)
    ∙ sym (all_shift (λ t. eqb (place o.marks t) done) c.args.n 0)
