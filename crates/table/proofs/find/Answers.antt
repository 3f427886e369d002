use Rattle.std.proofs.Common.{rules}
use Rattle.std.specs.Prelude.{◌≡◌}
use Rattle.laws.specs.Kit.{true, false}
use Rattle.table.specs.EntryNames.{named_at, found_as}
use Rattle.table.proofs.find.Goals as goal

pub returns : goal.returns
returns c = let p = named_at c.args.opens.now c.args.u c.args.k in
    found_as (λ e. p e ≡ true) (λ e. p e ≡ false) c.search_from.result c.search_from.ensures (λ e l h. search rules) (λ e l h. search rules)
