use Rattle.std.proofs.Common.{rules}
use Rattle.std.specs.Prelude.{◌≡◌}
use Rattle.laws.specs.Kit.{true, false}
use Rattle.table.specs.EntryNames.{free_at, found_as}
use Rattle.table.proofs.find_free.Goals as goal

pub returns : goal.returns
returns c = let p = free_at c.args.opens.now in
    found_as (λ e. p e ≡ true) (λ e. p e ≡ false) c.search_from.result c.search_from.ensures (λ e l h. search rules) (λ e l h. search rules)
