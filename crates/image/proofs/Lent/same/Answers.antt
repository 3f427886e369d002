use Rattle.std.proofs.Common.{rules}
use Rattle.block.specs.{Damage.{blocks_in}, Mirror.BlockTests.{first_passes, says_all_pass}}
use Rattle.image.specs.Link.FieldPlaces.{block_at}
use Rattle.image.specs.Link.SavedIsImage.{blocks-same}
use Rattle.image.proofs.SavedIsImage.{same_block}
use Rattle.table.specs.Model.{model_of, table_with}
use Rattle.std.specs.Prelude.{◌≡◌}
use Rattle.laws.specs.{Says.{says_as}, Kit.{arith}}
use Rattle.image.proofs.Lent.same.Goals as goal

pub returns : goal.returns
returns c =
    let A = c.args in
    let b = A.b.now in
    let q : blocks_in b ≡ A.self.now.plan.total = omega (arith, c.requires.1) in
    let f = first_passes (λ k l. block_at A.self.now.plan.p (model_of (table_with A.self.now.core.now A.self.now.cells.now A.self.now.opens.now)) k ≡ l) c.first_failing.ensures (λ j r x l e h. search rules) in
    says_as _ (says_all_pass (rw q at f)) (blocks-same c.requires.0 b c.requires.1) (λ e k h. same_block c.requires.0 b k h e)
