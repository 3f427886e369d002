use Rattle.std.proofs.Common.{rules}
use Rattle.block.specs.Limits.{block_bytes}
use Rattle.image.specs.Link.FieldPlaces.{block_at}
use Rattle.image.proofs.FieldPlaces.{length_at}
use Rattle.image.specs.Mirror.TableBytes.{one_more}
use Rattle.image.specs.Link.SavedIsImage.{all_blocks, planned_wide}
use Rattle.laws.specs.{Cat.{cat}, Kit.{take_all, refl, ◌∙◌, arith}}
use Rattle.table.specs.Model.{model_of, table_with}
use Rattle.image.proofs.Lent.save.Goals as goal

pub loop-k-init : goal.loop-k-init
unfolding cat
loop-k-init c = (refl, refl)

pub loop-k-preserved : goal.loop-k-preserved
loop-k-preserved c =
    let L = c.loop-k in
    let A = c.args in
    let s = model_of (table_with A.self.now.core.now A.self.now.cells.now A.self.now.opens.now) in
    let b = c.block_at in
    let P = c.requires.0 in
    (one_more (block_at A.self.now.plan.p s) block_bytes (length_at A.self.now.plan.p (planned_wide P) s) A.out.now 0 L.k L.invariant.0 (omega arith) (take_all block_bytes b.result (search rules) ∙ b.ensures) c.copy.ensures, search rules)

pub returns : goal.returns
returns c =
    let L = c.loop-k in
    let A = c.args in
    let P = c.requires.0 in
    all_blocks P A.out.now L.invariant.0 (omega arith)
