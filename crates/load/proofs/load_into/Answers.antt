use Rattle.std.proofs.Common.{rules}
use Rattle.load.specs.Loading.{not-held, cleared_cells, cleared_opens}
use Rattle.load.specs.Link.ReadsBack.{fits_so, reads_right}
use Rattle.image.proofs.Load.{misplaced_no_image}
use Rattle.laws.specs.{Says.{apart}}
use Rattle.load.proofs.load_into.Goals as goal

pub returns-then-misplaced-b : goal.returns-then-misplaced-b
returns-then-misplaced-b c =
    let m = c.first_not-misplaced.ensures in
    ((c.in_ok-undamaged.ensures, misplaced_no_image _ _ c.if-misplaced-b.true (m.fails c.if-misplaced-b.true), m), c.requires.0, c.requires.1)

pub returns-then-not-sizes_fit : goal.returns-then-not-sizes_fit
returns-then-not-sizes_fit c = (
  (
    c.in_ok-undamaged.ensures,
    λ t ok e. apart c.sizes_fit.result (c.sizes_fit.ensures.from (fits_so c.args.b.now t ok e)) c.if-not-sizes_fit.true,
    c.first_not-misplaced.ensures,
  ),
  c.requires.0,
  c.requires.1,
)

pub returns : goal.returns
returns c =
    let r = c.read_table-core in
    let b = c.args.b.now in
    let f = not-held b _ (reads_right b _ r.ensures) (λ h. apart c.saved_as.result (c.saved_as.ensures.from h) c.if-saved_as.false) in (
      (c.in_ok-undamaged.ensures, f, c.first_not-misplaced.ensures),
      cleared_cells r.new.cells (c.fill.ensures.after (λ y k. k)) (search rules),
      cleared_opens r.new.opens (c.fill-2.ensures.after (λ y k. k)) (search rules),
    )
