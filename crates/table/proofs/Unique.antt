-- Of two values of one table that keep the rules: the same cells.
use Rattle.std.specs.Prelude.{◌+◌, ◌/◌, ◌%◌, ◌<◌, ◌≡◌}
use Rattle.laws.specs.Kit.{ℕ, sym, ap, ◌∙◌, fun_ext, true, arith, eqb-true, eqb}
use Rattle.laws.specs.{Loop.{cases}}
use Rattle.clock.specs.Vectors.{place, place_ext}
use Rattle.machine.specs.Table as machine
use Rattle.table.specs.{declared.Cell.{Cell}, declared.Table.{Table}}
use Rattle.table.specs.Value.{desk_cells, all_cells, cell_at, FullCell}
use Rattle.table.specs.{TypeShape.{Shaped}}
use Rattle.table.specs.{Model.{cell_m, slot, cell_in}}
use Rattle.table.specs.{Sound.{AllZero, SoundTable}, SameTable.{Same}}
use Rattle.table.specs.Unique.{cells_same}

-- a cell by what the model shows of it, and all zero where that is nothing
pub cell_same : (a b : Cell) → FullCell a → FullCell b → (a.writer ≡ 0 → AllZero a) → (b.writer ≡ 0 → AllZero b) → cell_m a ≡ cell_m b → a ≡ b
cell_same a b fa fb za zb e =
    cases (eqb a.writer 0)
    (λ p. cases (eqb b.writer 0) (λ q. both p q) (λ q. absurd (let d = rw (p, q) at e in let z : ◌≡◌ {A = ℕ} 0 1 = cc in omega arith)))
    (λ p. cases (eqb b.writer 0) (λ q. absurd (let d = rw (p, q) at e in let z : ◌≡◌ {A = ℕ} 0 1 = cc in omega arith)) (λ q. neither (rw (p, q) at e)))
  where
    made : a.writer ≡ b.writer → a.status ≡ b.status → place a.vector ≡ place b.vector → a ≡ b
    made w s v =
        let l = place_ext a.vector b.vector (fa.vector ∙ sym fb.vector) v in
        λ j. record { writer = w j; status = s j; vector = l j }

    both : eqb a.writer 0 ≡ true → eqb b.writer 0 ≡ true → a ≡ b
    both p q =
        let x = eqb-true a.writer 0 p in
        let y = eqb-true b.writer 0 q in
        made (x ∙ sym y) ((za x).status ∙ sym (zb y).status) (fun_ext (λ t. (za x).vector t ∙ sym ((zb y).vector t)))

    neither : machine.set a.status a.writer (place a.vector) ≡ machine.set b.status b.writer (place b.vector) → a ≡ b
    neither d = made (cc) (cc) (cc)

module _ (a b : Table) (sa : Shaped a) (sb : Shaped b) (ka : SoundTable a) (kb : SoundTable b) (e : Same a b) where
  cell-shown : (s : ℕ) → s < all_cells → cell_m (cell_at a.cells s) ≡ cell_m (cell_at b.cells s)
  cell-shown s h =
      let i : ℕ = s / desk_cells + 1 in
      let x : ℕ = s % desk_cells + 1 in
      let q : slot i x ≡ s = omega arith in
      rw q at (sym (cell_in a.cells i x (omega arith, omega arith) (omega arith, omega arith))
      ∙ ap (λ (t : machine.State). t.cell i x) e
      ∙ cell_in b.cells i x (omega arith, omega arith) (omega arith, omega arith))

  pub same-cells : a.cells ≡ b.cells
  same-cells =
      cells_same a.cells b.cells sa.cells.count sb.cells.count
      (λ s h. cell_same (cell_at a.cells s) (cell_at b.cells s) (sa.cells.each s h) (sb.cells.each s h) (ka.blanks s h) (kb.blanks s h) (cell-shown s h))
