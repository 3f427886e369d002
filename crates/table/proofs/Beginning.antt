-- A fresh table is the machine's.
use Rattle.std.specs.Prelude.{◌+◌, ◌*◌, ◌≡◌, Some, None}
use Rattle.laws.specs.Kit.{ℕ, zero, suc, refl, ◌∙◌, fun_ext, [], none, Bool, true, false, replicate, ltb}
use Rattle.laws.specs.{Loop.{pick}, Update.{seen1}}
use Rattle.clock.specs.Vectors.{places, place}
use Rattle.machine.specs.Table as machine
use Rattle.machine.specs.Steps as steps
use Rattle.table.specs.{declared.Desk.{Desk}, Value.{desk0, all_cells, desk_cells}}
use Rattle.table.specs.Value.{entries, cell0, cell_at, unset_cell, open_at, free_open}
use Rattle.table.specs.{EntryNames.{free_named}, Model.{model_of, applied_m, clock_m, cells_m, cell_m, opens_m, applied_vec}}
use Rattle.table.specs.{Model.{clock_vec, state_path}, Link.OpensModel.{Unique, opens-none}}
use Rattle.table.specs.Beginning.{fresh_desk, fresh_table, begin_table, Begins, same-at, place-zeros, free_zeros, unique-zeros}

all-fresh : {B : Type 0} (g : Desk → B) (b : B) → g fresh_desk ≡ b → g desk0 ≡ b → (n i : ℕ) → seen1 g (replicate n fresh_desk) desk0 i ≡ b
all-fresh g b p q n zero = q
all-fresh g b p q n (suc i) = same-at g fresh_desk desk0 b p q n i

fresh_vec : (g : Desk → machine.Vec) → g fresh_desk ≡ place (replicate places 0) → g desk0 ≡ place [] → (n : ℕ) → seen1 g (replicate n fresh_desk) desk0 ≡ (λ i. machine.zeros)
fresh_vec g a b n =
    fun_ext (λ i. all-fresh g machine.zeros (a ∙ place-zeros places) (b ∙ place-zeros 0) n i)

blank-at : (n s : ℕ) → cell_m (cell_at (replicate n unset_cell) s) ≡ machine.blank
blank-at = same-at cell_m unset_cell cell0 machine.blank refl refl

fresh_cells : (n : ℕ) → cells_m (replicate n unset_cell) ≡ (λ i x. machine.blank)
unfolding cells_m
fresh_cells n = fun_ext (λ i. fun_ext (λ x. go i x))
  where
    go : (i x : ℕ) → cells_m (replicate n unset_cell) i x ≡ machine.blank
    go zero x = refl
    go (suc i) zero = refl
    go (suc i) (suc x) =
        rw (blank-at n (i * desk_cells + x)) (same2 (ltb i places) (ltb x desk_cells))
      where
        same2 : (a b : Bool) → pick a (pick b machine.blank machine.blank) machine.blank ≡ machine.blank
        same2 true true = refl
        same2 true false = refl
        same2 false b = refl

fresh-opens : (n : ℕ) → opens_m (replicate n free_open) ≡ (λ u k. none)
fresh-opens n = fun_ext (λ u. fun_ext (λ k. opens-none (replicate n free_open) u k (λ e h. free_named (open_at (replicate n free_open) e) u k (free_zeros n e))))

-- "Everything starts at zero and unset."
pub fresh-model : (n m : ℕ) → model_of (fresh_table n m) ≡ machine.fresh n m
unfolding fresh_table applied_m clock_m
fresh-model n m =
    state_path (model_of (fresh_table n m)) (machine.fresh n m) refl
    (fresh_vec applied_vec refl refl places)
    (fresh_vec clock_vec refl refl places)
    (fresh_cells all_cells)
    (fresh-opens entries)

unique-fresh : (n m : ℕ) → Unique (fresh_table n m).opens
unfolding fresh_table
unique-fresh n m = unique-zeros entries

pub begins-yes : (n m : ℕ) → steps.begins n m ≡ true → Begins n m (Some (fresh_table n m))
unfolding begin_table steps.begin
begins-yes n m e = record {
  is = rw e;
  means = rw (e, fresh-model n m, steps.begin);
  unique = unique-fresh n m;
}

pub begins-no : (n m : ℕ) → steps.begins n m ≡ false → Begins n m None
unfolding begin_table steps.begin
begins-no n m e = record {
  is = rw e;
  means = rw (e, steps.begin);
  unique = tt;
}
