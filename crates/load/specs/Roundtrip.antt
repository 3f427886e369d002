-- "A table saved and loaded is the same table", and an image loaded and saved again gives its bytes: of what `save` and `load` promise.
use Rattle.std.specs.Prelude.{◌≤◌, ◌≡◌, Result, Ok, Err, IsOkAnd}
use Rattle.laws.specs.Kit.{ℕ, refl, ap, ◌∙◌, true, List, le-leb, length, take, sets}
use Rattle.table.specs.{declared.Table.{Table}, Model.{model_of}, SameTable.{Same}, Sound.{SoundTable}}
use Rattle.image.specs.declared.Unsaved.{Unsaved}
use Rattle.image.specs.Encode.{encode}
use Rattle.image.specs.Load.{refused, loaded, load}
use Rattle.image.proofs.Load.{load-encode}
use Rattle.image.specs.{Saving.{SaveAnswer, long, saving_of, Saves, as_image}, Unique.{saves_is, saving_is}}
use Rattle.load.specs.{declared.Fault.{Fault}, Loading.{fault_of, Answers, saved_part}}
use Rattle.load.specs.Unique.{loaded-is}

saved_image : {t : Table} {before after : List ℕ} {n : ℕ} → Saves t before after (long n) → SoundTable t × (take n after ≡ encode (model_of t))
saved_image {t} {before} (as_image n s l p e) = (s, rw (p, e) (saved_part before (encode (model_of t)) l))

-- whatever load answers to the bytes that a save left
pub save_then_load : {t : Table} {before after : List ℕ} {n : ℕ} (r : Result Table Fault)
    → Saves t before after (saving_of (Ok n)) → Answers (take n after) r → IsOkAnd r (λ u. Same u t)
save_then_load {t} {after = after} {n = n} r w h = go r h (ap load (saved_image w).1 ∙ load-encode (model_of t) (saved_image w).0.rules)
  where
    go : (r : Result Table Fault) → Answers (take n after) r → load (take n after) ≡ loaded (model_of t) → IsOkAnd r (λ u. Same u t)
    go (Ok u) h e = let z : loaded (model_of u) ≡ loaded (model_of t) = loaded-is (take n after) (Ok u) h ∙ e in cc
    go (Err f) h e = let z : refused (fault_of f) ≡ loaded (model_of t) = loaded-is (take n after) (Err f) h ∙ e in cc

-- whatever save answers to a table that was loaded, where the buffer has room: the bytes from its start on, and what lies behind them stays
pub load_then_save : {b : List ℕ} {t : Table} {before after : List ℕ} (r : Result ℕ Unsaved)
    → Answers b (Ok t) → Saves t before after (saving_of r) → length b ≤ length before
    → (r ≡ Ok (length b)) × ((after ≡ sets before 0 b) × (take (length b) after ≡ b))
load_then_save {b} {t} {before} {after} r h w l =
    let e = rw (h.1, le-leb _ _ l) at (saves_is true (record { to = λ _. h.0; from = λ _. refl }) w) in
    let x : saving_of r ≡ long (length b) = ap (λ (y : SaveAnswer × List ℕ). y.0) e in
    let a : after ≡ sets before 0 b = ap (λ (y : SaveAnswer × List ℕ). y.1) e in
    (saving_is r x, (a, rw a (saved_part before b l)))
