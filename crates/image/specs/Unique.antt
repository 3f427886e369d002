-- A save comes to one answer and one buffer.
use Rattle.std.specs.Prelude.{◌≡◌, Result, Ok, Err}
use Rattle.laws.specs.Kit.{ℕ, refl, sym, ap, ◌∙◌, Bool, true, false, List, le-leb, lt-leb, eqb, leb, length, sets}
use Rattle.laws.specs.{Loop.{pick, cases}, Says.{Says, clash}}
use Rattle.machine.specs.Answer.{broken, short, number_of}
use Rattle.table.specs.{declared.Table.{Table}, Model.{model_of}, Sound.{SoundTable}}
use Rattle.image.specs.{declared.Unsaved.{Unsaved}, declared.Unsaved.TheVariants.{Broken, Short}, Encode.{encode}}
use Rattle.image.specs.Saving.{SaveAnswer, long, refused, saving_of, Saves, by_rule, by_room, as_image}

-- the answer and the buffer, by whether the value keeps the rules
abbrev pub saved_by : Bool → List ℕ → List ℕ → SaveAnswer × List ℕ
saved_by kept image before =
    pick kept
    (pick (leb (length image) (length before)) (long (length image), sets before 0 image) (refused short, before))
    (refused broken, before)

pub saves_is : {t : Table} {before after : List ℕ} {x : SaveAnswer} (kept : Bool) → Says kept (SoundTable t) → Saves t before after x
    → ◌≡◌ {A = SaveAnswer × List ℕ} (x, after) (saved_by kept (encode (model_of t)) before)
saves_is kept says (by_rule h p) = cases kept (λ e. absurd (h (says.to e))) (λ e. rw e (λ j. (refused broken, p j)))
saves_is kept says (by_room s l p) = rw (says.from s, lt-leb _ _ l) (λ j. (refused short, p j))
saves_is kept says (as_image n s l p e) = rw (says.from s, le-leb _ _ l) (λ j. (long (e j), p j))

judged : {t : Table} {before after : List ℕ} {x : SaveAnswer} → Saves t before after x → (kept : Bool) × Says kept (SoundTable t)
judged (by_rule h p) = (false, record { to = λ e. clash e; from = λ s. absurd (h s) })
judged (by_room s l p) = (true, record { to = λ e. s; from = λ g. refl })
judged (as_image n s l p e) = (true, record { to = λ e. s; from = λ g. refl })

pub one_save : (t : Table) (b a c : List ℕ) (x y : SaveAnswer) → Saves t b a x → Saves t b c y → (x ≡ y) × (a ≡ c)
one_save t b a c x y p q =
    let k = judged p in
    let e = saves_is k.0 k.1 p ∙ sym (saves_is k.0 k.1 q) in
    (ap (λ (r : SaveAnswer × List ℕ). r.0) e, ap (λ (r : SaveAnswer × List ℕ). r.1) e)

-- the code's value
abbrev pub saving_for : SaveAnswer → Result ℕ Unsaved
saving_for (long n) = Ok n
saving_for (refused r) = Err (pick (eqb (number_of r) (number_of broken)) Broken Short)

saving_back : (r : Result ℕ Unsaved) → saving_for (saving_of r) ≡ r
saving_back (Ok n) = refl
saving_back (Err Broken) = refl
saving_back (Err Short) = refl

pub saving_is : (r : Result ℕ Unsaved) {x : SaveAnswer} → saving_of r ≡ x → r ≡ saving_for x
saving_is r e = sym (saving_back r) ∙ ap saving_for e

pub one_saving : (t : Table) (before a c : List ℕ) (r r' : Result ℕ Unsaved) → Saves t before a (saving_of r) → Saves t before c (saving_of r') → (r ≡ r') × (a ≡ c)
one_saving t before a c r r' p q =
    let e = one_save t before a c (saving_of r) (saving_of r') p q in
    (saving_is r e.0 ∙ sym (saving_is r' refl), e.1)
