-- Two values of one table that keep the rules differ in nothing but where open writes stand and what lies in free entries.
use Rattle.std.specs.Prelude.{◌<◌, ◌≡◌}
use Rattle.laws.specs.Kit.{ℕ, suc, sym, ap, ◌∙◌, false, List, arith, get_or, length, ext_get_or}
use Rattle.clock.specs.Vectors.{places, place, place_ext}
use Rattle.machine.specs.Table as machine
use Rattle.table.specs.{declared.Cell.{Cell}, declared.Desk.{Desk}, declared.Open.{Open}, declared.Table.{Table}, Value.{desk0}}
use Rattle.table.specs.Value.{all_cells, entries, cell0, cell_at, open_at}
use Rattle.table.specs.{Value.{FullOpen, is_free}, TypeShape.{DeskShape, Shaped}}
use Rattle.table.specs.{EntryNames.{entry_number, own-named, named-is}, Model.{applied_m, clock_m, open_m}}
use Rattle.table.specs.{Link.OpensModel.{opens_at, opens-some}, Sound.{SoundTable}, SameTable.{Same}}

-- a desk by its places
pub desk-same : (a b : Desk) → DeskShape a → DeskShape b → place a.applied ≡ place b.applied → place a.clock.at ≡ place b.clock.at → a ≡ b
desk-same a b ha hb ea ec =
    let p = place_ext a.applied b.applied (ha.applied ∙ sym hb.applied) ea in
    let q = place_ext a.clock.at b.clock.at (ha.clock ∙ sym hb.clock) ec in
    λ j. record { applied = p j; clock = record { at = q j } }

-- the list by its cells
pub cells_same : (l m : List Cell) → length l ≡ all_cells → length m ≡ all_cells → ((s : ℕ) → s < all_cells → cell_at l s ≡ cell_at m s) → l ≡ m
cells_same l m hl hm same = ext_get_or cell0 l m (hl ∙ sym hm) (λ s h. same s (omega (arith, hl)))

-- an entry holds o
pub record HeldBy (os : List Open) (o : Open) : Type 0 where
  pub at : ℕ
  pub small : at < entries
  pub is : open_at os at ≡ o

-- every open write of the one stands in the other
abbrev pub StandsIn : List Open → List Open → Type 0
StandsIn l m = (j : ℕ) → j < entries → is_free (open_at l j) ≡ false → HeldBy m (open_at l j)

open-same : (a b : Open) → FullOpen a → FullOpen b → a.writer ≡ b.writer → open_m a ≡ open_m b → a ≡ b
open-same a b fa fb w e =
    let v = place_ext a.vector b.vector (fa.vector ∙ sym fb.vector) (ap (λ (o : machine.Open). o.vector) e) in
    let k = place_ext a.marks b.marks (fa.marks ∙ sym fb.marks) (ap (λ (o : machine.Open). o.marks) e) in
    λ j. record { writer = w j; status = (e j).status; cell = (e j).cell; vector = v j; marks = k j }

module _ (a b : Table) (sa : Shaped a) (sb : Shaped b) (ka : SoundTable a) (kb : SoundTable b) (e : Same a b) where
  desks-same : a.core.desks ≡ b.core.desks
  unfolding applied_m clock_m
  desks-same =
      ext_get_or desk0 a.core.desks b.core.desks (sa.desks.count ∙ sym sb.desks.count)
      (λ i h. let l : i < places = omega (arith, sa.desks.count) in
      desk-same (get_or a.core.desks i desk0) (get_or b.core.desks i desk0) (sa.desks.each i l) (sb.desks.each i l)
      (ap (λ (s : machine.State). s.applied (suc i)) e)
      (ap (λ (s : machine.State). s.clock (suc i)) e))

  pub same-core : a.core ≡ b.core
  same-core = λ j. record { n = (e j).setup.desks; m = (e j).setup.cells; desks = desks-same j }

  -- open writes as a set
  pub same-opens : StandsIn a.opens b.opens
  same-opens j h f =
      let o = open_at a.opens j in
      let t = own-named o f in
      let r = opens-some b.opens o.writer (entry_number o) (open_m o)
      (ap (λ (s : machine.State). s.opens o.writer (entry_number o)) (sym e) ∙ opens_at a.opens j o.writer (entry_number o) ka.unique h t) in
      record {
        at = r.at;
        small = r.small;
        is = open-same (open_at b.opens r.at) o (sb.opens.each r.at r.small) (sa.opens.each j h) (named-is (open_at b.opens r.at) o.writer (entry_number o) r.holds).1 (sym r.is);
      }
