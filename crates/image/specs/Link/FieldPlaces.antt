-- The block at each place of the image, and that the image is its blocks, one after the other.
use Rattle.std.specs.Prelude.{◌+◌, ◌-◌, ◌*◌, ◌/◌, ◌%◌, ◌<◌, ◌≡◌, ◌∷◌}
use Rattle.laws.specs.Kit.{ℕ, suc, sym, ◌∙◌, Bool, true, false, List, []}
use Rattle.laws.specs.Kit.{append_assoc, arith, eqb, leb, ltb, ne_eqb, le-leb, lt-leb, le-ltb, lt-ltb}
use Rattle.laws.specs.Kit.{mul-le-mul_left, mul-add-div, mul-add-mod_self_left, div-eq_of_lt, mod-eq_of_lt, add-zero}
use Rattle.laws.specs.{Loop.{pick}, Cat.{cat, cat-same}}
use Rattle.machine.specs.{Table.{State}, Steps.{open_count}}
use Rattle.block.specs.{Block.{block_of}, Link.BlockFill.{cat_plus, cat_rows}}
use Rattle.block.specs.Limits.{cells_in, opens_in}
use Rattle.image.specs.Encode.{blocks, bytes_of_desk, cell_part, open_part, per_desk}
use Rattle.image.specs.{Encode.{open_blocks, block2, block3, block4, encode_at}}

pub pick_has : {A : Type 0} (P : A → Type 0) (b : Bool) {x y : A} → P x → P y → P (pick b x y)
pick_has P true h g = h
pick_has P false h g = g

module _ (ps : ℕ) (s : State) where
  abbrev pub row : ℕ
  row = per_desk ps s.setup.cells

  abbrev pub opens_from : ℕ
  opens_from = 1 + s.setup.desks + row * s.setup.desks

  -- the block at place k, of whichever kind
  unfoldable pub block_at : ℕ → List ℕ
  block_at k =
      pick (eqb k 0) (block_of ps 1 k (s.setup.desks ∷ s.setup.cells ∷ open_count s ∷ []))
      (pick (leb k s.setup.desks) (block_of ps 2 k (bytes_of_desk ps k (s.applied k) (s.clock k)))
      (pick (ltb k opens_from)
      (block_of ps 3 k (cat (cell_part ps s ((k - (1 + s.setup.desks)) / row) ((k - (1 + s.setup.desks)) % row)) (cells_in ps)))
      (block_of ps 4 k (cat (open_part ps s (k - opens_from)) (opens_in ps)))))

  pub at_2 : (i : ℕ) → i < s.setup.desks → block_at (1 + i) ≡ block2 ps s i
  unfolding block_at
  at_2 i h =
      let e : 1 + i ≡ suc i = omega arith in
      rw (e, ne_eqb (suc i) 0 (λ z. omega arith), le-leb (suc i) s.setup.desks (omega arith))

  pub at_3 : (i q : ℕ) → i < s.setup.desks → q < row → block_at (1 + s.setup.desks + (row * i + q)) ≡ block3 ps s i q
  unfolding block_at
  at_3 i q h g =
      let k : ℕ = 1 + s.setup.desks + (row * i + q) in
      let a : k - (1 + s.setup.desks) ≡ row * i + q = omega arith in
      let l = mul-le-mul_left row h in
      let b : 1 + s.setup.desks + row * i + q ≡ k = omega arith in
      let z : 0 < row = omega arith in
      rw (
        ne_eqb k 0 (λ e. omega arith),
        lt-leb k s.setup.desks (omega arith),
        lt-ltb k opens_from (omega arith),
        a,
        mul-add-div z i q,
        div-eq_of_lt g,
        mul-add-mod_self_left row i q,
        mod-eq_of_lt g,
        b,
        add-zero i,
      )

  pub at_4 : (q : ℕ) → block_at (opens_from + q) ≡ block4 ps s q
  unfolding block_at
  at_4 q =
      let k : ℕ = opens_from + q in
      let a : k - opens_from ≡ q = omega arith in
      rw (ne_eqb k 0 (λ e. omega arith), lt-leb k s.setup.desks (omega arith), le-ltb k opens_from (omega arith), a)

  -- the image is its blocks, one after the other
  pub encode-is : encode_at ps s ≡ cat block_at (blocks ps s)
  unfolding encode_at cat block_at
  encode-is =
      let n = s.setup.desks in
      let e2 = cat-same (λ j. block_at (1 + j)) (block2 ps s) n at_2 in
      let e3 = sym (cat_rows (λ j. block_at (1 + n + j)) row n)
      ∙ cat-same (λ i. cat (λ q. block_at (1 + n + (row * i + q))) row) (λ i. cat (block3 ps s i) row) n (λ i h. cat-same _ _ row (λ q g. at_3 i q h g)) in
      let e4 = cat-same (λ j. block_at (opens_from + j)) (block4 ps s) (open_blocks ps s) (λ q _. at_4 q) in
      sym (cat_plus block_at opens_from (open_blocks ps s) ∙ rw (cat_plus block_at (1 + n) (row * n), cat_plus block_at 1 n, e2, e3, e4) (simp append_assoc))
