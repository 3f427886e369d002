-- The readers of a field, and that they read what was written.
use Rattle.std.specs.Prelude.{◌+◌, ◌*◌, ◌≤◌, ◌≡◌, ◌∷◌, ◌++◌}
use Rattle.laws.specs.Kit.{ℕ, zero, suc, refl, ◌∙◌, List, [], Option, none, some, arith, div-add-mod'}
use Rattle.laws.specs.Kit.{add-zero, eqb, length, get_or, replicate, length-append, length-replicate, replicate-append-replicate, ne_eqb}
use Rattle.laws.specs.{Loop.{pick}, Update.{same_or}, Tab.{tab, get_or-tab}, FromOne.{from1, from1-is}, Cat.{cat, part, part-whole}}
use Rattle.laws.specs.Cat.{part_right, part_left, get_or-cat, length-cat}
use Rattle.machine.specs.{Table.{Vec, Cell, blank, set, Open}, Rules.{Flat}}
use Rattle.block.specs.{Block.{word, vector_words, mark_bytes, length-words, length-marks}, Limits.{vector_at, vector_bytes, after_vector}}
use Rattle.block.specs.Limits.{desk_bytes, cell_bytes, open_bytes}
use Rattle.image.specs.Encode.{bytes_of_desk, bytes_of_cell, bytes_of_open}
use Rattle.table.specs.Beginning.{zeros-at}

abbrev pub writer_field : List ℕ → ℕ
writer_field l = get_or l 0 0

-- what is zero past n is zero where no desk is
pub flat_out : (n : ℕ) (v : Vec) → Flat n v → (t : ℕ) → (1 ≤ t → t ≤ n → ⊥) → v t ≡ 0
flat_out n v f t o = same_or (v t) 0 (λ e. e) (λ e. absurd (let h = f t (omega arith) in o h.0 h.1))

-- a vector of zeros
pub zero-words : (ps : ℕ) → vector_words ps (λ t. 0) ≡ replicate (vector_bytes ps) 0
unfolding vector_words cat
zero-words zero = refl
zero-words (suc ps) =
    let e : vector_bytes (suc ps) ≡ vector_bytes ps + 2 = omega arith in
    let z : cat (λ (t : ℕ). word 0) ps ≡ replicate (vector_bytes ps) 0 = zero-words ps in
    rw (e, z) (replicate-append-replicate {A = ℕ} (vector_bytes ps) 2 0)

-- where a vector has ps places
module _ (ps : ℕ) where
  -- ps numbers of 16 bits; ps of a byte
  unfoldable pub vec_of : List ℕ → Vec
  vec_of l = from1 0 ps (λ t. get_or l (2 * t + 0) 0 + 256 * get_or l (2 * t + 1) 0)

  unfoldable pub marks_of : List ℕ → Vec
  marks_of l = from1 0 ps (λ t. get_or l t 0)

  unfoldable pub cell_read : List ℕ → Cell
  cell_read l = pick (eqb (get_or l 0 0) 0) blank (set (get_or l 1 0) (get_or l 0 0) (vec_of (part vector_at (vector_bytes ps) l)))

  -- an open write's number is its writer's place in its vector
  unfoldable pub number_field : List ℕ → ℕ
  number_field l = vec_of (part vector_at (vector_bytes ps) l) (writer_field l)

  unfoldable pub open_read : List ℕ → Open
  open_read l = record { cell = get_or l 2 0; status = get_or l 1 0; vector = vec_of (part vector_at (vector_bytes ps) l); marks = marks_of (part (after_vector ps) ps l) }

  pub vec_words : (v : Vec) → Flat ps v → vec_of (vector_words ps v) ≡ v
  unfolding vec_of vector_words
  vec_words v f =
      let w : ℕ → List ℕ = λ t. word (v (suc t)) in
      from1-is 0 ps (λ t. get_or (cat w ps) (2 * t + 0) 0 + 256 * get_or (cat w ps) (2 * t + 1) 0) v
      (λ t h.
      let k = length-cat w 2 (λ j. refl) t in
      rw (get_or-cat w ps t (2 * t) 0 0 h k (omega arith), get_or-cat w ps t (2 * t) 1 0 h k (omega arith)) (omega (arith, div-add-mod' (v (suc t)) 256)))
      (flat_out ps v f)

  pub marks-bytes : (v : Vec) → Flat ps v → marks_of (mark_bytes ps v) ≡ v
  unfolding marks_of mark_bytes
  marks-bytes v f =
      from1-is 0 ps (λ t. get_or (tab ps (λ t. v (suc t))) t 0) v (λ t h. get_or-tab (λ t. v (suc t)) ps t 0 h) (flat_out ps v f)

  pub cell-blank : cell_read (bytes_of_cell ps blank) ≡ blank
  unfolding cell_read bytes_of_cell
  cell-blank = rw (zeros-at (cell_bytes ps) 0)

  pub cell_set : (v u : ℕ) (w : Vec) → 1 ≤ u → Flat ps w → cell_read (bytes_of_cell ps (set v u w)) ≡ set v u w
  unfolding cell_read bytes_of_cell
  cell_set v u w h f =
      rw (
        part_right (u ∷ v ∷ 0 ∷ 0 ∷ []) (vector_words ps w) vector_at 0 (vector_bytes ps) refl,
        part-whole (vector_words ps w) (vector_bytes ps) (length-words ps w),
        vec_words w f,
        ne_eqb u 0 (λ e. omega arith),
      )

  -- a vector behind 4 bytes, and what follows it
  module _ (a b c d : ℕ) (v : Vec) (r : List ℕ) where
    pub vector-part : part vector_at (vector_bytes ps) (a ∷ b ∷ c ∷ d ∷ (vector_words ps v ++ r)) ≡ vector_words ps v
    vector-part =
        rw (
          part_right (a ∷ b ∷ c ∷ d ∷ []) (vector_words ps v ++ r) vector_at 0 (vector_bytes ps) refl,
          part_left (vector_words ps v) r 0 (vector_bytes ps) (omega (arith, length-words ps v)),
          part-whole (vector_words ps v) (vector_bytes ps) (length-words ps v),
        )

    pub rest_part : (w : ℕ) → length r ≡ w → part (after_vector ps) w (a ∷ b ∷ c ∷ d ∷ (vector_words ps v ++ r)) ≡ r
    rest_part w e =
        part_right (a ∷ b ∷ c ∷ d ∷ []) (vector_words ps v ++ r) vector_at (vector_bytes ps) w refl
        ∙ rw add-zero at (part_right (vector_words ps v) r (vector_bytes ps) 0 w (length-words ps v)) ∙ part-whole r w e

  module _ (u : ℕ) (w : Open) (fv : Flat ps w.vector) where
    vector-back : vec_of (part vector_at (vector_bytes ps) (bytes_of_open ps u (some w))) ≡ w.vector
    unfolding bytes_of_open
    vector-back = rw (vector-part u w.status w.cell 0 w.vector (mark_bytes ps w.marks)) (vec_words w.vector fv)

    marks-back : Flat ps w.marks → marks_of (part (after_vector ps) ps (bytes_of_open ps u (some w))) ≡ w.marks
    unfolding bytes_of_open
    marks-back fm =
        rw (rest_part u w.status w.cell 0 w.vector (mark_bytes ps w.marks) ps (length-marks ps w.marks)) (marks-bytes w.marks fm)

    pub writer-back : writer_field (bytes_of_open ps u (some w)) ≡ u
    unfolding bytes_of_open
    writer-back = refl

    pub number-back : number_field (bytes_of_open ps u (some w)) ≡ w.vector u
    unfolding number_field
    number-back = rw (vector-back, writer-back)

    pub open-back : Flat ps w.marks → open_read (bytes_of_open ps u (some w)) ≡ w
    unfolding open_read bytes_of_open
    open-back fm = rw (vector-back, marks-back fm)

  -- lengths --

  pub length-desk : (i : ℕ) (a c : Vec) → length (bytes_of_desk ps i a c) ≡ desk_bytes ps
  unfolding bytes_of_desk
  length-desk i a c = rw (length-append (vector_words ps a) (vector_words ps c), length-words ps a, length-words ps c) (omega arith)

  pub length-cell : (c : Cell) → length (bytes_of_cell ps c) ≡ cell_bytes ps
  unfolding bytes_of_cell
  length-cell blank = length-replicate {A = ℕ} (cell_bytes ps) 0
  length-cell (set v u w) = rw (length-words ps w) (omega arith)

  pub length_open : (u : ℕ) (o : Option Open) → length (bytes_of_open ps u o) ≡ open_bytes ps
  unfolding bytes_of_open
  length_open u none = length-replicate {A = ℕ} (open_bytes ps) 0
  length_open u (some w) = rw (length-append (vector_words ps w.vector) (mark_bytes ps w.marks), length-words ps w.vector, length-marks ps w.marks) (omega arith)
