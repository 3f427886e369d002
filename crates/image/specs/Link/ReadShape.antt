-- What is read has the shape of a table, whatever the bytes are.
use Rattle.std.specs.Prelude.{◌≤◌, ◌≡◌, ◌↔◌, ◌&&◌}
use Rattle.laws.specs.{Kit.{ℕ, suc, true, List, [], some, arith, eqb, get_or}, Loop.{cases}, Says.{says_both}}
use Rattle.laws.specs.{FromOne.{from1, from1-all}, Find.{first-is}, Cat.{part}}
use Rattle.machine.specs.{Table.{most_desks, Vec, zeros, Cell, blank, set, Open}, Steps.{within}, Rules.{In, Flat, Rules}}
use Rattle.machine.specs.Within.{says-within}
use Rattle.machine.specs.RulesTest.{keeps, ZeroPast}
use Rattle.machine.proofs.RulesTestTells.{says-rules}
use Rattle.block.specs.Limits.{vector_at, vector_bytes, after_vector, cell_bytes}
use Rattle.image.specs.{Fields.{vec_of, marks_of, cell_read, open_read}, Decode.{n_in, m_in, desk_place, cell_place, desk_in_image, cell_in_image}}
use Rattle.image.specs.Decode.{entries_in_image, bears, opens_in_image, decode_at}

-- where a vector has ps places
module _ (ps : ℕ) (few : ps ≤ most_desks) where
  row-flat : (f : ℕ → ℕ) → Flat most_desks (from1 0 ps f)
  row-flat f = from1-all 0 ps f (λ t v. 1 ≤ v → In most_desks t) (λ t h _. (omega arith, omega arith)) (λ t _ l. absurd (omega arith))

  vec_flat : (l : List ℕ) → Flat most_desks (vec_of ps l)
  unfolding vec_of
  vec_flat l = row-flat _

  marks_flat : (l : List ℕ) → Flat most_desks (marks_of ps l)
  unfolding marks_of
  marks_flat l = row-flat _

  desk_in : (n : ℕ) (b : List ℕ) (p i t : ℕ) → 1 ≤ desk_in_image ps n b p i t → In n i × In most_desks t
  desk_in n b p i t =
      from1-all zeros n (λ i. vec_of ps (part (desk_place p i) (vector_bytes ps) b)) (λ i v. (t : ℕ) → 1 ≤ v t → In n i × In most_desks t)
      (λ i h t l. ((omega arith, h), vec_flat (part (desk_place p i) (vector_bytes ps) b) t l))
      (λ i _ t l. absurd (omega arith)) i t

  no-set : {R : Type 0} (v u : ℕ) (w : Vec) → blank ≡ set v u w → R
  no-set v u w q = absurd (let z : ◌≡◌ {A = ℕ} 0 1 = cc in omega arith)

  cell-flat : (l : List ℕ) (v u : ℕ) (w : Vec) → cell_read ps l ≡ set v u w → Flat most_desks w
  unfolding cell_read
  cell-flat l v u w =
      cases (eqb (get_or l 0 0) 0)
      (λ e. rw e (λ q. no-set v u w q))
      (λ e. rw e (λ q. let z : vec_of ps (part vector_at (vector_bytes ps) l) ≡ w = cc in rw z at (vec_flat (part vector_at (vector_bytes ps) l))))

  cell_in : (n m : ℕ) (b : List ℕ) (i x v u : ℕ) (w : Vec) → cell_in_image ps n m b i x ≡ set v u w → In n i × (In m x × Flat most_desks w)
  cell_in n m b i =
      from1-all (λ x. blank) n (λ i. from1 blank m (read i)) (λ i c. (x v u : ℕ) (w : Vec) → c x ≡ set v u w → In n i × (In m x × Flat most_desks w))
      (λ i h. from1-all blank m (read i) (λ x c. (v u : ℕ) (w : Vec) → c ≡ set v u w → In n (suc i) × (In m x × Flat most_desks w))
      (λ x g v u w e. ((omega arith, h), ((omega arith, g), cell-flat (bytes i x) v u w e)))
      (λ x _ v u w e. no-set v u w e))
      (λ i _ x v u w e. no-set v u w e) i
    where
      bytes : ℕ → ℕ → List ℕ
      bytes i x = part (cell_place ps n m i x) (cell_bytes ps) b

      read : ℕ → ℕ → Cell
      read i x = cell_read ps (bytes i x)

  open-flat : (l : List ℕ) → Flat most_desks (open_read ps l).vector × Flat most_desks (open_read ps l).marks
  unfolding open_read
  open-flat l = (vec_flat (part vector_at (vector_bytes ps) l), marks_flat (part (after_vector ps) ps l))

  open_in : (n : ℕ) (a : ℕ → Vec) (l : List (List ℕ)) (u k : ℕ) (w : Open) → opens_in_image ps n a l u k ≡ some w
      → In n u × (In (a u u) k × (Flat most_desks w.vector × Flat most_desks w.marks))
  open_in n a l u k w =
      cases (within n u && within (a u u) k)
      (λ g. rw g (λ e.
      let i = (says_both (within n u) (within (a u u) k) (says-within n u) (says-within (a u u) k)).to g in
      let f = first-is (bears ps u k) (open_read ps) [] l w e in
      (i.0, (i.1, rw f.is (open-flat (get_or l f.at []))))))
      (λ g. rw g (λ e. absurd (let z : ◌≡◌ {A = ℕ} 0 1 = cc in omega arith)))

  pub shaped : (b : List ℕ) → ZeroPast (decode_at ps b)
  unfolding decode_at
  shaped b =
      record {
        counts = desk_in (n_in b) b vector_at;
        clocks = desk_in (n_in b) b (after_vector ps);
        cell = cell_in (n_in b) (m_in b) b;
        opens = open_in (n_in b) (desk_in_image ps (n_in b) b vector_at) (entries_in_image ps (n_in b) (m_in b) b);
      }

  -- of a table that was read, the test tells of the rules
  pub keeps-rules : (b : List ℕ) → (keeps (decode_at ps b) ≡ true) ↔ Rules (decode_at ps b)
  keeps-rules b = let r = says-rules (decode_at ps b) (shaped b) in (r.to, r.from)
