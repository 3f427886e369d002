-- Cells and open writes as the elements of the two lists: reading one, storing one, marking one, handing one back.
use Rattle.std.specs.Prelude.{◌*◌, ◌<◌, ◌≡◌}
use Rattle.laws.specs.Kit.{ℕ, sym, ◌∙◌, List, [], Bool, arith, length, get_or, set, replicate, eqb}
use Rattle.laws.specs.Kit.{length-set, get_or-set_same, get_or-set_other}
use Rattle.laws.specs.{Tab.{tab, get_or-tab, length-tab, tab-one}, Update.{same_or}}
use Rattle.machine.specs.Table.{most_cells, most_open}
use Rattle.clock.specs.Vectors.{places, clock_of}
use Rattle.table.specs.{declared.Cell.{Cell}, declared.Desk.{Desk}, declared.Open.{Open}}

-- the counts --

-- cells to a desk, and of all desks
abbrev pub desk_cells : ℕ
desk_cells = most_cells

abbrev pub all_cells : ℕ
all_cells = places * desk_cells

-- entries for open writes
abbrev pub entries : ℕ
entries = most_open

-- what stands where nothing is --

abbrev pub desk0 : Desk
desk0 = record { applied = []; clock = clock_of [] }

abbrev pub cell0 : Cell
cell0 = record { writer = 0; status = 0; vector = [] }

abbrev pub open0 : Open
open0 = record { writer = 0; status = 0; cell = 0; vector = []; marks = [] }

-- an unset cell and a free entry, all zero
abbrev pub unset_cell : Cell
unset_cell = record { writer = 0; status = 0; vector = replicate places 0 }

abbrev pub free_open : Open
free_open = record { writer = 0; status = 0; cell = 0; vector = replicate places 0; marks = replicate places 0 }

-- Cells --

-- cell s, from 0
abbrev pub cell_at : List Cell → ℕ → Cell
cell_at l s = get_or l s cell0

abbrev pub put_cell : List Cell → ℕ → Cell → List Cell
put_cell l s c = set l s c

pub record FullCell (c : Cell) : Type 0 where
  pub vector : length c.vector ≡ places

-- what the type tells of the cells
pub record CellsShape (l : List Cell) : Type 0 where
  pub count : length l ≡ all_cells
  pub each : (s : ℕ) → s < all_cells → FullCell (cell_at l s)

module _ (l : List Cell) (s : ℕ) where
  pub length-put_cell : (c : Cell) → length (put_cell l s c) ≡ length l
  length-put_cell c = length-set l s c

  -- what was stored is read; the others stay
  pub cell_at_put : (c : Cell) → s < all_cells → length l ≡ all_cells → cell_at (put_cell l s c) s ≡ c
  cell_at_put c h e = get_or-set_same l s c cell0 (omega arith)

  pub cell_at-other : (c : Cell) → (r : ℕ) → (r ≡ s → ⊥) → cell_at (put_cell l s c) r ≡ cell_at l r
  cell_at-other c r ne = get_or-set_other l s r c cell0 ne

  pub shape-put_cell : (c : Cell) → FullCell c → CellsShape l → CellsShape (put_cell l s c)
  shape-put_cell c f h = record {
    count = length-put_cell c ∙ h.count;
    each = λ r b. same_or r s
        (λ q. rw q (rw (cell_at_put c (rw q at b) h.count) f))
        (λ q. rw (cell_at-other c r q) (h.each r b));
  }

-- Open writes --

-- entry e, from 0
abbrev pub open_at : List Open → ℕ → Open
open_at l e = get_or l e open0

abbrev pub put_open : List Open → ℕ → Open → List Open
put_open l e o = set l e o

abbrev pub marked : Open → ℕ → ℕ → Open
marked o i v = record { writer = o.writer; status = o.status; cell = o.cell; vector = o.vector; marks = set o.marks i v }

abbrev pub emptied : Open → Open
emptied o = record { writer = 0; status = o.status; cell = o.cell; vector = o.vector; marks = o.marks }

-- the mark at desk i, from 0
abbrev pub put_mark : List Open → ℕ → ℕ → ℕ → List Open
put_mark l e i v = put_open l e (marked (open_at l e) i v)

-- the entry handed back
abbrev pub free_entry : List Open → ℕ → List Open
free_entry l e = put_open l e (emptied (open_at l e))

unfoldable pub entries_of : List Open → List Open
entries_of l = tab entries (open_at l)

abbrev pub is_free : Open → Bool
is_free o = eqb o.writer 0

pub record FullOpen (o : Open) : Type 0 where
  pub vector : length o.vector ≡ places
  pub marks : length o.marks ≡ places

-- what the type tells of the entries
pub record OpensShape (l : List Open) : Type 0 where
  pub count : length l ≡ entries
  pub each : (e : ℕ) → e < entries → FullOpen (open_at l e)

pub full-marked : (o : Open) (i v : ℕ) → FullOpen o → FullOpen (marked o i v)
full-marked o i v f = record { vector = f.vector; marks = length-set o.marks i v ∙ f.marks }

pub full-emptied : (o : Open) → FullOpen o → FullOpen (emptied o)
full-emptied o f = record { vector = f.vector; marks = f.marks }

module _ (l : List Open) (e : ℕ) where
  pub length-put_mark : (i v : ℕ) → length (put_mark l e i v) ≡ length l
  length-put_mark i v = length-set l e (marked (open_at l e) i v)

  pub length-free_entry : length (free_entry l e) ≡ length l
  length-free_entry = length-set l e (emptied (open_at l e))

  pub shape-put_open : (o : Open) → FullOpen o → OpensShape l → OpensShape (put_open l e o)
  shape-put_open o f h = record {
    count = length-set l e o ∙ h.count;
    each = λ r b. same_or r e
        (λ q. rw q (rw (get_or-set_same l e o open0 (omega (arith, h.count))) f))
        (λ q. rw (get_or-set_other l e r o open0 q) (h.each r b));
  }

module _ (l : List Open) (e : ℕ) (b : e < entries) (h : OpensShape l) where
  pub shape-put_mark : (i v : ℕ) → OpensShape (put_mark l e i v)
  shape-put_mark i v = shape-put_open l e (marked (open_at l e) i v) (full-marked (open_at l e) i v (h.each e b)) h

  pub shape-free_entry : OpensShape (free_entry l e)
  shape-free_entry = shape-put_open l e (emptied (open_at l e)) (full-emptied (open_at l e) (h.each e b)) h

-- stores, on the list of entries
module _ (l : List Open) (e : ℕ) (h : e < entries) (size : length l ≡ entries) where
  pub entries_of_put : (o : Open) → entries_of (put_open l e o) ≡ set (entries_of l) e o
  unfolding entries_of
  entries_of_put o =
      tab-one entries (open_at l) (open_at (put_open l e o)) e o
      (get_or-set_same l e o open0 (omega arith))
      (λ k b ne. get_or-set_other l e k o open0 ne)

  pub entries_of-mark : (i v : ℕ) → entries_of (put_mark l e i v) ≡ set (entries_of l) e (marked (open_at l e) i v)
  entries_of-mark i v = entries_of_put (marked (open_at l e) i v)

  pub entries_of_free : entries_of (free_entry l e) ≡ set (entries_of l) e (emptied (open_at l e))
  entries_of_free = entries_of_put (emptied (open_at l e))

pub get_or-entries_of : (l : List Open) (e : ℕ) → e < entries → get_or (entries_of l) e open0 ≡ open_at l e
unfolding entries_of
get_or-entries_of l e h = get_or-tab (open_at l) entries e open0 h

pub length-entries_of : (l : List Open) → length (entries_of l) ≡ entries
unfolding entries_of
length-entries_of l = length-tab (open_at l) entries

-- an entry after a store, by the store's effect on the list of entries
module _ (l m : List Open) (e : ℕ) (o : Open) (h : e < entries) (st : entries_of m ≡ set (entries_of l) e o) where
  pub open_at-stored : open_at m e ≡ o
  open_at-stored =
      let b : e < length (entries_of l) = omega (arith, length-entries_of l) in
      sym (get_or-entries_of m e h) ∙ rw st (get_or-set_same (entries_of l) e o open0 b)

  pub open_at-kept : (j : ℕ) → j < entries → (j ≡ e → ⊥) → open_at m j ≡ open_at l j
  open_at-kept j hj ne =
      sym (get_or-entries_of m j hj) ∙ rw st (get_or-set_other (entries_of l) e j o open0 ne ∙ get_or-entries_of l j hj)

-- what a stored mark promises: the effect, and what the types tell
pub record MarkPut (l : List Open) (e i v : ℕ) (r : List Open) : Type 0 where
  pub is : r ≡ put_mark l e i v
  pub size : length l ≡ entries
  pub full : FullOpen (open_at l e)
