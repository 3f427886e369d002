-- Open writes: no name stands in two entries, and then a store into an entry is an update of the model at one name.
use Rattle.std.specs.Prelude.{◌-◌, ◌*◌, ◌<◌, ◌≡◌}
use Rattle.std.specs.Prelude as std
use Rattle.laws.specs.Kit.{ℕ, suc, refl, sym, ap, ◌∙◌, List, Option, none, some, true, false, arith, length, set}
use Rattle.laws.specs.{Loop.{pick, cases}, Says.{apart}, Update.{upd2, upd2_again, upd2-is, same_or}, Find.{Alone, first-none, first-same}}
use Rattle.laws.specs.Find.{first-other, first-at, first-is, first-not}
use Rattle.clock.specs.Vectors.{places, place, place_set}
use Rattle.machine.specs.Table as machine
use Rattle.machine.specs.{Steps.{mark}, Rules.{In}}
use Rattle.table.specs.{declared.Open.{Open}, Value.{entries}}
use Rattle.table.specs.Value.{open0, open_at, put_open, put_mark, free_entry, entries_of, marked, emptied, is_free, FullOpen}
use Rattle.table.specs.Value.{length-put_mark, get_or-entries_of, length-entries_of, open_at-stored, open_at-kept}
use Rattle.table.specs.{Value.{entries_of_put, entries_of-mark, entries_of_free}, EntryNames.{entry_number, named, named_at, FoundIn}}
use Rattle.table.specs.{EntryNames.{free_named, own-named, named-is, not_named}, Model.{open_m, opens_m}}

-- no two entries hold one write
abbrev pub Unique : List Open → Type 0
Unique l = (e j : ℕ) → e < entries → j < entries → (e ≡ j → ⊥) → (u k : ℕ) → named_at l u k e ≡ true → named_at l u k j ≡ true → ⊥

-- no entry but e holds u.k
abbrev pub Lone : List Open → ℕ → ℕ → ℕ → Type 0
Lone l e u k = (j : ℕ) → j < entries → (j ≡ e → ⊥) → named_at l u k j ≡ false

pub lone : (l : List Open) (e u k : ℕ) → Unique l → e < entries → named_at l u k e ≡ true → Lone l e u k
lone l e u k q h t j hj ne = cases (named_at l u k j) (λ r. absurd (q j e hj h ne u k r t)) (λ r. r)

alone : (l : List Open) (e u k : ℕ) → Lone l e u k → Alone (named u k) (entries_of l) e open0
alone l e u k lo j h ne = let b : j < entries = rw length-entries_of at h in rw (get_or-entries_of l j b) (lo j b ne)

-- what the model has under a name --

-- the entry that holds it
pub opens_at : (l : List Open) (e u k : ℕ) → Unique l → e < entries → named_at l u k e ≡ true → opens_m l u k ≡ some (open_m (open_at l e))
unfolding opens_m
opens_at l e u k q h t =
    first-at (named u k) open_m open0 (entries_of l) e (rw length-entries_of h) (rw (get_or-entries_of l e h) t) (alone l e u k (lone l e u k q h t))
    ∙ ap (λ (o : Open). some (open_m o)) (get_or-entries_of l e h)

-- nothing, if none holds it
pub opens-none : (l : List Open) (u k : ℕ) → ((e : ℕ) → e < entries → named_at l u k e ≡ false) → opens_m l u k ≡ none
unfolding opens_m
opens-none l u k f =
    first-none (named u k) open_m open0 (entries_of l)
    (λ j h. let b : j < entries = rw length-entries_of at h in rw (get_or-entries_of l j b) (f j b))

-- and the other way
pub opens_not : (l : List Open) (u k : ℕ) → opens_m l u k ≡ none → (e : ℕ) → e < entries → named_at l u k e ≡ false
unfolding opens_m
opens_not l u k f e h =
    rw (get_or-entries_of l e h) at (first-not (named u k) open_m open0 (entries_of l) f e (rw length-entries_of h))

-- an entry that holds what the model has under a name
pub record EntryFor (l : List Open) (u k : ℕ) (w : machine.Open) : Type 0 where
  pub at : ℕ
  pub small : at < entries
  pub holds : named_at l u k at ≡ true
  pub is : w ≡ open_m (open_at l at)

pub opens-some : (l : List Open) (u k : ℕ) (w : machine.Open) → opens_m l u k ≡ some w → EntryFor l u k w
unfolding opens_m
opens-some l u k w f =
    let r = first-is (named u k) open_m open0 (entries_of l) w f in
    let b : r.at < entries = rw length-entries_of at r.small in
    record { at = r.at; small = b; holds = rw (get_or-entries_of l r.at b) at r.passes; is = r.is ∙ ap open_m (get_or-entries_of l r.at b) }

-- what a search by name finds is what the model has under the name
pub found_none : (l : List Open) (u k : ℕ) (r : std.Option ℕ) → FoundIn (named_at l u k) r → r ≡ std.None → opens_m l u k ≡ none
found_none l u k r f p = let g : FoundIn (named_at l u k) std.None = rw p at f in opens-none l u k g

-- a store into entry e: m has o there, and all else as l --

module _ (l m : List Open) (e : ℕ) (o : Open) (h : e < entries) (st : entries_of m ≡ set (entries_of l) e o) where
  -- only the name u.k is touched
  pub opens_put : (u k : ℕ) → Lone l e u k → ((a b : ℕ) → (a ≡ u → b ≡ k → ⊥) → (named a b o ≡ false) × (named_at l a b e ≡ false)) → opens_m m ≡ upd2 (opens_m l) u k (pick (named u k o) (some (open_m o)) none)
  unfolding opens_m
  opens_put u k lo others =
      upd2-is (opens_m l) u k (pick (named u k o) (some (open_m o)) none) (opens_m m)
      (rw st (first-same (named u k) open_m open0 (entries_of l) e o (rw length-entries_of h) (alone l e u k lo)))
      (λ a b ne. rw st (first-other (named a b) open_m open0 (entries_of l) e o (others a b ne).0 (rw (get_or-entries_of l e h) (others a b ne).1)))

  pub unique_put : Unique l → ((u k : ℕ) → named u k o ≡ true → Lone l e u k) → Unique m
  unique_put q lo a b ha hb ne u k ta tb =
      same_or a e
      (λ pa. let nb : b ≡ e → ⊥ = (λ r. ne (pa ∙ sym r)) in
      apart (named_at l u k b) (kept b hb nb tb) (lo u k (stored a pa ta) b hb nb))
      (λ na. same_or b e
      (λ pb. apart (named_at l u k a) (kept a ha na ta) (lo u k (stored b pb tb) a ha na))
      (λ nb. q a b ha hb ne u k (kept a ha na ta) (kept b hb nb tb)))
    where
      stored : (j : ℕ) → j ≡ e → named_at m u k j ≡ true → named u k o ≡ true
      stored j p t = rw (p, open_at-stored l m e o h st) at t

      kept : (j : ℕ) → j < entries → (j ≡ e → ⊥) → named_at m u k j ≡ true → named_at l u k j ≡ true
      kept j hj nj t = rw (open_at-kept l m e o h st j hj nj) at t

-- a name that no entry holds, in any entry
every_lone : (l : List Open) (e u k : ℕ) → opens_m l u k ≡ none → Lone l e u k
every_lone l e u k f j h ne = opens_not l u k f j h

-- a new write in a free entry
module _ (l : List Open) (e : ℕ) (o : Open) (h : e < entries) (size : length l ≡ entries)
    (free : is_free (open_at l e) ≡ true) (inuse : is_free o ≡ false) (fresh : opens_m l o.writer (entry_number o) ≡ none) where
  pub opens_store : opens_m (put_open l e o) ≡ upd2 (opens_m l) o.writer (entry_number o) (some (open_m o))
  opens_store =
      opens_put l (put_open l e o) e o h (entries_of_put l e h size o) o.writer (entry_number o) (every_lone l e o.writer (entry_number o) fresh)
      (λ a b ne. (not_named o a b (λ p q. ne (sym p) (sym q)), free_named (open_at l e) a b free))
      ∙ ap (λ (x : Option machine.Open). upd2 (opens_m l) o.writer (entry_number o) x) (rw (own-named o inuse))

  pub unique_store : Unique l → Unique (put_open l e o)
  unique_store q =
      unique_put l (put_open l e o) e o h (entries_of_put l e h size o) q
      (λ u k t. let n = named-is o u k t in rw (← n.1, ← n.2) (every_lone l e o.writer (entry_number o) fresh))

-- a mark is the machine's
marked-model : (o : Open) (i v : ℕ) → FullOpen o → In places i → open_m (marked o (i - 1) v) ≡ mark (open_m o) i v
marked-model o i v f hi =
    let b : i - 1 < length o.marks = omega (arith, f.marks, hi.0, hi.1) in
    let s : suc (i - 1) ≡ i = omega (arith, hi.0) in
    let p : place (set o.marks (i - 1) v) ≡ (mark (open_m o) i v).marks = rw s at (place_set o.marks (i - 1) v b) in
    λ j. record { cell = o.cell; status = o.status; vector = place o.vector; marks = p j }

-- an entry marked at desk i, from 1; and handed back
module _ (l : List Open) (e u k : ℕ) (h : e < entries) (size : length l ≡ entries) (q : Unique l) (t : named_at l u k e ≡ true) where
  not-other : (a b : ℕ) → (a ≡ u → b ≡ k → ⊥) → named_at l a b e ≡ false
  not-other a b ne = let n = named-is (open_at l e) u k t in not_named (open_at l e) a b (λ p r. ne (sym p ∙ n.1) (sym r ∙ n.2))

  opens-marked : (i v : ℕ) → opens_m (put_mark l e (i - 1) v) ≡ upd2 (opens_m l) u k (some (open_m (marked (open_at l e) (i - 1) v)))
  unfolding named
  opens-marked i v =
      opens_put l (put_mark l e (i - 1) v) e (marked (open_at l e) (i - 1) v) h (entries_of-mark l e h size (i - 1) v) u k (lone l e u k q h t)
      (λ a b ne. (not-other a b ne, not-other a b ne))
      ∙ ap (λ (x : Option machine.Open). upd2 (opens_m l) u k x) (still t)
    where
      still : named_at l u k e ≡ true → pick (named u k (marked (open_at l e) (i - 1) v)) (some (open_m (marked (open_at l e) (i - 1) v))) none ≡ some (open_m (marked (open_at l e) (i - 1) v))
      still t = rw t

  pub opens-mark : FullOpen (open_at l e) → (i v : ℕ) → In places i → opens_m (put_mark l e (i - 1) v) ≡ upd2 (opens_m l) u k (some (mark (open_m (open_at l e)) i v))
  opens-mark full i v hi = opens-marked i v ∙ ap (λ (o : machine.Open). upd2 (opens_m l) u k (some o)) (marked-model (open_at l e) i v full hi)

  pub unique-mark : (i v : ℕ) → In places i → Unique (put_mark l e (i - 1) v)
  unfolding named
  unique-mark i v hi =
      unique_put l (put_mark l e (i - 1) v) e (marked (open_at l e) (i - 1) v) h (entries_of-mark l e h size (i - 1) v) q
      (λ a b r. lone l e a b q h r)

  pub opens_free : opens_m (free_entry l e) ≡ upd2 (opens_m l) u k none
  opens_free =
      opens_put l (free_entry l e) e (emptied (open_at l e)) h (entries_of_free l e h size) u k (lone l e u k q h t)
      (λ a b ne. (free_named (emptied (open_at l e)) a b refl, not-other a b ne))
      ∙ ap (λ (x : Option machine.Open). upd2 (opens_m l) u k x) (rw (free_named (emptied (open_at l e)) u k refl))

  pub unique_free : Unique (free_entry l e)
  unique_free =
      unique_put l (free_entry l e) e (emptied (open_at l e)) h (entries_of_free l e h size) q
      (λ a b r. apart (named a b (emptied (open_at l e))) r (free_named (emptied (open_at l e)) a b refl))

  -- the entry after its mark: it keeps its name, and is the machine's marked write
  pub open_at-mark : (i v : ℕ) → In places i → open_at (put_mark l e (i - 1) v) e ≡ marked (open_at l e) (i - 1) v
  open_at-mark i v hi =
      open_at-stored l (put_mark l e (i - 1) v) e (marked (open_at l e) (i - 1) v) h (entries_of-mark l e h size (i - 1) v)

  pub named-mark : (i v : ℕ) → In places i → named_at (put_mark l e (i - 1) v) u k e ≡ true
  unfolding named
  named-mark i v hi = rw (open_at-mark i v hi) t

  pub open_m-mark : FullOpen (open_at l e) → (i v : ℕ) → In places i → open_m (open_at (put_mark l e (i - 1) v) e) ≡ mark (open_m (open_at l e)) i v
  open_m-mark full i v hi = ap open_m (open_at-mark i v hi) ∙ marked-model (open_at l e) i v full hi

-- marked and then handed back
module _ (l : List Open) (e u k : ℕ) (h : e < entries) (size : length l ≡ entries) (q : Unique l) (t : named_at l u k e ≡ true) (i v : ℕ) (hi : In places i) where
  abbrev at_mark : List Open
  at_mark = put_mark l e (i - 1) v

  pub opens_mark_free : opens_m (free_entry (put_mark l e (i - 1) v) e) ≡ upd2 (opens_m l) u k none
  opens_mark_free =
      opens_free at_mark e u k h (length-put_mark l e (i - 1) v ∙ size) (unique-mark l e u k h size q t i v hi) (named-mark l e u k h size q t i v hi)
      ∙ ap (λ (f : ℕ → ℕ → Option machine.Open). upd2 f u k none) (opens-marked l e u k h size q t i v)
      ∙ upd2_again (opens_m l) u k (some (open_m (marked (open_at l e) (i - 1) v))) none

  pub unique_mark_free : Unique (free_entry (put_mark l e (i - 1) v) e)
  unique_mark_free =
      unique_free at_mark e u k h (length-put_mark l e (i - 1) v ∙ size) (unique-mark l e u k h size q t i v hi) (named-mark l e u k h size q t i v hi)
