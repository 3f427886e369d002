-- Source document 003, sections 2 and 3.4: the causal past of a write, and X_co-safe of an apply event, computed from a history.
-- (Proofs/Past: `before-exactly` says that what is computed is the causal order of History, and `X_co_safe_exactly` that the set is that
-- of definition 4.)
use mathlib.Core.{Bool.{Bool, true, false, ◌&&◌, ◌||◌}, List.{List, [], ◌∷◌, Memᴰ}, Option.{Option, none, some}}
use Rattle.std.specs.Prelude.{ℕ, zero, suc}
use lib.{Dec.{eqb, ltb}, ListN.{length, get_elem?}}
use Rattle.machine.specs.{Table.{Name}, Answer.{Shown, unset, shown}, History.{Event, read_at, write_at, receive_at, apply_at}}
use Rattle.machine.specs.{History.{is_name, Precedes}, Demand3.{WriteAt}}

-- does some number below n pass?
unfoldable pub some_below : ℕ → (ℕ → Bool) → Bool
some_below zero g = false
some_below (suc n) g = elim (g n) [ true ↦ true | false ↦ some_below n g ]

-- those that pass
unfoldable pub those : {A : Type 0} → (A → Bool) → List A → List A
those g [] = []
those g (a ∷ l) = elim (g a) [ true ↦ a ∷ those g l | false ↦ those g l ]

-- an accepted read or write of the desk
abbrev pub is_op_of : ℕ → Event → Bool
is_op_of i (read_at j x v) = eqb j i
is_op_of i (write_at j x v k) = eqb j i
is_op_of i (receive_at j w) = false
is_op_of i (apply_at j w) = false

-- process order: e, of the same desk, stands before f
abbrev pub in_process_order : Event → Event → Bool
in_process_order (read_at i x v) f = is_op_of i f
in_process_order (write_at i x v k) f = is_op_of i f
in_process_order (receive_at i w) f = false
in_process_order (apply_at i w) f = false

abbrev pub shown_as : (u v k : ℕ) → Shown → Bool
shown_as u v k unset = false
shown_as u v k (shown v' u' k') = eqb v' v && (eqb u' u && eqb k' k)

abbrev pub shows_write : (u x v k : ℕ) → Event → Bool
shows_write u x v k (read_at i y z) = eqb y x && shown_as u v k z
shows_write u x v k (write_at i y w l) = false
shows_write u x v k (receive_at i w) = false
shows_write u x v k (apply_at i w) = false

-- read-from order: f is a read that shows the write e
abbrev pub is_read_from : Event → Event → Bool
is_read_from (read_at i x z) f = false
is_read_from (write_at u x v k) f = shows_write u x v k f
is_read_from (receive_at i w) f = false
is_read_from (apply_at i w) f = false

abbrev pub link_of : (p q : ℕ) → Option Event → Option Event → Bool
link_of p q none f = false
link_of p q (some e) none = false
link_of p q (some e) (some f) = (ltb p q && in_process_order e f) || is_read_from e f

-- one link of the causal order, between two places of the history
unfoldable pub linked : List Event → ℕ → ℕ → Bool
linked h p q = link_of p q (get_elem? h p) (get_elem? h q)

-- at most f links: "transitive closure"
unfoldable pub before_by : ℕ → List Event → ℕ → ℕ → Bool
before_by zero h p q = false
before_by (suc f) h p q =
    let later : Bool = some_below (length h) (λ r. elim (linked h p r) [ true ↦ before_by f h r q | false ↦ false ]) in
    elim (linked h p q) [ true ↦ true | false ↦ later ]

-- o ↦co o', of the operations at two places; a link goes forward, so that there are fewer links than places
abbrev pub before : List Event → ℕ → ℕ → Bool
before h p q = before_by (length h) h p q

-- the accepted write of a name
abbrev pub writes_name : Name → Option Event → Bool
writes_name w none = false
writes_name w (some (read_at i x v)) = false
writes_name w (some (write_at i x v k)) = is_name w i k
writes_name w (some (receive_at i u)) = false
writes_name w (some (apply_at i u)) = false

-- w' is in the causal past of w
unfoldable pub in_past : List Event → Name → Name → Bool
in_past h w w' =
    some_below (length h) (λ q. writes_name w (get_elem? h q) && some_below (length h) (λ p. writes_name w' (get_elem? h p) && before h p q))

-- an apply event at k of a write in the causal past of w
abbrev pub enables : List Event → ℕ → Name → Event → Bool
enables h k w (read_at i x v) = false
enables h k w (write_at i x v l) = false
enables h k w (receive_at i u) = false
enables h k w (apply_at i u) = eqb i k && in_past h w u

-- definition 4: the enabling events of apply_k(w)
abbrev pub X_co_safe : List Event → ℕ → Name → List Event
X_co_safe h k w = those (enables h k w) h

-- What it says --

-- w' ↦co w
pub record InPast (h : List Event) (w w' : Name) : Type 0 where
  pub place : ℕ
  pub earlier : ℕ
  pub write : WriteAt h place w.writer w.number
  pub other : WriteAt h earlier w'.writer w'.number
  pub order : Precedes h earlier place

-- definition 4: an apply event of the history at k, of a write in the causal past of w
pub data Enabling (h : List Event) (k : ℕ) (w : Name) : Event → Type 0 where
  enabling : {w' : Name} → Memᴰ (apply_at k w') h → InPast h w w' → Enabling h k w (apply_at k w')
