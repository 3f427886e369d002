-- Desks' lists and what they show, of a history with one more event.
use Rattle.std.specs.Prelude.{◌≡◌, ◌⊎◌, ◌↔◌, ◌∷◌, ◌++◌, ◌+◌, ◌<◌}
use Rattle.laws.specs.Kit.{refl, sym, ◌∙◌, ap, subst, inl, inr, true, false, List, [], append-nil, append_assoc}
use Rattle.laws.specs.Kit.{Memᴰ, Memᴰ-head, Memᴰ-tail, Memᴰ-not_nil, Memᴰ-cast, Memᴰ-append_left, Memᴰ-append_right}
use Rattle.laws.specs.Kit.{Memᴰ-append_cases, Memᴰ-eq_of_singleton, Option, some, ℕ, zero, suc, arith, eqb-true, eq-eqb}
use Rattle.laws.specs.{Kit.{ne_eqb, eqb, length}, Loop.{cases}, Says.{clash, apart}, Update.{same_or}, Ends.{inside, outside, cut_end}}
use Rattle.machine.specs.{Table.{Name, name}, Answer.{Shown, unset}, History.{Event, read_at, write_at, receive_at, apply_at, Entry}}
use Rattle.machine.specs.History.{own_read, applied, entry_of, list_from, desk_list, Written, is_name, written_as, after_write, after_entry}
use Rattle.machine.specs.History.{latest_from, latest, At}
use Rattle.machine.proofs.Order.{add}

-- b is the entry of the event e at the place p, in the list of the desk i
pub data OwnEntry (i p : ℕ) (e : Event) (b : Entry) : Type 0 where
  reads : (x : ℕ) (v : Shown) → e ≡ read_at i x v → b ≡ own_read p x v → OwnEntry i p e b
  applies : (w : Name) → e ≡ apply_at i w → b ≡ applied w → OwnEntry i p e b

pub data Entries (i p : ℕ) (e : Event) (l : List Entry) : Type 0 where
  nothing : l ≡ [] → ((b : Entry) → OwnEntry i p e b → ⊥) → Entries i p e l
  one : (b : Entry) → l ≡ b ∷ [] → OwnEntry i p e b → Entries i p e l

no_own : (i p : ℕ) (e : Event) → ((x : ℕ) (v : Shown) → e ≡ read_at i x v → ⊥) → ((w : Name) → e ≡ apply_at i w → ⊥) → (b : Entry) → OwnEntry i p e b → ⊥
no_own i p e f g b (reads x v q _) = f x v q
no_own i p e f g b (applies w q _) = g w q

pub entries_of_lem : (i p : ℕ) (e : Event) → Entries i p e (entry_of i p e)
entries_of_lem i p (read_at j x v) = same_or j i
    (λ q. one (own_read p x v) (rw (eq-eqb j i q, entry_of)) (reads x v (ap (λ (d : ℕ). read_at d x v) q) refl))
    (λ n. nothing (rw (ne_eqb j i n, entry_of)) (no_own i p (read_at j x v) (λ y z q. n (cc)) (λ w q. clash (cc))))
entries_of_lem i p (write_at j x v k) = nothing refl (no_own i p (write_at j x v k) (λ y z q. clash (cc)) (λ w q. clash (cc)))
entries_of_lem i p (receive_at j u) = nothing refl (no_own i p (receive_at j u) (λ y z q. clash (cc)) (λ w q. clash (cc)))
entries_of_lem i p (apply_at j u) = same_or j i
    (λ q. one (applied u) (rw (eq-eqb j i q, entry_of)) (applies u (ap (λ (d : ℕ). apply_at d u) q) refl))
    (λ n. nothing (rw (ne_eqb j i n, entry_of)) (no_own i p (apply_at j u) (λ y z q. clash (cc)) (λ w q. n (cc))))

-- one more event --

list-add : (i p : ℕ) (h : List Event) (e : Event) → list_from i p (add h e) ≡ list_from i p h ++ entry_of i (p + length h) e
unfolding list_from
list-add i p [] e = let z : p + 0 ≡ p = omega arith in rw z (append-nil (entry_of i p e))
list-add i p (f ∷ h) e =
    let z : p + suc (length h) ≡ suc p + length h = omega arith in
    rw (z, append_assoc) (ap (λ (l : List Entry). entry_of i p f ++ l) (list-add i (suc p) h e))

pub desk-add : (i : ℕ) (h : List Event) (e : Event) → desk_list i (add h e) ≡ desk_list i h ++ entry_of i (length h) e
desk-add i h e = let z : 0 + length h ≡ length h = omega arith in list-add i 0 h e ∙ ap (λ (p : ℕ). desk_list i h ++ entry_of i p e) z

-- a cut of the longer list
pub data DeskCut (i : ℕ) (h : List Event) (e : Event) (earlier : List Entry) (b : Entry) : Type 0 where
  in_old : (later : List Entry) → desk_list i h ≡ earlier ++ b ∷ later → DeskCut i h e earlier b
  in_new : desk_list i h ≡ earlier → OwnEntry i (length h) e b → DeskCut i h e earlier b

pub desk_cut : (i : ℕ) (h : List Event) (e : Event) (earlier : List Entry) (b : Entry) (later : List Entry)
    → desk_list i (add h e) ≡ earlier ++ b ∷ later → DeskCut i h e earlier b
desk_cut i h e earlier b later eq =
    let q = sym (desk-add i h e) ∙ eq in
    elim (entries_of_lem i (length h) e) [
      | nothing z _ ↦ in_old later (rw (z, append-nil) at q)
      | one b' z o ↦ elim (cut_end (desk_list i h) b' earlier b later (rw z at q)) [
        | inside m q ↦ in_old m q
        | outside q r ↦ in_new q (subst (OwnEntry i (length h) e) r o)
      ]
    ]

-- members of the longer list
pub mem_old : (i : ℕ) (h : List Event) (e : Event) {b : Entry} → Memᴰ b (desk_list i h) → Memᴰ b (desk_list i (add h e))
mem_old i h e m = rw (desk-add i h e) (Memᴰ-append_left (entry_of i (length h) e) m)

pub mem_new : (i : ℕ) (h : List Event) (e : Event) {b : Entry} → OwnEntry i (length h) e b → Memᴰ b (desk_list i (add h e))
mem_new i h e {b} o = rw (desk-add i h e) (Memᴰ-append_right (desk_list i h) (go (entry_of i (length h) e) (entries_of_lem i (length h) e) o))
  where
    same : (b' : Entry) → OwnEntry i (length h) e b' → OwnEntry i (length h) e b → b ≡ b'
    same b' (reads x v q r) (reads x' v' q' r') = cc
    same b' (applies w q r) (applies w' q' r') = cc
    same b' (reads x v q r) (applies w q' r') = clash (cc)
    same b' (applies w q r) (reads x v q' r') = clash (cc)

    go : (l : List Entry) → Entries i (length h) e l → OwnEntry i (length h) e b → Memᴰ b l
    go l (nothing z n) o = absurd (n b o)
    go l (one b' z o') o = rw z (Memᴰ-head (same b' o' o))

pub mem_cases : (i : ℕ) (h : List Event) (e : Event) {b : Entry} → Memᴰ b (desk_list i (add h e)) → Memᴰ b (desk_list i h) ⊎ OwnEntry i (length h) e b
mem_cases i h e {b} m = elim (Memᴰ-append_cases (desk_list i h) (rw (desk-add i h e) at m)) [
  | inl m ↦ inl m
  | inr m ↦ elim (entries_of_lem i (length h) e) [
    | nothing z _ ↦ absurd (Memᴰ-not_nil (rw z at m))
    | one b' z o ↦ inr (subst (OwnEntry i (length h) e) (sym (Memᴰ-eq_of_singleton (rw z at m))) o)
  ]
]

-- of a write: it was there, or the event applies it
pub applied_cases : {R : Type 0} (i : ℕ) (h : List Event) (e : Event) {w : Name} → Memᴰ (applied w) (desk_list i (add h e))
    → (Memᴰ (applied w) (desk_list i h) → R) → (e ≡ apply_at i w → R) → R
applied_cases i h e m f g =
    elim (mem_cases i h e m) [ inl m ↦ f m | inr o ↦ elim o [ reads x v q r ↦ clash (cc) | applies w q r ↦ g (cc) ] ]

-- own reads --

reads_listed : (i q : ℕ) (h : List Event) (p x : ℕ) (v : Shown) → At h p (read_at i x v) → Memᴰ (own_read (q + p) x v) (list_from i q h)
unfolding list_from
reads_listed i q [] p x v a = clash (cc)
reads_listed i q (e ∷ h) zero x v a =
    let z : e ≡ read_at i x v = cc in
    let y : q + 0 ≡ q = omega arith in
    rw (z, y) (Memᴰ-append_left {s = entry_of i q (read_at i x v)} (list_from i (suc q) h) (rw (eq-eqb i i refl, entry_of) (Memᴰ-head refl)))
reads_listed i q (e ∷ h) (suc p) x v a =
    let y : q + suc p ≡ suc q + p = omega arith in
    rw y (Memᴰ-append_right (entry_of i q e) (reads_listed i (suc q) h p x v a))

pub read_listed : (i : ℕ) (h : List Event) (p x : ℕ) (v : Shown) → At h p (read_at i x v) → Memᴰ (own_read p x v) (desk_list i h)
read_listed i h p x v a = let z : p ≡ 0 + p = omega arith in Memᴰ-cast (ap (λ (p : ℕ). own_read p x v) z) (reads_listed i 0 h p x v a)

-- an entry of a read is at its place
listed_from : (i q : ℕ) (h : List Event) (p x : ℕ) (v : Shown) → Memᴰ (own_read p x v) (list_from i q h) → p < q + length h
unfolding list_from
listed_from i q [] p x v m = absurd (Memᴰ-not_nil m)
listed_from i q (e ∷ h) p x v m =
    elim (Memᴰ-append_cases (entry_of i q e) m) [
      | inr r ↦ (let k = listed_from i (suc q) h p x v r in omega arith)
      | inl m ↦ elim (entries_of_lem i q e) [
        | nothing z _ ↦ absurd (Memᴰ-not_nil (rw z at m))
        | one b z o ↦ (let y = Memᴰ-eq_of_singleton (rw z at m) in
            elim o [ reads x v _ r ↦ (let y : p ≡ q = cc in omega arith) | applies w _ r ↦ clash (cc) ])
      ]
    ]

pub listed_inside : (i : ℕ) (h : List Event) (p x : ℕ) (v : Shown) → Memᴰ (own_read p x v) (desk_list i h) → p < length h
listed_inside i h p x v m = let k = listed_from i 0 h p x v m in omega arith

-- the write of a name --

pub names_are : (w : Name) (u k : ℕ) → is_name w u k ≡ true → w ≡ name u k
names_are w u k e = cases (eqb w.writer u)
    (λ a. cases (eqb w.number k)
    (λ b. let p = eqb-true w.writer u a in let q = eqb-true w.number k b in λ i. record { writer = p i; number = q i })
    (λ b. apart false (rw (a, b) at e) refl))
    (λ a. apart false (rw a at e) refl)

pub is_name_lem : (u k : ℕ) → is_name (name u k) u k ≡ true
is_name_lem u k = rw (eq-eqb u u refl, eq-eqb k k refl)

pub written_old : (h : List Event) (e : Event) (w : Name) (z : Written) → written_as h w ≡ some z → written_as (add h e) w ≡ some z
unfolding written_as
written_old [] e w z q = clash (cc)
written_old (read_at i x v ∷ h) e w z q = written_old h e w z q
written_old (write_at i x v k ∷ h) e w z q = cases (is_name w i k) (λ t. rw (t, written_as) (rw (t, written_as) at q)) (λ t. rw (t, written_as) (written_old h e w z (rw (t, written_as) at q)))
written_old (receive_at i u ∷ h) e w z q = written_old h e w z q
written_old (apply_at i u ∷ h) e w z q = written_old h e w z q

pub written-some : (h : List Event) (p u x v k : ℕ) → At h p (write_at u x v k) → (z : Written) × (written_as h (name u k) ≡ some z)
unfolding written_as
written-some [] p u x v k a = clash (cc)
written-some (e ∷ h) zero u x v k a =
    let z : e ≡ write_at u x v k = cc in
    (record { cell = x; status = v }, rw (z, is_name_lem u k, written_as))
written-some (read_at i y s ∷ h) (suc p) u x v k a = written-some h p u x v k a
written-some (write_at i y s n ∷ h) (suc p) u x v k a = cases (is_name (name u k) i n)
    (λ t. (record { cell = y; status = s }, rw (t, written_as)))
    (λ t. let r = written-some h p u x v k a in (r.0, rw (t, written_as) r.1))
written-some (receive_at i w ∷ h) (suc p) u x v k a = written-some h p u x v k a
written-some (apply_at i w ∷ h) (suc p) u x v k a = written-some h p u x v k a

pub written-found : (h : List Event) (u k : ℕ) (z : Written) → written_as h (name u k) ≡ some z → (p : ℕ) × At h p (write_at u z.cell z.status k)
unfolding written_as
written-found [] u k z q = clash (cc)
written-found (read_at i x v ∷ h) u k z q = let r = written-found h u k z q in (suc r.0, r.1)
written-found (write_at i x v n ∷ h) u k z q = cases (is_name (name u k) i n)
    (λ t.
    let m = names_are (name u k) i n t in
    let eu : u ≡ i = ap (λ (w : Name). w.writer) m in
    let ek : k ≡ n = ap (λ (w : Name). w.number) m in
    let ez : ◌≡◌ {A = Option Written} (some (record { cell = x; status = v })) (some z) = rw (t, written_as) at q in
    let ez' : ◌≡◌ {A = Written} (record { cell = x; status = v }) z = cc in
    (0, rw (← ez', eu, ek)))
    (λ t. let r = written-found h u k z (rw (t, written_as) at q) in (suc r.0, r.1))
written-found (receive_at i w ∷ h) u k z q = let r = written-found h u k z q in (suc r.0, r.1)
written-found (apply_at i w ∷ h) u k z q = let r = written-found h u k z q in (suc r.0, r.1)

-- what a cell shows --

pub latest-append : (h : List Event) (x : ℕ) (old : Shown) (l m : List Entry) → latest_from h x old (l ++ m) ≡ latest_from h x (latest_from h x old l) m
unfolding latest_from
latest-append h x old [] m = refl
latest-append h x old (b ∷ l) m = latest-append h x (after_entry h x old b) l m

-- each name of the list is written in h
abbrev pub AllWritten : List Event → List Entry → Type 0
AllWritten h l = (w : Name) → Memᴰ (applied w) l → (z : Written) × (written_as h w ≡ some z)

pub latest_stable : (h : List Event) (e : Event) (x : ℕ) (old : Shown) (l : List Entry) → AllWritten h l → latest_from (add h e) x old l ≡ latest_from h x old l
unfolding latest_from
latest_stable h e x old [] f = refl
latest_stable h e x old (own_read p y v ∷ l) f = latest_stable h e x old l (λ w m. f w (Memᴰ-tail m))
latest_stable h e x old (applied w ∷ l) f =
    let r = f w (Memᴰ-head refl) in
    rw (written_old h e w r.0 r.1, r.1) (latest_stable h e x (after_write x old w (some r.0)) l (λ w m. f w (Memᴰ-tail m)))

-- what a desk has and shows, after an event that applies nothing there
module _ (i : ℕ) (h : List Event) (e : Event) (idle : (w : Name) → e ≡ apply_at i w → ⊥) where
  pub has_keep : (w : Name) → Memᴰ (applied w) (desk_list i (add h e)) ↔ Memᴰ (applied w) (desk_list i h)
  has_keep w = (λ m. applied_cases i h e m (λ m. m) (λ q. absurd (idle w q)), λ m. mem_old i h e m)

  pub latest_keep : (x : ℕ) → AllWritten h (desk_list i h) → latest (add h e) x (desk_list i (add h e)) ≡ latest h x (desk_list i h)
  unfolding latest_from
  latest_keep x f =
      ap (latest (add h e) x) (desk-add i h e) ∙ latest-append (add h e) x unset (desk_list i h) (entry_of i (length h) e)
      ∙ elim (entries_of_lem i (length h) e) [
        | nothing z _ ↦ rw z
        | one b z o ↦ elim o [ reads y v q r ↦ rw (z, r) | applies w q r ↦ absurd (idle w q) ]
      ]
      ∙ latest_stable h e x unset (desk_list i h) f

-- and after one that applies w there
module _ (i : ℕ) (h : List Event) (w : Name) where
  pub has-apply : (w' : Name) → Memᴰ (applied w') (desk_list i (add h (apply_at i w))) → Memᴰ (applied w') (desk_list i h) ⊎ (w ≡ w')
  has-apply w' m = applied_cases i h (apply_at i w) m inl (λ q. inr (cc))

  pub has-applied : Memᴰ (applied w) (desk_list i (add h (apply_at i w)))
  has-applied = mem_new i h (apply_at i w) (applies w refl refl)

  pub latest-apply : (x : ℕ) (z : Written) → AllWritten h (desk_list i h) → written_as h w ≡ some z
      → latest (add h (apply_at i w)) x (desk_list i (add h (apply_at i w))) ≡ after_write x (latest h x (desk_list i h)) w (some z)
  unfolding latest_from
  latest-apply x z f q =
      let e : Event = apply_at i w in
      let y : entry_of i (length h) e ≡ applied w ∷ [] = rw (eq-eqb i i refl, entry_of) in
      ap (latest (add h e) x) (desk-add i h e) ∙ latest-append (add h e) x unset (desk_list i h) (entry_of i (length h) e)
      ∙ rw (y, written_old h e w z q, latest_stable h e x unset (desk_list i h) f)
