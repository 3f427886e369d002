-- A desk as a process of the paper: each effect on the table is the paper's action at its desk, and nothing at any other.
use Rattle.std.specs.Prelude.{◌≡◌, ◌≢◌, ◌≤◌, ◌<◌}
use Rattle.laws.specs.Kit.{refl, sym, ap, ◌∙◌, fun_ext, true, false, Option, none, some, ℕ, suc, max, arith, eqb-true}
use Rattle.laws.specs.{Kit.{eq-eqb, ne_eqb, le-ltb, eqb}, Loop.{cases, scan_empty}, Says.{apart}, Update.{upd, upd2, same_or, upd_same}}
use Rattle.laws.specs.Update.{upd_other, upd-map, upd2-same, upd2-row, upd2-here, upd2-other, upd2-all, upd2-is}
use Rattle.machine.specs.{Table.{Vec, Cell, blank, set, held, done, Open, State}, Steps.{fails, failing, ready, is_none, read_clock}}
use Rattle.machine.specs.{Steps.{read, still_open, mark, apply, hold, next_number, raise, new_write, write}, Rules.{In, Flat, Quiet}}
use Rattle.machine.specs.Paper.{Message, Process, WRITE, READ, receipt, resume, Idle, vector_of, value_of, message_of, marked_of}
use Rattle.machine.specs.Paper.{waiting_of, desk}
use Rattle.machine.proofs.Cases.{still_cases}
use Rattle.machine.proofs.Ready.{done-everywhere}

-- processes are the same if their parts are
process-is : {p q : Process} → p.Apply ≡ q.Apply → p.Write_co ≡ q.Write_co → p.LastWriteOn ≡ q.LastWriteOn → p.memory ≡ q.memory
    → p.waiting ≡ q.waiting → p ≡ q
process-is a c l m w = λ j. record { Apply = a j; Write_co = c j; LastWriteOn = l j; memory = m j; waiting = w j }

-- the process with other waiting threads
abbrev pub set_all : (ℕ → ℕ → Option Message) → Process → Process
set_all q p = record { Apply = p.Apply; Write_co = p.Write_co; LastWriteOn = p.LastWriteOn; memory = p.memory; waiting = q }

-- Waiting --

-- what waits is held
pub record WaitsHeld (i u : ℕ) (o : Option Open) (m : Message) : Type 0 where
  pub entry : Open
  pub is : o ≡ some entry
  pub is_held : entry.marks i ≡ held
  pub message : m ≡ message_of u entry

pub waits : {i u : ℕ} (o : Option Open) {m : Message} → waiting_of i u o ≡ some m → WaitsHeld i u o m
waits none e = absurd (let z : ◌≡◌ {A = ℕ} 0 1 = cc in omega arith)
waits {i} {u} (some w) {m} e =
    cases (eqb (w.marks i) held)
    (λ t. record { entry = w; is = refl; is_held = eqb-true (w.marks i) held t; message = (let same : some (message_of u w) ≡ some m = rw (t, marked_of) at e in cc) })
    (λ f. absurd (let same : none ≡ some m = rw (f, marked_of) at e in let z : ◌≡◌ {A = ℕ} 0 1 = cc in omega arith))

-- One mark --

pub marked-is : (p i u : ℕ) (w : Open) → w.marks i ≡ p → marked_of p i u (some w) ≡ some (message_of u w)
marked-is p i u w h = rw (eq-eqb (w.marks i) p h, marked_of)

pub marked-not : (p i u : ℕ) (w : Open) → w.marks i ≢ p → marked_of p i u (some w) ≡ none
marked-not p i u w h = rw (ne_eqb (w.marks i) p h, marked_of)

module _ (p i u : ℕ) (w : Open) where
  -- another mark at i
  pub marked-here : (q : ℕ) → q ≢ p → marked_of p i u (some (mark w i q)) ≡ none
  marked-here q ne = marked-not p i u (mark w i q) (λ h. ne (sym (upd_same w.marks i q) ∙ h))

  -- a mark at one desk is nothing to another
  pub marked-there : (q j : ℕ) → j ≢ i → marked_of p j u (some (mark w i q)) ≡ marked_of p j u (some w)
  marked-there q j ne = rw (upd_other w.marks i q j ne, marked_of)

-- of the marks that are not the last
module _ (n p i u : ℕ) (w : Open) (before : p < done) where
  -- where it is applied it has the mark no more
  pub applied-here : marked_of p i u (still_open n (mark w i done)) ≡ none
  applied-here =
      still_cases (λ o. marked_of p i u o ≡ none) n (mark w i done) (λ e. refl) (λ e. marked-here p i u w done (λ h. omega (arith, before)))

  -- elsewhere all is as before: what closes had the mark nowhere
  pub applied-there : (j : ℕ) → (w.marks j ≡ p → In n j) → j ≢ i → marked_of p j u (still_open n (mark w i done)) ≡ marked_of p j u (some w)
  applied-there j inside ne =
      still_cases (λ o. marked_of p j u o ≡ marked_of p j u (some w)) n (mark w i done)
      (λ e. sym (marked-not p j u w (λ h.
      let d = done-everywhere n (mark w i done) e j (inside h) in
      omega (arith, before, d, upd_other w.marks i done j ne))))
      (λ e. marked-there p i u w done j ne)

-- no waiting thread is enabled where no held write is ready
enabled_ready : (n : ℕ) (a : Vec) (u : ℕ) (w : Vec) → ((t : ℕ) → In n t → t ≢ u → w t ≤ a t) → suc (a u) ≡ w u → ready n a u w ≡ true
unfolding failing
enabled_ready n a u w rest own = ap is_none (scan_empty (fails a u w) _ none n 1 (λ t l h. passes t (l, omega arith)))
  where
    passes : (t : ℕ) → In n t → fails a u w t ≡ false
    passes t h =
        same_or t u
        (λ e. rw (eq-eqb t u e, fails) (rw (eq-eqb (suc (a u)) (w u) own)))
        (λ e. rw (ne_eqb t u e, fails) (le-ltb (a t) (w t) (rest t h e)))

pub quiet-idle : (s : State) (j : ℕ) → Quiet s j → Idle s.setup.desks (desk s j)
quiet-idle s j q u k m e en =
    let w = waits (s.opens u k) e in
    apart (ready s.setup.desks (s.applied j) u w.entry.vector)
    (enabled_ready s.setup.desks (s.applied j) u w.entry.vector (rw w.message at en.others) (rw w.message at en.own))
    (q u k w.entry w.is w.is_held)

-- Read --

module _ (s : State) (i x : ℕ) where
  clock_is : (c : Vec) (z : Cell) → (λ k. max (c k) (vector_of z k)) ≡ read_clock c z
  clock_is c blank = fun_ext (λ k. omega arith)
  clock_is c (set v u w) = refl

  pub read_here : READ x (desk s i) ≡ desk (read s i x) i
  read_here = process-is refl (clock_is (s.clock i) (s.cell i x) ∙ sym (upd_same s.clock i _)) refl refl refl

  pub read-there : (j : ℕ) → j ≢ i → desk (read s i x) j ≡ desk s j
  read-there j ne = process-is refl (upd_other s.clock i _ j ne) refl refl refl

-- One open write changes --

abbrev pub Waiting : Type 0
Waiting = ℕ → ℕ → Option Message

-- what has the mark p at i among the open writes
abbrev pub marked_at : ℕ → ℕ → (ℕ → ℕ → Option Open) → Waiting
marked_at p i f u k = marked_of p i u (f u k)

-- what waits at i
abbrev pub waiting_at : ℕ → (ℕ → ℕ → Option Open) → Waiting
waiting_at i f = marked_at held i f

module _ (p : ℕ) (f : ℕ → ℕ → Option Open) (u k : ℕ) (o : Option Open) (j : ℕ) where
  -- to nothing that matters at j
  pub marked-kept : marked_of p j u o ≡ marked_of p j u (f u k) → marked_at p j (upd2 f u k o) ≡ marked_at p j f
  marked-kept e =
      fun_ext (λ v. fun_ext (λ l. upd2-all f u k o (λ v l o. marked_of p j v o ≡ marked_of p j v (f v l)) v l (λ a b. rw (a, b) e) (λ n. refl)))

  -- to what has the mark as m
  pub marked-set : (q : Waiting) (m : Option Message) → marked_of p j u o ≡ m → ((v l : ℕ) → (v ≡ u → l ≡ k → ⊥) → q v l ≡ marked_at p j f v l)
      → upd2 q u k m ≡ marked_at p j (upd2 f u k o)
  marked-set q m e same =
      sym (upd2-is q u k m _ (rw upd2-same e) (λ v l n. rw (upd2-other f u k o v l n) (sym (same v l n))))

-- Hold: the receipt --

module _ (s : State) (i u k : ℕ) (w : Open) where
  pub receipt-here : w.vector u ≡ k → receipt u (message_of u w) (desk s i) ≡ desk (hold s i u k w) i
  receipt-here e =
      process-is refl refl refl refl
      (rw e (marked-set held s.opens u k (some (mark w i held)) i _ _ (marked-is held i u (mark w i held) (upd_same w.marks i held)) (λ v l n. refl)))

  pub hold-there : s.opens u k ≡ some w → (j : ℕ) → j ≢ i → desk (hold s i u k w) j ≡ desk s j
  hold-there e j ne =
      process-is refl refl refl refl (marked-kept held s.opens u k (some (mark w i held)) j (marked-there held i u w held j ne ∙ ap (waiting_of j u) (sym e)))

-- Apply: lines 3, 4, 5 --

-- what g reads of each cell
abbrev along : {A : Type 0} → (Cell → A) → (ℕ → Cell) → ℕ → A
along g f x = g (f x)

module _ (s : State) (i u k : ℕ) (w : Open) where
  count-here : upd (s.applied i) u (suc (s.applied i u)) ≡ (apply s i u k w).applied i
  count-here = sym (upd2-here s.applied i u (suc (s.applied i u)))

  cell-here : {A : Type 0} (g : Cell → A) → upd (along g (s.cell i)) w.cell (g (set w.status u w.vector)) ≡ along g ((apply s i u k w).cell i)
  cell-here g =
      sym (upd-map g (s.cell i) w.cell (set w.status u w.vector))
      ∙ ap (along g) (sym (upd2-here s.cell i w.cell (set w.status u w.vector)))

  cell-there : {A : Type 0} (g : Cell → A) (j : ℕ) → j ≢ i → along g ((apply s i u k w).cell j) ≡ along g (s.cell j)
  cell-there g j ne = ap (along g) (upd2-row s.cell i w.cell _ j ne)

  -- the thread of u.k goes on, whatever else waits
  pub resume-here : (q : Waiting) → w.vector u ≡ k → ((v l : ℕ) → (v ≡ u → l ≡ k → ⊥) → q v l ≡ waiting_at i s.opens v l)
      → resume u (message_of u w) (set_all q (desk s i)) ≡ desk (apply s i u k w) i
  resume-here q e same =
      process-is count-here refl (cell-here vector_of) (cell-here value_of)
      (rw e (marked-set held s.opens u k _ i q none (applied-here s.setup.desks held i u w (omega arith)) same))

  pub apply-there : Flat s.setup.desks w.marks → (j : ℕ) → j ≢ i → waiting_of j u (some w) ≡ waiting_of j u (s.opens u k) → desk (apply s i u k w) j ≡ desk s j
  apply-there flat j ne was =
      process-is (upd2-row s.applied i u _ j ne) refl (cell-there vector_of j ne) (cell-there value_of j ne)
      (marked-kept held s.opens u k _ j (applied-there s.setup.desks held i u w (omega arith) j (λ h. flat j (omega (arith, h))) ne ∙ was))

-- Write --

module _ (s : State) (i x v : ℕ) (new : s.opens i (next_number s i) ≡ none) where
  pub write-here : WRITE i x (record { status = v; writer = i }) (desk s i) ≡ desk (write s i x v) i
  write-here =
      process-is (count-here (raise s i) i i (next_number s i) (new_write s i x v)) (sym (upd_same s.clock i _))
      (cell-here (raise s i) i i (next_number s i) (new_write s i x v) vector_of) (cell-here (raise s i) i i (next_number s i) (new_write s i x v) value_of)
      (sym (marked-kept held s.opens i (next_number s i) _ i (applied-here s.setup.desks held i i (new_write s i x v) (omega arith) ∙ ap (waiting_of i i) (sym new))))

  pub write-there : (j : ℕ) → j ≢ i → desk (write s i x v) j ≡ desk s j
  write-there j ne =
      apply-there (raise s i) i i (next_number s i) (new_write s i x v) (λ t h. absurd (omega arith)) j ne (ap (waiting_of j i) (sym new))
      ∙ process-is refl (upd_other s.clock i _ j ne) refl refl refl
