-- Source document 003, section 4: the data structures of a process p_i, and figures 4 and 5 line by line, as atomic actions.
-- In the text of 003 that we have, figure 4 stands whole. Of figure 5 (the read procedure and the synchronization thread) only the
-- caption is there: its body is missing. Its lines are taken from these places:
--   READ, line 1         section 4.2, "At line 1, p_i incorporates ..", "a component wise maximum"; proof of lemma 1
--   READ, line 2         section 4.2, "Then the requested value is returned"
--   thread, line 1       section 4.2, "arrives at p_i, a new thread is spawned"; proof of lemma 3, "receives .. (line 1, Fig. 5)"
--   thread, line 2       section 4.2, the condition in brackets after "This means that"; proof of theorem 3, condition (1)
--   thread, lines 3 to 5 section 4.2, "lines 3 to 5 are executed atomically"; line 5: proof of lemma 1, "line 5 of the synchronization
--                        thread". No sentence says lines 3 and 4 one by one: they are figure 4's, with u for i, by what section 4.1
--                        says of Apply[u] and section 3.2 of the apply event.
use mathlib.Core.{Path.{◌≡◌}, Logic.{◌≢◌}, Bool.{true, false}, List.{List, [], ◌∷◌, map}, Option.{Option, none, some}}
use Rattle.std.specs.Prelude.{ℕ, suc, ◌≤◌, max, eqb}
use Rattle.laws.specs.Update.{upd, upd2}
use Rattle.machine.specs.{Table.{Vec, zeros, Name, name, Cell, blank, set, held, Open, State}, Answer.{Shown, unset, shown, Answer}}
use Rattle.machine.specs.{Answer.{began, shows, wrote, holds, applies, judged, refused}, Steps.{Step, Read, Write, Deliver, Trip}}
use Rattle.machine.specs.{Steps.{Out}, Rules.{In}}

-- The value v that is written: here a status, with the process that writes it.
pub record Value : Type 0 where
  pub status : ℕ
  pub writer : ℕ

-- the message m(x_h, v, Write_co)
pub record Message : Type 0 where
  pub location : ℕ
  pub value : Value
  pub Write_co : Vec

-- section 4.1, with the memory x_1 .. x_m (none: the initial value ⊥) and the threads that wait at line 2 of figure 5, each under
-- its sender u and its number, which is Write_co[u] (observation 2)
pub record Process : Type 0 where
  pub Apply : Vec
  pub Write_co : Vec
  pub LastWriteOn : ℕ → Vec
  pub memory : ℕ → Option Value
  pub waiting : ℕ → ℕ → Option Message

-- "initially set to zero", "initialized to [0, 0, ..., 0]"; nothing was written and nothing has arrived
abbrev pub start : Process
start = record { Apply = zeros; Write_co = zeros; LastWriteOn = λ h. zeros; memory = λ h. none; waiting = λ u k. none }

-- the assignments --

abbrev pub set_Write_co : Vec → Process → Process
set_Write_co a p = record { Apply = p.Apply; Write_co = a; LastWriteOn = p.LastWriteOn; memory = p.memory; waiting = p.waiting }

-- apply(v, x_h)
abbrev pub set_memory : ℕ → Value → Process → Process
set_memory h v p = record { Apply = p.Apply; Write_co = p.Write_co; LastWriteOn = p.LastWriteOn; memory = upd p.memory h (some v); waiting = p.waiting }

-- Apply[u] := Apply[u] + 1
abbrev pub count_Apply : ℕ → Process → Process
count_Apply u p = record { Apply = upd p.Apply u (suc (p.Apply u)); Write_co = p.Write_co; LastWriteOn = p.LastWriteOn; memory = p.memory; waiting = p.waiting }

-- LastWriteOn[h] := w
abbrev pub set_Last_write_on : ℕ → Vec → Process → Process
set_Last_write_on h w p = record { Apply = p.Apply; Write_co = p.Write_co; LastWriteOn = upd p.LastWriteOn h w; memory = p.memory; waiting = p.waiting }

abbrev pub set_waiting : ℕ → ℕ → Option Message → Process → Process
set_waiting u k m p = record { Apply = p.Apply; Write_co = p.Write_co; LastWriteOn = p.LastWriteOn; memory = p.memory; waiting = upd2 p.waiting u k m }

-- figure 4, WRITE(x_h, v) at p_i --

-- line 1: Write_co[i] := Write_co[i] + 1
abbrev pub write_1 : ℕ → Process → Process
write_1 i p = set_Write_co (upd p.Write_co i (suc (p.Write_co i))) p

-- line 2: send m(x_h, v, Write_co) to all other processes
abbrev pub write_2 : ℕ → Value → Process → Message
write_2 h v p = record { location = h; value = v; Write_co = p.Write_co }

-- lines 3, 4, 5
abbrev pub write_3_5 : ℕ → ℕ → Value → Process → Process
write_3_5 i h v p = set_Last_write_on h p.Write_co (count_Apply i (set_memory h v p))

abbrev pub WRITE : ℕ → ℕ → Value → Process → Process
WRITE i h v p = write_3_5 i h v (write_1 i p)

abbrev pub sent : ℕ → ℕ → Value → Process → Message
sent i h v p = write_2 h v (write_1 i p)

-- figure 5, READ(x_h): line 1, for all k, Write_co[k] := max(Write_co[k], LastWriteOn[h][k]); line 2, return x_h --

abbrev pub READ : ℕ → Process → Process
READ h p = set_Write_co (λ k. max (p.Write_co k) (p.LastWriteOn h k)) p

abbrev pub returned : ℕ → Process → Option Value
returned h p = p.memory h

-- figure 5, the synchronization thread of p_i --

-- line 1: on receipt of m from p_u
abbrev pub receipt : ℕ → Message → Process → Process
receipt u m p = set_waiting u (m.Write_co u) (some m) p

-- line 2: wait until, for all t ≠ u, W_co[t] ≤ Apply[t], and Apply[u] = W_co[u] - 1
pub record Enabled (n : ℕ) (p : Process) (u : ℕ) (m : Message) : Type 0 where
  pub others : (t : ℕ) → In n t → t ≢ u → m.Write_co t ≤ p.Apply t
  pub own : suc (p.Apply u) ≡ m.Write_co u

-- lines 3, 4, 5, and the thread ends
abbrev pub resume : ℕ → Message → Process → Process
resume u m p =
    set_waiting u (m.Write_co u) none (set_Last_write_on m.location m.Write_co (count_Apply u (set_memory m.location m.value p)))

-- the atomic actions of p_i, of n processes --

pub data Action : Type 0 where
  a_write : (h : ℕ) → Value → Action
  a_read : (h : ℕ) → Action
  a_receipt : (u : ℕ) → Message → Action
  -- the waiting thread of message k of p_u goes on
  a_thread : Name → Action

pub data Does (n i : ℕ) (p : Process) : Action → Process → Type 0 where
  does_write : {h : ℕ} {v : Value} → Does n i p (a_write h v) (WRITE i h v p)
  does_read : {h : ℕ} → Does n i p (a_read h) (READ h p)
  does_receipt : {u : ℕ} {m : Message} → Does n i p (a_receipt u m) (receipt u m p)
  does_thread : {u k : ℕ} (m : Message) → p.waiting u k ≡ some m → Enabled n p u m → Does n i p (a_thread (name u k)) (resume u m p)

pub data ProcessRuns (n i : ℕ) : Process → List Action → Process → Type 0 where
  ends : {p : Process} → ProcessRuns n i p [] p
  then : {p q r : Process} {a : Action} {l : List Action} → Does n i p a q → ProcessRuns n i q l r → ProcessRuns n i p (a ∷ l) r

-- no waiting thread is enabled
abbrev pub Idle : ℕ → Process → Type 0
Idle n p = (u k : ℕ) (m : Message) → p.waiting u k ≡ some m → Enabled n p u m → ⊥

-- A desk of the table as a process --

abbrev pub vector_of : Cell → Vec
vector_of blank = zeros
vector_of (set v u w) = w

abbrev pub value_of : Cell → Option Value
value_of blank = none
value_of (set v u w) = some (record { status = v; writer = u })

abbrev pub message_of : ℕ → Open → Message
message_of u w = record { location = w.cell; value = record { status = w.status; writer = u }; Write_co = w.vector }

-- the message of an open write of u that has the mark p at i
abbrev pub marked_of : ℕ → ℕ → ℕ → Option Open → Option Message
marked_of p i u none = none
marked_of p i u (some w) = elim (eqb (w.marks i) p) [ true ↦ some (message_of u w) | false ↦ none ]

-- held is waiting
abbrev pub waiting_of : ℕ → ℕ → Option Open → Option Message
waiting_of i u o = marked_of held i u o

abbrev pub desk : State → ℕ → Process
desk s i = record {
  Apply = s.applied i;
  Write_co = s.clock i;
  LastWriteOn = λ x. vector_of (s.cell i x);
  memory = λ x. value_of (s.cell i x);
  waiting = λ u k. waiting_of i u (s.opens u k);
}

-- The actions that a step's answer reports --

-- the receipt of the open write's message
abbrev pub receipt_of : ℕ → Option Open → List Action → List Action
receipt_of u none l = l
receipt_of u (some w) l = a_receipt u (message_of u w) ∷ l

abbrev pub deliver_actions : State → ℕ → ℕ → Answer → List Action
deliver_actions s u k began = []
deliver_actions s u k (shows v) = []
deliver_actions s u k (wrote w) = []
deliver_actions s u k (holds w) = receipt_of u (s.opens u k) []
deliver_actions s u k (applies l) = receipt_of u (s.opens u k) (map a_thread l)
deliver_actions s u k (judged v) = []
deliver_actions s u k (refused r) = []

abbrev pub actions_of : State → Step → Answer → List Action
actions_of s (Read i x) a = a_read x ∷ []
actions_of s (Write i x v) a = a_write x (record { status = v; writer = i }) ∷ []
actions_of s (Deliver i u k) a = deliver_actions s u k a
actions_of s (Trip i xs) a = map a_read xs

abbrev pub actor : Step → ℕ
actor (Read i x) = i
actor (Write i x v) = i
actor (Deliver i u k) = i
actor (Trip i xs) = i

-- "every accepted step of the machine is a sequence of such actions, and after it no waiting thread is enabled"
pub record PaperRun (s : State) (a : Step) (o : Out) : Type 0 where
  pub runs : ProcessRuns s.setup.desks (actor a) (desk s (actor a)) (actions_of s a o.answer) (desk o.state (actor a))
  pub others : (j : ℕ) → j ≢ actor a → desk o.state j ≡ desk s j
  pub idle : (j : ℕ) → Idle s.setup.desks (desk o.state j)

-- What is delivered is what was sent, and what a read answers is what figure 5 returns --

-- an open write that stays open keeps its message: cell, status and vector
abbrev pub KeepsMessage : ℕ → Option Open → Option Open → Type 0
KeepsMessage u o o' = (w w' : Open) → o ≡ some w → o' ≡ some w' → message_of u w' ≡ message_of u w

-- an open write of u with the message m
pub record OpenAs (u : ℕ) (m : Message) (o : Option Open) : Type 0 where
  pub entry : Open
  pub is : o ≡ some entry
  pub message : message_of u entry ≡ m

-- what a value and its LastWriteOn vector show: status, writer, and the writer's place in the vector
abbrev pub shown_returned : Option Value → Vec → Shown
shown_returned none w = unset
shown_returned (some v) w = shown v.status v.writer (w v.writer)
