-- Source document 003, sections 3.1 and 4, as a whole: n processes and the messages between them; and what a schedule of the machine is
-- in that system. (Proofs/PaperRuns: `desk-starts`, `runs_as_paper`, `received-is-sent`.)
use mathlib.Core.{Path.{◌≡◌}, Bool.{true, false, not, ◌&&◌}, List.{List, [], ◌∷◌, ◌++◌, map}, Option.{Option, none, some}}
use Rattle.std.specs.Prelude.{ℕ, eqb}
use Rattle.laws.specs.Update.{upd, upd2}
use Rattle.machine.specs.{Table.{Name, name, away, State, fresh}, Answer.{Answer, began, shows, wrote, holds, applies, judged}}
use Rattle.machine.specs.{Answer.{refused}, Steps.{within, Step, Write, Deliver, Out, step}, Rules.{In}, Paper.{Value, Message}}
use Rattle.machine.specs.Paper.{Process, start, sent, Action, a_write, a_read, a_receipt, a_thread, Does, desk, marked_of, actions_of}
use Rattle.machine.specs.{Paper.{actor}, History.{Act, take_step, save_and_load, run}}

-- what was sent to each process and is not received there yet: a message under its sender and its number, as where it waits
abbrev pub Ways : Type 0
Ways = (to from number : ℕ) → Option Message

pub record System : Type 0 where
  pub process : ℕ → Process
  pub ways : Ways

-- every process at its start, nothing sent
abbrev pub initially : System
initially = record { process = λ i. start; ways = λ j u k. none }

-- figure 4, line 2: m is sent by p_i to each other of the n processes
abbrev pub send : ℕ → ℕ → Message → Ways → Ways
send n i m w j = elim (within n j && not (eqb j i)) [ true ↦ upd2 (w j) i (m.Write_co i) (some m) | false ↦ w j ]

-- m from p_u arrives at p_i
abbrev pub take : ℕ → ℕ → Message → Ways → Ways
take i u m w = upd w i (upd2 (w i) u (m.Write_co u) none)

-- What an action of p_i, that is at p, does to the messages. "Each message sent by a process is eventually received exactly once and no
-- spurious message can ever be delivered" (section 3.1): a receipt takes what was sent and not yet received there. No message takes
-- another's place on the way; and a number is sent once, as line 1 of figure 4 raises it. Not said: "eventually", of runs that end.
pub data Carries (n i : ℕ) (p : Process) (w : Ways) : Action → Ways → Type 0 where
  sends : {h : ℕ} {v : Value} → ((j : ℕ) → w j i ((sent i h v p).Write_co i) ≡ none) → Carries n i p w (a_write h v) (send n i (sent i h v p) w)
  takes : {u : ℕ} {m : Message} → w i u (m.Write_co u) ≡ some m → Carries n i p w (a_receipt u m) (take i u m w)
  none_by_read : {h : ℕ} → Carries n i p w (a_read h) w
  none_by_thread : {u : Name} → Carries n i p w (a_thread u) w

-- p_i does an action
pub record Deed : Type 0 where
  pub process : ℕ
  pub action : Action

abbrev pub deed : ℕ → Action → Deed
deed i a = record { process = i; action = a }

pub data Acts (n : ℕ) (c : System) : Deed → System → Type 0 where
  acts : {i : ℕ} {a : Action} {p : Process} {w : Ways} → In n i → Does n i (c.process i) a p → Carries n i (c.process i) c.ways a w
      → Acts n c (deed i a) (record { process = upd c.process i p; ways = w })

pub data SystemRun (n : ℕ) : System → List Deed → System → Type 0 where
  over : {c : System} → SystemRun n c [] c
  and_then : {c d e : System} {a : Deed} {l : List Deed} → Acts n c a d → SystemRun n d l e → SystemRun n c (a ∷ l) e

-- The machine's table as such a system --

-- not received is on its way
abbrev pub ways_of : State → Ways
ways_of s j = elim (within s.setup.desks j) [ true ↦ λ u k. marked_of away j u (s.opens u k) | false ↦ λ u k. none ]

abbrev pub system : State → System
system s = record { process = desk s; ways = ways_of s }

-- what a step does, by its answer: nothing if it is refused
abbrev pub deeds_of : State → Step → Answer → List Deed
deeds_of s a began = []
deeds_of s a (shows v) = map (deed (actor a)) (actions_of s a (shows v))
deeds_of s a (wrote w) = map (deed (actor a)) (actions_of s a (wrote w))
deeds_of s a (holds w) = map (deed (actor a)) (actions_of s a (holds w))
deeds_of s a (applies l) = map (deed (actor a)) (actions_of s a (applies l))
deeds_of s a (judged v) = map (deed (actor a)) (actions_of s a (judged v))
deeds_of s a (refused r) = []

-- the first of the actions is the receipt of m from p_u
pub record Receives (u : ℕ) (m : Message) (l : List Action) : Type 0 where
  pub rest : List Action
  pub is : l ≡ a_receipt u m ∷ rest

module _ (reload : State → State) where
  unfoldable pub deeds : State → List Act → List Deed
  deeds s [] = []
  deeds s (take_step a ∷ l) =
      let o : Out = step s a in
      deeds_of s a o.answer ++ deeds o.state l
  deeds s (save_and_load ∷ l) = deeds (reload s) l

  -- a schedule of the machine is a run of the paper's n processes from their start, nothing sent, to where the table says that they are
  abbrev pub RunsAsPaper : (n m : ℕ) → List Act → Type 0
  RunsAsPaper n m l = SystemRun n initially (deeds (fresh n m) l) (system (run reload (fresh n m) l))

  -- a write of the schedule was answered u.k, and m is what its figure 4, line 2 sent
  pub record SentIn (s : State) (l : List Act) (u k : ℕ) (m : Message) : Type 0 where
    pub before : List Act
    pub cell : ℕ
    pub status : ℕ
    pub after : List Act
    pub is : l ≡ before ++ take_step (Write u cell status) ∷ after
    pub answered : (step (run reload s before) (Write u cell status)).answer ≡ wrote (name u k)
    pub message : sent u cell (record { status = status; writer = u }) (desk (run reload s before) u) ≡ m

  -- a delivery of u.k after l, if accepted: u.k was sent in l, and what was sent as u.k is what is received
  pub record ReceivedIsSent (s : State) (l : List Act) (i u k : ℕ) : Type 0 where
    pub was_sent : (m : Message) × SentIn s l u k m
    pub received : (m : Message) → SentIn s l u k m
        → Receives u m (actions_of (run reload s l) (Deliver i u k) (step (run reload s l) (Deliver i u k)).answer)
