-- A run over the lines of a text: how far it got, what it wrote, and the session it left.
use Rattle.std.specs.Prelude.{◌≡◌, ◌++◌, ◌+◌, ◌<◌, ◌≤◌, Option, Some, None}
use Rattle.laws.specs.Kit.{refl, sym, ap, ◌∙◌, List, [], append_assoc, append-nil, none, Bool, true, ℕ}
use Rattle.laws.specs.Kit.{min, max, arith, leb, ltb, length, take, drop, length-append, sets, sets-eq, take_at, le-leb}
use Rattle.laws.specs.{Loop.{pick}, Update.{same_or}, Stores.{Stored}}
use Rattle.schedule.specs.{Grammar.{line_of}, Lines.{line_at, ended_at, next_at}, Link.LineLaws.{ended_is, next-is, next_more}}
use Rattle.schedule.specs.Link.LineLaws.{next_le}
use Rattle.answer.specs.{Bytes.{answer_line, most_answer}, Outcome.{upto, written_of, put_answer, buffer}}
use Rattle.table.specs.declared.Table.{Table}
use Rattle.rules.specs.Mirror.Test.{owns}
use Rattle.session.specs.{Session.{Session}, Transcript.{transcript_from, session_from}}
use Rattle.session.specs.{TranscriptLaws.{turn_at, from-line, left-line}, Holds.{Holds}}

-- Lines one by one, while there is text and room for a line of any answer: each is answered by its turn, and the answer's line stands behind those
-- before it. From the session z at a place, with len bytes of the room in use, to the session and the place reached.
pub data Passed (text : List ℕ) (room : ℕ) : (z : Session) (from len : ℕ) (session : Session) (at : ℕ) (lines : List ℕ) → Type 0 where
  here : {z : Session} {at len : ℕ} → Passed text room z at len z at []
  line : {z session : Session} {from len at : ℕ} {lines : List ℕ} → from < length text → len + most_answer ≤ room
      → Passed text room (turn_at z text from).session (next_at text from) (len + length (answer_line (turn_at z text from).answer)) session at lines
      → Passed text room z from len session at (answer_line (turn_at z text from).answer ++ lines)

-- A run from the session z at place `from` on: the lines that it passed, their answers at the front of the buffer, the session that they left. It
-- goes on to the end of the text, or until a line of any answer has no room.
pub record Ran (z : Session) (text : List ℕ) (from : ℕ) (out : List ℕ) (t : Table) (at len : ℕ) (out' : List ℕ) : Type 0 where
  pub session : Session
  pub lines : List ℕ
  pub passed : Passed text (length out) z from 0 session at lines
  pub stops : at < length text → length out < len + most_answer
  pub holds : Holds t session
  pub stored : out' ≡ sets out 0 lines
  pub len_is : len ≡ length lines
  pub fits : length lines ≤ length out

-- for every session that the values held
abbrev pub Runs : (t : Table) (text : List ℕ) (from : ℕ) (out : List ℕ) (t' : Table) (at len : ℕ) (out' : List ℕ) → Type 0
Runs t text from out t' at len out' =
    (z : Session) → Holds t z → Ran z text from out t' at len out'

module _ {text : List ℕ} {room : ℕ} where
  -- one line more at the end
  pub passed_on : {z session : Session} {from len at : ℕ} {lines : List ℕ} → Passed text room z from len session at lines → at < length text → len + length lines + most_answer ≤ room
      → Passed text room z from len (turn_at session text at).session (next_at text at) (lines ++ answer_line (turn_at session text at).answer)
  passed_on {z} {from = from} {len = len} here h r =
      rw (← append-nil (answer_line (turn_at z text from).answer)) (line {len = len} h (omega arith) here)
  passed_on {z} {session} {from} {len} {at} (line {lines = lines} g q p) h r =
      let w = answer_line (turn_at z text from).answer in
      rw append_assoc (line g q (passed_on p h (omega (arith, length-append w lines))))

  -- what is left from there on gives what the whole gives
  pub passed-rest : {z session : Session} {from len at : ℕ} {lines : List ℕ} → Passed text room z from len session at lines
      → transcript_from z text from ≡ lines ++ transcript_from session text at
  passed-rest here = refl
  passed-rest {z} {session} {from} {at = at} (line {lines = lines} g q p) =
      let w = answer_line (turn_at z text from).answer in
      from-line z text from g ∙ ap (λ (x : List ℕ). w ++ x) (passed-rest p) ∙ sym (append_assoc w lines (transcript_from session text at))

  pub passed-leaves : {z session : Session} {from len at : ℕ} {lines : List ℕ} → Passed text room z from len session at lines
      → session_from z text from ≡ session_from session text at
  passed-leaves here = refl
  passed-leaves {z} {from = from} (line g q p) = left-line z text from g ∙ passed-leaves p

  pub passed-within : {z session : Session} {from len at : ℕ} {lines : List ℕ} → Passed text room z from len session at lines → (from ≤ at) × (at ≤ max from (length text))
  passed-within here = (omega arith, omega arith)
  passed-within {from = from} (line g q p) =
      let h = passed-within p in
      (omega (arith, h.0, next_more text from g), omega (arith, h.1, next_le text from))

  -- it stands where it began only if it passed no line
  pub passed_still : {z session : Session} {from len at : ℕ} {lines : List ℕ} → Passed text room z from len session at lines → at ≡ from → length lines ≡ 0
  passed_still here e = refl
  passed_still {from = from} (line g q p) e = absurd (omega (arith, (passed-within p).0, next_more text from g))

  -- no choice is left: where it stops is fixed, and so are the lines and the session
  pub passed-once : {z s t : Session} {from len a b : ℕ} {k l : List ℕ} → Passed text room z from len s a k → Passed text room z from len t b l
      → (a < length text → room < len + length k + most_answer) → (b < length text → room < len + length l + most_answer)
      → (s ≡ t) × ((a ≡ b) × (k ≡ l))
  passed-once here here f g = (refl, (refl, refl))
  passed-once here (line h q p) f g = absurd (omega (arith, f h))
  passed-once (line h q p) here f g = absurd (omega (arith, g h))
  passed-once {z} {from = from} {len = len} (line {lines = k} h q p) (line {lines = l} h' q' p') f g =
      let w = answer_line (turn_at z text from).answer in
      let r = passed-once p p' (λ x. omega (arith, f x, length-append w k)) (λ x. omega (arith, g x, length-append w l)) in
      (r.0, (r.1.0, ap (λ (x : List ℕ). w ++ x) r.1.1))

-- what a run tells of the text
module _ {z : Session} {text : List ℕ} {from : ℕ} {out : List ℕ} {t : Table} {at len : ℕ} {out' : List ℕ}
    (r : Ran z text from out t at len out') where
  pub ran_rest : transcript_from z text from ≡ r.lines ++ transcript_from r.session text at
  ran_rest = passed-rest r.passed

  pub ran_leaves : session_from z text from ≡ session_from r.session text at
  ran_leaves = passed-leaves r.passed

  pub ran_within : (from ≤ at) × (at ≤ max from (length text))
  ran_within = passed-within r.passed

  -- with room for a line it gets further
  pub ran_progress : from < length text → most_answer ≤ length out → from < at
  ran_progress h g = same_or at from
      (λ q. absurd (let x = r.stops (omega arith) in omega (arith, passed_still r.passed q, r.len_is)))
      (λ q. omega (arith, ran_within.0))

  -- two runs of one text from one session into one buffer
  module _ {t' : Table} {at' len' : ℕ} {out'' : List ℕ} (q : Ran z text from out t' at' len' out'') where
    same-run : (r.session ≡ q.session) × ((at ≡ at') × (r.lines ≡ q.lines))
    same-run = passed-once r.passed q.passed (λ h. omega (arith, r.stops h, r.len_is)) (λ h. omega (arith, q.stops h, q.len_is))

    -- the same session, place, number of bytes, and buffer
    pub one-run : (r.session ≡ q.session) × ((at ≡ at') × ((len ≡ len') × (out' ≡ out'')))
    one-run =
        let e = same-run in
        (e.0, (e.1.0, (r.len_is ∙ ap length e.1.1 ∙ sym q.len_is, r.stored ∙ ap (sets out 0) e.1.1 ∙ sym q.stored)))

-- a run under way
pub record Going (z : Session) (text : List ℕ) (from : ℕ) (out : List ℕ) (t : Table) (at len : ℕ) (out' : List ℕ) : Type 0 where
  pub session : Session
  pub lines : List ℕ
  pub passed : Passed text (length out) z from 0 session at lines
  pub holds : Holds t session
  pub stored : out' ≡ sets out 0 lines
  pub len_is : len ≡ length lines
  pub fits : length lines ≤ length out

pub going_start : {z : Session} {text : List ℕ} {from : ℕ} {out : List ℕ} {t : Table} → Holds t z
    → Going z text from out t from 0 out
going_start {z} h = record { session = z; lines = []; passed = here; holds = h; stored = refl; len_is = refl; fits = omega arith }

module _ {z : Session} {text : List ℕ} {from : ℕ} {out : List ℕ} {t : Table} {at len : ℕ} {out' : List ℕ}
    (g : Going z text from out t at len out') where
  -- the end of the text, or no room for every answer
  pub going_end : (at < length text → length out < len + most_answer) → Ran z text from out t at len out'
  going_end h =
      record { session = g.session; lines = g.lines; passed = g.passed; stops = h; holds = g.holds; stored = g.stored; len_is = g.len_is; fits = g.fits }

-- the loop of the code: its own counts, and what holds of any session that the table t was when it began
pub record InLoop (t : Table) (text : List ℕ) (from : ℕ) (out own : List ℕ) (t' : Table) (at len : ℕ) (out' : List ℕ) : Type 0 where
  pub own_is : own ≡ owns t'.core.desks
  pub long : length out' ≡ length out
  pub room : len ≤ length out
  pub going : (z : Session) → Holds t z → Going z text from out t' at len out'

-- the line at a place, as the code finds it
pub said-is : (text : List ℕ) (at : ℕ) {line : List ℕ} {end : ℕ} {ended : Bool} → at ≤ length text → line ≡ line_at text at → end ≡ at + length line → ended ≡ ltb end (length text)
    → pick ended (line_of line) none ≡ pick (ended_at text at) (line_of (line_at text at)) none
said-is text at {line} {end} {ended} h el ee eb =
    let q : end ≡ at + length (line_at text at) = ee ∙ ap (λ (x : List ℕ). at + length x) el in
    let b : ended ≡ ended_at text at = eb ∙ ap (λ (x : ℕ). ltb x (length text)) q ∙ ended_is text at h in
    rw (b, el)

pub next_place : (text : List ℕ) (at : ℕ) {line : List ℕ} {end at' : ℕ} → at ≤ length text → line ≡ line_at text at → end ≡ at + length line → at' ≡ min (end + 1) (length text)
    → at' ≡ next_at text at
next_place text at {line} {end} {at'} h el ee ea =
    let q : end ≡ at + length (line_at text at) = ee ∙ ap (λ (x : List ℕ). at + length x) el in
    ea ∙ ap (λ (x : ℕ). min (x + 1) (length text)) q ∙ sym (next-is text at h)

-- a line that has room
module _ (out : List ℕ) (at : ℕ) (line out' : List ℕ) (w : Option ℕ) (h : at + most_answer ≤ length out)
    (e : (written_of w ≡ put_answer out at line) × ((out' ≡ buffer out at line) × (length line ≤ most_answer))) where
  room : leb (at + length line) (length out) ≡ true
  room = le-leb (at + length line) (length out) (omega (arith, e.1.1))

  pub print_upto : (p : ℕ) → w ≡ Some p → Stored out at line out' p × (p ≤ length out)
  print_upto p q =
      let a : written_of w ≡ upto (at + length line) = rw room at e.0 in
      let b : written_of w ≡ upto p = ap written_of q in
      let r : p ≡ at + length line = cc in
      (record { stored = rw room at e.1.0; behind = r }, omega (arith, e.1.1))

  pub print_short : {R : Type 0} → w ≡ None → R
  print_short q =
      let a : written_of w ≡ upto (at + length line) = rw room at e.0 in
      let b : written_of w ≡ written_of None = ap written_of q in
      absurd (let z : ◌≡◌ {A = ℕ} 0 1 = cc in omega arith)

-- the part of the buffer that a run filled
pub ran_part : {z : Session} {text : List ℕ} {from : ℕ} {out : List ℕ} {t : Table} {at len : ℕ} {out' : List ℕ}
    (r : Ran z text from out t at len out') → take len out' ≡ r.lines
ran_part {out} {len} {out'} r =
    let f : 0 + length r.lines ≤ length out = omega (arith, r.fits) in
    rw (r.len_is, r.stored, sets-eq r.lines out 0 f) (take_at r.lines (drop (0 + length r.lines) out) (length r.lines) refl)
