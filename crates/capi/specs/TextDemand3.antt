-- Demand 3 of the lines of schedule text, and what a held answer to one more names: the table that they leave, and the history of their own
-- steps.
use Rattle.std.specs.Prelude.{◌≡◌, ◌∷◌, ◌++◌}
use Rattle.laws.specs.{Kit.{refl, sym, ap, subst, ◌∙◌, List, [], Option, none, some, Bool, true, false, ℕ}, Says.{clash}}
use Rattle.laws.specs.Loop.{pick, cases}
use Rattle.machine.specs.{Table.{State, most_desks, most_cells, fresh}, Answer.{began}, Steps.{begins, begin, step}, Rules.{In}}
use Rattle.machine.specs.{History.{Act, take_step, run, history}, Demand3.{Demand3}, HoldNames.{HoldNames}}
use Rattle.rules.specs.Mirror.Test.{sizes_test}
use Rattle.schedule.specs.Grammar.{Line, begin_line, step_line, line_of}
use Rattle.session.specs.{Session.{Session, Turn, begun, turn, line_answer}, Transcript.{TextLine, lines_of, session_of, session_from}}
use Rattle.image.specs.Reload.{reload}
use Rattle.image.proofs.Reload.{demand_3, hold-names}
use Rattle.capi.specs.Link.CutText.{session-append}

-- what a line does to a table: a step, or nothing (it is no step, or a further N)
abbrev pub act_in : Option Line → List Act
act_in none = []
act_in (some (begin_line n m)) = []
act_in (some (step_line a)) = take_step a ∷ []

abbrev said : TextLine → Option Line
said l = pick l.ended (line_of l.bytes) none

unfoldable pub acts_of : List TextLine → List Act
acts_of [] = []
acts_of (l ∷ ls) = act_in (said l) ++ acts_of ls

-- the line that begins the table: those before it leave none, and those behind it act on it
pub record BegunAt (ls : List TextLine) : Type 0 where
  pub before : List TextLine
  pub line : TextLine
  pub after : List TextLine
  pub n : ℕ
  pub m : ℕ
  pub desks : In most_desks n
  pub cells : In most_cells m
  pub split : ls ≡ before ++ (line ∷ after)
  pub none_yet : session_of none before ≡ none
  pub begins_it : line_answer none line.bytes line.ended ≡ record { answer = began; session = some (fresh n m) }

-- lines that leave a table
pub record Told (ls : List TextLine) (s : State) : Type 0 where
  pub begun : BegunAt ls
  pub leaves : s ≡ run reload (fresh begun.n begun.m) (acts_of begun.after)
  pub holds : Demand3 s (history reload (fresh begun.n begun.m) (acts_of begun.after))
  pub names : HoldNames s (history reload (fresh begun.n begun.m) (acts_of begun.after))

one_line : (s : State) (o : Option Line) (ls : List TextLine) → ((t : State) → session_of (some t) ls ≡ some (run reload t (acts_of ls)))
    → session_of (turn (some s) o).session ls ≡ some (run reload s (act_in o ++ acts_of ls))
unfolding run
one_line s none ls ih = ih s
one_line s (some (begin_line n m)) ls ih = ih s
one_line s (some (step_line a)) ls ih = ih (step s a).state

acts_leave : (s : State) (ls : List TextLine) → session_of (some s) ls ≡ some (run reload s (acts_of ls))
unfolding session_of acts_of run
acts_leave s [] = refl
acts_leave s (l ∷ ls) = one_line s (said l) ls (λ t. acts_leave t ls)

no_table : {R : Type 0} (s : State) → ◌≡◌ {A = Session} none (some s) → R
no_table s e = clash (ap (λ (z : Session). is_some z) e)
  where
    is_some : Session → Bool
    is_some none = false
    is_some (some t) = true

accepted : (n m : ℕ) → begins n m ≡ true → begin n m ≡ record { answer = began; table = some (fresh n m) }
unfolding begin
accepted n m t = rw (t, begin)

none-begun : (n m : ℕ) → begins n m ≡ false → (begin n m).table ≡ none
unfolding begin
none-begun n m t = rw (t, begin)

begun-at : (ls : List TextLine) (s : State) → session_of none ls ≡ some s → BegunAt ls
unfolding session_of
begun-at [] s e = no_table s e
begun-at (l ∷ ls) s e = go (λ h. begun-at ls s h) (said l) refl e
  where
    later : (session_of none ls ≡ some s → BegunAt ls) → (turn none (said l)).session ≡ none → session_of (turn none (said l)).session ls ≡ some s → BegunAt (l ∷ ls)
    later ih q h =
        let b = ih (rw q at h) in
        record {
          before = l ∷ b.before;
          line = b.line;
          after = b.after;
          n = b.n;
          m = b.m;
          desks = b.desks;
          cells = b.cells;
          split = ap (λ (x : List TextLine). l ∷ x) b.split;
          none_yet = rw q b.none_yet;
          begins_it = b.begins_it;
        }

    go : (session_of none ls ≡ some s → BegunAt ls) → (o : Option Line) → said l ≡ o → session_of (turn none (said l)).session ls ≡ some s → BegunAt (l ∷ ls)
    go ih none q h = later ih (rw q) h
    go ih (some (step_line a)) q h = later ih (rw q) h
    go ih (some (begin_line n m)) q h =
        cases (begins n m)
        (λ t. record {
          before = [];
          line = l;
          after = ls;
          n = n;
          m = m;
          desks = ((sizes_test n m).says.to t).0;
          cells = ((sizes_test n m).says.to t).1;
          split = refl;
          none_yet = refl;
          begins_it = ap (turn none) q ∙ ap begun (accepted n m t);
        })
        (λ t. later ih (ap (λ (o : Option Line). (turn none o).session) q ∙ none-begun n m t) h)

abbrev table_or : State → Session → State
table_or s none = s
table_or s (some t) = t

-- of all lines that leave a table
pub lines_demand_3 : (ls : List TextLine) (s : State) → session_of none ls ≡ some s → Told ls s
unfolding session_of
lines_demand_3 ls s e =
    let b = begun-at ls s e in
    let acts = acts_of b.after in
    let t = run reload (fresh b.n b.m) acts in
    let left : session_of none ls ≡ some t =
    ap (session_of none) b.split ∙ session-append none b.before (b.line ∷ b.after)
    ∙ ap (λ (z : Session). session_of z (b.line ∷ b.after)) b.none_yet ∙ ap (λ (x : Turn). session_of x.session b.after) b.begins_it
    ∙ acts_leave (fresh b.n b.m) b.after in
    let q : s ≡ t = ap (table_or s) (sym e ∙ left) in
    let h = history reload (fresh b.n b.m) acts in
    record {
      begun = b;
      leaves = q;
      holds = subst (λ (x : State). Demand3 x h) (sym q) (demand_3 b.n b.m b.desks b.cells acts);
      names = subst (λ (x : State). HoldNames x h) (sym q) (hold-names b.n b.m b.desks b.cells acts);
    }

-- of every text that leaves a table
pub text_demand_3 : (text : List ℕ) (s : State) → session_from none text 0 ≡ some s → Told (lines_of text) s
unfolding session_from
text_demand_3 text s e = lines_demand_3 (lines_of text) s e
