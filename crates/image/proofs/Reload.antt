-- Saving a table and loading it again, as a step of a schedule: demand 3, what a held answer names, the condition on
-- blanks and the paper's run with nothing assumed.
use Rattle.std.specs.Prelude.{◌≡◌, ◌≢◌, ◌++◌, ◌↔◌}
use Rattle.laws.specs.Kit.{ap, List, Memᴰ, ℕ}
use Rattle.machine.specs.{Table.{most_desks, most_cells, Name, State, fresh}, Answer.{unset, holds}, Steps.{shown_at, Deliver, step}}
use Rattle.machine.specs.{Rules.{In, Rules}, Refusals.{Accepted}, History.{Event, desk_list, Act, run, history}, Blanks.{Unwritten}}
use Rattle.machine.specs.{Demand3.{Has, Demand3}, HoldNames.{HoldNames}, PaperRuns.{RunsAsPaper, ReceivedIsSent}}
use Rattle.machine.specs.Past.{X_co_safe, Enabling}
use Rattle.machine.proofs.Blanks as blanks
use Rattle.machine.proofs.PaperRuns as paper
use Rattle.machine.proofs.Past as past
use Rattle.machine.proofs.Demand3 as machine
use Rattle.machine.proofs.HoldNames as named
use Rattle.image.proofs.Load.{load-encode}
use Rattle.image.specs.Reload.{after_load, reload}

pub reload-same : (s : State) → Rules s → reload s ≡ s
unfolding reload
reload-same s r = ap (after_load s) (load-encode s r)

-- of every schedule from a fresh table, with saves and reloads anywhere
pub demand_3 : (n m : ℕ) → In most_desks n → In most_cells m → (l : List Act)
    → Demand3 (run reload (fresh n m) l) (history reload (fresh n m) l)
demand_3 n m = machine.demand_3 reload reload-same n m

-- what a held answer names
pub hold-names : (n m : ℕ) → In most_desks n → In most_cells m → (l : List Act)
    → HoldNames (run reload (fresh n m) l) (history reload (fresh n m) l)
hold-names n m = named.hold-names reload reload-same n m

-- after t.j is applied at i, `H t.j` is never the answer there again
pub named-no-more : (n m : ℕ) → In most_desks n → In most_cells m → (l more : List Act) (i : ℕ) (z : Name)
    → Has (desk_list i (history reload (fresh n m) l)) z.writer z.number
    → (u k : ℕ) → (step (run reload (fresh n m) (l ++ more)) (Deliver i u k)).answer ≢ holds z
named-no-more n m = named.named-no-more reload reload-same n m

pub never_written_reads_unset : (n m : ℕ) → In most_desks n → In most_cells m → (l : List Act) (x : ℕ)
    → Unwritten x (history reload (fresh n m) l) → (i : ℕ) → shown_at (run reload (fresh n m) l) i x ≡ unset
never_written_reads_unset n m = blanks.never_written_reads_unset reload reload-same n m

-- the paper --

pub runs_as_paper : (n m : ℕ) → In most_desks n → In most_cells m → (l : List Act) → RunsAsPaper reload n m l
runs_as_paper n m = paper.runs_as_paper reload reload-same n m

pub received-is-sent : (n m : ℕ) → In most_desks n → In most_cells m → (l : List Act) (i u k : ℕ)
    → Accepted (step (run reload (fresh n m) l) (Deliver i u k)).answer → ReceivedIsSent reload (fresh n m) l i u k
received-is-sent n m = paper.received-is-sent reload reload-same n m

pub X_co_safe_exactly : (n m : ℕ) → In most_desks n → In most_cells m → (l : List Act) (k : ℕ) (w : Name) (e : Event)
    → Memᴰ e (X_co_safe (history reload (fresh n m) l) k w) ↔ Enabling (history reload (fresh n m) l) k w e
X_co_safe_exactly n m = past.X_co_safe_exactly reload reload-same n m
