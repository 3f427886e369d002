-- Document 01, "At each edge" and "Numbers of refusal", computed. Limits and numbers stand here as the document writes them, so that
-- the definitions are held to them.
use mathlib.Core.{Path.{◌≡◌, refl}, List.{List, [], ◌∷◌, map}, Option.{none, some}}
use Rattle.std.specs.Prelude.{ℕ, replicate}
use Rattle.laws.specs.{Loop.{turns, scan}, All.{all}, Update.{upd, upd2}, Sum.{sum}, Lists.{any, every}}
use Rattle.machine.specs.{Table.{Vec, zeros, name, blank, sized, State, fresh}, Answer.{shown, no_step, damaged, broken}}
use Rattle.machine.specs.Answer.{short, wrong_length, number_of, Yes, Answer, began, shows, wrote, holds, applies, judged, refused}
use Rattle.machine.specs.Steps.{Step, Read, Write, Deliver, Trip, begin, step, answers, failing, everywhere, open_count, first_due}
use Rattle.machine.specs.{Steps.{settle, reads, verdict}, History.{take_step, run}}

-- an answer, or a refusal's number
pub data Reply : Type 0 where
  given : Answer → Reply
  E : ℕ → Reply

abbrev pub reply_of : Answer → Reply
reply_of began = given began
reply_of (shows v) = given (shows v)
reply_of (wrote w) = given (wrote w)
reply_of (holds w) = given (holds w)
reply_of (applies l) = given (applies l)
reply_of (judged v) = given (judged v)
reply_of (refused r) = E (number_of r)

abbrev pub replies : State → List Step → List Reply
replies s l = map reply_of (answers s l)

-- "Refusals: 11 from n = 17" (document 02, T-06), "m 64 and 65"
pub edge_of_n_and_m : map (λ (b : ℕ × ℕ). reply_of (begin b.0 b.1).answer) ((1, 1) ∷ (16, 64) ∷ (0, 1) ∷ (17, 1) ∷ (1, 0) ∷ (1, 65) ∷ [])
    ≡ given began ∷ given began ∷ E 11 ∷ E 11 ∷ E 11 ∷ E 11 ∷ []
unfolding begin
edge_of_n_and_m = refl

-- "status 2 and 3"
pub edge_of_status : replies (fresh 1 1) (Write 1 1 2 ∷ Write 1 1 3 ∷ []) ≡ given (wrote (name 1 1)) ∷ E 3 ∷ []
unfolding all upd upd2 sum step answers everywhere open_count
edge_of_status = refl

-- "trip 16 and 17"
pub edge_of_trip : replies (fresh 1 1) (Write 1 1 1 ∷ Trip 1 (replicate 16 1) ∷ Trip 1 (replicate 17 1) ∷ Trip 1 [] ∷ [])
    ≡ given (wrote (name 1 1)) ∷ given (judged Yes) ∷ E 9 ∷ E 9 ∷ []
unfolding all upd upd2 sum step answers everywhere open_count reads any every verdict
edge_of_trip = refl

-- a table of one desk that has written k times (which cell it wrote makes no difference to the count)
abbrev pub written_times : ℕ → State
written_times k =
    let once : ℕ → Vec = upd2 (λ i. zeros) 1 1 k in
    record { setup = sized 1 1; applied = once; clock = once; cell = λ i x. blank; opens = λ u k. none }

-- "write 65,535 and the next"
pub edge_of_writes : replies (written_times 65534) (Write 1 1 0 ∷ Write 1 1 0 ∷ []) ≡ given (wrote (name 1 65535)) ∷ E 4 ∷ []
unfolding all upd upd2 sum step answers everywhere open_count
edge_of_writes = refl

-- "With n = 2, 64 undelivered writes, then 5; one delivered and applied, then accepted."
pub edge_of_open : replies (run (λ s. s) (fresh 2 1) (map take_step (replicate 63 (Write 1 1 0)))) (
    Write 1 1 0 ∷ Write 1 1 0 ∷ Write 2 1 0 ∷ Deliver 2 1 1 ∷ Write 2 1 0 ∷ Write 1 1 0 ∷ [])
    ≡ given (wrote (name 1 64)) ∷ E 5 ∷ E 5 ∷ given (applies (name 1 1 ∷ [])) ∷ given (wrote (name 2 1)) ∷ E 5 ∷ []
unfolding turns scan all upd upd2 sum step answers run failing everywhere open_count first_due settle
edge_of_open = refl

-- document 02, T-04, "for the smallest failing desk t, the first write of t not applied here". At desk 3: of 2.3 it is 2.1; when 2.1 has
-- come, of 1.1, whose vector has 3 at place 2, it is 2.2; of 1.2 it is 1.1, which is held there.
pub first-missing : answers (fresh 3 1) (
    Write 2 1 0 ∷ Write 2 1 0 ∷ Write 2 1 0 ∷ Deliver 1 2 1 ∷ Deliver 1 2 2 ∷ Deliver 1 2 3 ∷ Read 1 1 ∷ Write 1 1 0 ∷ Write 1 1 0 ∷
    Deliver 3 2 3 ∷ Deliver 3 2 1 ∷ Deliver 3 1 1 ∷ Deliver 3 1 2 ∷ Deliver 3 2 2 ∷ [])
    ≡ wrote (name 2 1) ∷ wrote (name 2 2) ∷ wrote (name 2 3) ∷ applies (name 2 1 ∷ []) ∷ applies (name 2 2 ∷ []) ∷ applies (name 2 3 ∷ []) ∷
    shows (shown 0 2 3) ∷ wrote (name 1 1) ∷ wrote (name 1 2) ∷
    holds (name 2 1) ∷ applies (name 2 1 ∷ []) ∷ holds (name 2 2) ∷ holds (name 1 1) ∷ applies (name 2 2 ∷ name 2 3 ∷ name 1 1 ∷ name 1 2 ∷ []) ∷ []
unfolding turns scan all upd upd2 sum step answers failing everywhere open_count first_due settle
first-missing = refl

-- the number of a count that is no table's: it may pass 65,535
pub edge_of_missing : failing 2 (λ t. 65535) 2 (λ t. 3) ≡ some (name 2 65536)
unfolding turns scan failing
edge_of_missing = refl

-- "the smallest desk number whose place fails": 3.2 lacks both 1.1 and 3.1. "the one with the smallest writer is applied; the search .. begins
-- again": 3.1 makes 2.1 and 3.2 ready.
pub smallest_first : answers (fresh 4 1) (
    Write 1 1 0 ∷ Deliver 3 1 1 ∷ Read 3 1 ∷ Write 3 1 0 ∷ Write 3 1 0 ∷
    Deliver 2 1 1 ∷ Deliver 2 3 1 ∷ Read 2 1 ∷ Write 2 1 0 ∷
    Deliver 4 3 2 ∷ Deliver 4 2 1 ∷ Deliver 4 3 1 ∷ Deliver 4 1 1 ∷ [])
    ≡ wrote (name 1 1) ∷ applies (name 1 1 ∷ []) ∷ shows (shown 0 1 1) ∷ wrote (name 3 1) ∷ wrote (name 3 2) ∷
    applies (name 1 1 ∷ []) ∷ applies (name 3 1 ∷ []) ∷ shows (shown 0 3 1) ∷ wrote (name 2 1) ∷
    holds (name 1 1) ∷ holds (name 1 1) ∷ holds (name 1 1) ∷ applies (name 1 1 ∷ name 3 1 ∷ name 2 1 ∷ name 3 2 ∷ []) ∷ []
unfolding turns scan all upd upd2 sum step answers failing everywhere open_count first_due settle
smallest_first = refl

-- 1, 2, 6, 7 and 8, each where it is met
pub numbers_of_steps : replies (fresh 2 1) (
    Read 0 1 ∷ Read 3 1 ∷ Read 1 0 ∷ Read 1 2 ∷ Deliver 1 1 1 ∷ Deliver 2 1 1 ∷ Write 1 1 0 ∷ Deliver 2 1 0 ∷ Deliver 2 1 1 ∷ Deliver 2 1 1 ∷ [])
    ≡ E 1 ∷ E 1 ∷ E 2 ∷ E 2 ∷ E 6 ∷ E 7 ∷ given (wrote (name 1 1)) ∷ E 7 ∷ given (applies (name 1 1 ∷ [])) ∷ E 8 ∷ []
unfolding turns scan all upd upd2 sum step answers failing everywhere open_count first_due settle
numbers_of_steps = refl

-- those of the text, the image and the buffer
pub numbers_elsewhere : map number_of (no_step ∷ damaged ∷ broken ∷ short ∷ wrong_length ∷ []) ≡ 10 ∷ 12 ∷ 13 ∷ 14 ∷ 15 ∷ []
numbers_elsewhere = refl
