-- Any number of calls of `access_run` one after the other, and demand 3 of the table that they leave: no bound on the bytes of all their schedules.
use Rattle.std.specs.Prelude.{◌≡◌, ◌++◌}
use Rattle.laws.specs.Kit.{refl, sym, ap, ◌∙◌, List, [], none, some, ℕ}
use Rattle.machine.specs.Table.{State}
use Rattle.session.specs.{Session.{Session}, Transcript.{TextLine, lines_of, answers_of, session_of, printed, transcript_from, session_from}}
use Rattle.session.proofs.SessionRules.{lines-kept}
use Rattle.image.specs.Encode.{encode}
use Rattle.capi.specs.{Access.{begin, image_of, start_of, access_run}, Link.CutText.{session-append, bytes-append}}
use Rattle.capi.specs.{Link.CallWrote.{answers_in, image_in, wrote}, CutSchedule.{start-image}, TextDemand3.{Told, lines_demand_3}}

-- Accepted calls: the first from no image, each from the image that the one before wrote, with whatever schedules and lent buffers. All their lines,
-- all that they answered, and the image that the last one wrote.
pub data Calls : (lines : List TextLine) (answered saved : List ℕ) → Type 0 where
  none_yet : Calls [] [] []
  call : {lines : List TextLine} {answered saved : List ℕ} → Calls lines answered saved → (text answers image lengths : List ℕ)
      → (access_run saved text answers image lengths).number ≡ 0
      → Calls (lines ++ lines_of text) (answered ++ answers_in (access_run saved text answers image lengths)) (image_in (access_run saved text answers image lengths))

-- what they wrote is what one session over all the lines answers and leaves
pub record AsOne (lines : List TextLine) (answered saved : List ℕ) : Type 0 where
  pub answers_are : answered ≡ printed (answers_of none lines)
  pub image_is : saved ≡ image_of (session_of none lines)

pub calls_as_one : {lines : List TextLine} {answered saved : List ℕ} → Calls lines answered saved → AsOne lines answered saved
unfolding answers_of printed session_of transcript_from session_from
calls_as_one none_yet = record { answers_are = refl; image_is = refl }
calls_as_one (call {lines} {answered} {saved} c text answers image lengths n) =
    let r = calls_as_one c in
    let z = session_of none lines in
    let s : start_of saved ≡ begin z = ap start_of r.image_is ∙ start-image z (lines-kept none lines tt) in
    let w = wrote saved text answers image lengths z s n in
    record {
      answers_are = rw (r.answers_are, w.0) (sym (bytes-append none lines (lines_of text)));
      image_is = w.1 ∙ ap image_of (sym (session-append none lines (lines_of text)));
    }

-- the table of an image
pub record LeftTable (lines : List TextLine) (saved : List ℕ) : Type 0 where
  pub table : State
  pub image_is : saved ≡ encode table
  pub told : Told lines table

-- calls that leave an image leave that of a table of which demand 3 holds, with the history of all their lines
pub calls_demand_3 : {lines : List TextLine} {answered saved : List ℕ} → Calls lines answered saved → (saved ≡ [] → ⊥) → LeftTable lines saved
calls_demand_3 {lines} {saved = saved} c some-image = go (session_of none lines) refl
  where
    e : saved ≡ image_of (session_of none lines)
    e = (calls_as_one c).image_is

    go : (z : Session) → session_of none lines ≡ z → LeftTable lines saved
    go none q = absurd (some-image (e ∙ ap image_of q))
    go (some s) q = record { table = s; image_is = e ∙ ap image_of q; told = lines_demand_3 lines s q }
