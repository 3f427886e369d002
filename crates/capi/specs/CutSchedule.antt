-- A schedule cut between two lines, and run by two calls.
use Rattle.std.specs.Prelude.{◌≡◌, ◌∷◌, ◌++◌}
use Rattle.laws.specs.Kit.{refl, sym, ap, ◌∙◌, List, [], none, some, ℕ, arith}
use Rattle.image.specs.Encode.{encode}
use Rattle.image.proofs.Load.{load-encode}
use Rattle.image.proofs.EachBlock.{image-sound}
use Rattle.schedule.specs.Lines.{LF}
use Rattle.session.specs.{Session.{Session}, Transcript.{lines_of, transcript_from, session_from}, Link.SessionRules.{SessionKept}}
use Rattle.session.proofs.SessionRules.{session-kept}
use Rattle.capi.specs.{Access.{begin, started, image_of, start_of, access_run}, Link.CutText.{lines_cut, session-append, bytes-append}}
use Rattle.capi.specs.{Link.ImageStart.{start-load}, Link.CallWrote.{answers_in, image_in, began, wrote}}

-- lines that a LF ends
abbrev pub ended : List ℕ → List ℕ
ended a = a ++ (LF ∷ [])

-- the answers, and the session that is left, of two parts one after the other
pub answers_cut : (z : Session) (a b : List ℕ) → transcript_from z (ended a ++ b) 0 ≡ transcript_from z (ended a) 0 ++ transcript_from (session_from z (ended a) 0) b 0
unfolding transcript_from session_from
answers_cut z a b = rw (lines_cut a b) (bytes-append z (lines_of (ended a)) (lines_of b))

pub session_cut : (z : Session) (a b : List ℕ) → session_from z (ended a ++ b) 0 ≡ session_from (session_from z (ended a) 0) b 0
unfolding session_from
session_cut z a b = rw (lines_cut a b) (session-append z (lines_of (ended a)) (lines_of b))

-- a call begins with the very session whose image it is given
pub start-image : (z : Session) → SessionKept z → start_of (image_of z) ≡ begin z
unfolding start_of
start-image none k = refl
start-image (some s) k = start-load (encode s) (λ e. omega (arith, (image-sound s).whole.nonzero)) ∙ ap started (load-encode s k)

-- The lines a by one call, and b by a second from the image that the first wrote: where no call is refused, the answers of the two, one after the
-- other, are those of one call over all the lines, and so is the image that the second wrote.
pub resumed : (saved a b answers image lengths answers₁ image₁ lengths₁ answers₂ image₂ lengths₂ : List ℕ)
    → (let one = access_run saved (ended a ++ b) answers image lengths in
    let first = access_run saved (ended a) answers₁ image₁ lengths₁ in
    let second = access_run (image_in first) b answers₂ image₂ lengths₂ in
    one.number ≡ 0 → first.number ≡ 0 → second.number ≡ 0 → (answers_in one ≡ answers_in first ++ answers_in second) × (image_in one ≡ image_in second))
resumed saved a b answers image lengths answers₁ image₁ lengths₁ answers₂ image₂ lengths₂ n n₁ n₂ =
    let s = began saved (ended a) answers₁ image₁ lengths₁ n₁ in
    let z = s.session in
    let y = session_from z (ended a) 0 in
    let w = wrote saved (ended a ++ b) answers image lengths z s.starts n in
    let w₁ = wrote saved (ended a) answers₁ image₁ lengths₁ z s.starts n₁ in
    let w₂ = wrote (image_in (access_run saved (ended a) answers₁ image₁ lengths₁)) b answers₂ image₂ lengths₂ y (ap start_of w₁.1 ∙ start-image y (session-kept z (ended a) 0 s.kept)) n₂ in
    (w.0 ∙ answers_cut z a b ∙ rw (w₁.0, w₂.0), w.1 ∙ ap image_of (session_cut z a b) ∙ sym w₂.1)
