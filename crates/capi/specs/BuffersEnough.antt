-- Buffers that are never too short: the header's ACCESS_ANSWERS_BOUND and ACCESS_MAX_IMAGE.
use Rattle.std.specs.Prelude.{◌≡◌, ◌∷◌, ◌≤◌}
use Rattle.laws.specs.Kit.{refl, sym, ap, ◌∙◌, List, [], none, some, ℕ, arith, length}
use Rattle.block.specs.Limits.{broad, image_bytes}
use Rattle.image.proofs.Editions.{image-largest}
use Rattle.image.specs.Load.{fault_refusal, Loaded, refused, loaded, load}
use Rattle.image.proofs.Load.{load_is}
use Rattle.session.specs.Session.{Session}
use Rattle.session.specs.Transcript.{session_from, most_text}
use Rattle.session.specs.Link.SessionRules.{SessionKept}
use Rattle.session.proofs.SessionRules.{session-kept}
use Rattle.session.specs.AnswersBound.{answers_bound}
use Rattle.session.proofs.AnswersBound.{answers_fit}
use Rattle.capi.specs.{Access.{image_of, refuse, begin, started, start_of, run_from, access_run}, Link.CallFrom.{CallRoom, says-fits}}

-- the session that a call begins with keeps the rules
start-kept : (saved : List ℕ) (z : Session) → start_of saved ≡ begin z → SessionKept z
unfolding start_of
start-kept [] z e = let q : none ≡ z = cc in rw (← q) tt
start-kept (b ∷ l) z e = go (load (b ∷ l)) refl
  where
    go : (x : Loaded) → load (b ∷ l) ≡ x → SessionKept z
    go (refused r) h = let q : refuse (fault_refusal r) ≡ begin z = ap started (sym h) ∙ e in absurd (let y : ◌≡◌ {A = ℕ} 0 1 = cc in omega arith)
    go (loaded s) h = let q : begin (some s) ≡ begin z = ap started (sym h) ∙ e in let y : some s ≡ z = cc in rw (← y) ((load_is (b ∷ l) s).0 h).0

-- "The largest image is 105 blocks."
abbrev pub most_image : ℕ
most_image = image_bytes broad

image-few : (z : Session) → SessionKept z → length (image_of z) ≤ most_image
image-few none k = omega arith
image-few (some s) k = image-largest s k

-- from an image that is not refused a schedule of at most 65,536 bytes runs
pub enough : (saved text answers image lengths : List ℕ) (z : Session) → start_of saved ≡ begin z → length text ≤ most_text
    → answers_bound (length text) ≤ length answers → most_image ≤ length image → 2 ≤ length lengths → (access_run saved text answers image lengths).number ≡ 0
unfolding access_run run_from
enough saved text answers image lengths z e ht ha hi hl =
    let k = start-kept saved z e in
    let room : CallRoom z text answers image lengths = record {
      text_room = ht;
      answers_room = omega (arith, answers_fit z k text);
      image_room = omega (arith, image-few (session_from z text 0) (session-kept z text 0 k));
      lengths_room = hl;
    } in
    rw (e, (says-fits z text answers image lengths).from room)
