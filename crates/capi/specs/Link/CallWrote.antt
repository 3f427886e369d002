-- What a call that is not refused wrote.
use Rattle.std.specs.Prelude.{◌≡◌, ◌∷◌, ◌≤◌}
use Rattle.laws.specs.Kit.{refl, ap, ◌∙◌, List, [], none, some, ℕ, arith, length, take, get_or, set, length-set, sets}
use Rattle.laws.specs.{Kit.{get_or-set_same, get_or-set_other}, Loop.{cases}}
use Rattle.image.specs.Load.{Loaded, load, Loads, by_length, by_check, by_rule, as_saved}
use Rattle.image.proofs.Load.{load_loads}
use Rattle.load.specs.Loading.{saved_part}
use Rattle.session.specs.{Session.{Session}, Transcript.{transcript_from, session_from}, Link.SessionRules.{SessionKept}}
use Rattle.capi.specs.{Access.{Left, image_of, begin, started, start_of, fits, run_from, access_run}, Link.CallFrom.{CallRoom, says-fits}}

-- "`lengths` holds the bytes written to each"
abbrev pub answers_in : Left → List ℕ
answers_in l = take (get_or l.lengths 0 0) l.answers

abbrev pub image_in : Left → List ℕ
image_in l = take (get_or l.lengths 1 0) l.image

-- the session that a call began with
pub record Began (saved : List ℕ) : Type 0 where
  pub session : Session
  pub starts : start_of saved ≡ begin session
  pub kept : SessionKept session

module _ (saved text answers image lengths : List ℕ) where
  began-load : (x : Loaded) → Loads saved x → start_of saved ≡ started x → (access_run saved text answers image lengths).number ≡ 0 → Began saved
  unfolding access_run
  began-load x (by_length h) e n = absurd (let k = rw e at n in omega arith)
  began-load x (by_check j w h f) e n = absurd (let k = rw e at n in omega arith)
  began-load x (by_rule j u g f) e n = absurd (let k = rw e at n in omega arith)
  began-load x (as_saved s r i) e n = record { session = some s; starts = e; kept = r }

pub began : (saved text answers image lengths : List ℕ) → (access_run saved text answers image lengths).number ≡ 0 → Began saved
unfolding start_of
began [] text answers image lengths n = record { session = none; starts = refl; kept = tt }
began (b ∷ l) text answers image lengths n = began-load (b ∷ l) text answers image lengths (load (b ∷ l)) (load_loads (b ∷ l)) refl n

-- the two lengths
module _ (l : List ℕ) (a i : ℕ) (h : 2 ≤ length l) where
  first-length : get_or (sets l 0 (a ∷ i ∷ [])) 0 0 ≡ a
  first-length = get_or-set_other (set l 0 a) 1 0 i 0 (λ e. omega arith) ∙ get_or-set_same l 0 a 0 (omega arith)

  second_length : get_or (sets l 0 (a ∷ i ∷ [])) 1 0 ≡ i
  second_length = get_or-set_same (set l 0 a) 1 i 0 (rw length-set (omega arith))

module _ (z : Session) (text answers image lengths : List ℕ) where
  run_room : (run_from z text answers image lengths).number ≡ 0 → CallRoom z text answers image lengths
  unfolding run_from
  run_room n = cases (fits z text answers image lengths) (λ e. (says-fits z text answers image lengths).to e) (λ e. absurd (let k = rw e at n in omega arith))

  run-wrote : CallRoom z text answers image lengths
      → (answers_in (run_from z text answers image lengths) ≡ transcript_from z text 0) × (image_in (run_from z text answers image lengths) ≡ image_of (session_from z text 0))
  unfolding run_from
  run-wrote r =
      let a = transcript_from z text 0 in
      let i = image_of (session_from z text 0) in
      rw ((says-fits z text answers image lengths).from r) (
        ap (λ (k : ℕ). take k (sets answers 0 a)) (first-length lengths (length a) (length i) r.lengths_room) ∙ saved_part answers a r.answers_room,
        ap (λ (k : ℕ). take k (sets image 0 i)) (second_length lengths (length a) (length i) r.lengths_room) ∙ saved_part image i r.image_room,
      )

pub wrote : (saved text answers image lengths : List ℕ) (z : Session) → start_of saved ≡ begin z → (access_run saved text answers image lengths).number ≡ 0
    → (answers_in (access_run saved text answers image lengths) ≡ transcript_from z text 0) × (image_in (access_run saved text answers image lengths) ≡ image_of (session_from z text 0))
unfolding access_run
wrote saved text answers image lengths z e n =
    rw e (run-wrote z text answers image lengths (run_room z text answers image lengths (rw e at n)))
