-- A call from a session: refused where something is too long or too short, else its answers are those of the first run and of the lines behind it.
use Rattle.std.specs.Prelude.{◌≡◌, ◌∷◌, ◌++◌, ◌&&◌, ◌+◌, ◌*◌, ◌^◌, ◌<◌, ◌≤◌}
use Rattle.laws.specs.Kit.{sym, ap, ◌∙◌, List, [], append-nil, Bool, ℕ, arith, leb, length}
use Rattle.laws.specs.{Kit.{take, length-append, sets, length-take-le}, Loop.{cases}, Says.{Says, says-leb, says_both}}
use Rattle.laws.specs.Stores.{sets_append}
use Rattle.table.specs.declared.Table.{Table}
use Rattle.session.specs.{Session.{Session}, Transcript.{transcript_from, session_from, most_text}, TranscriptLaws.{from_end, left_end}}
use Rattle.session.specs.{Holds.{Holds}, Run.{Ran, ran_rest, ran_leaves, ran_part}}
use Rattle.capi.specs.{Access.{left, image_of, fits, run_from}, Mirror.AccessParts.{LinedFrom, Behind}}

-- what has to fit
pub record CallRoom (z : Session) (text answers image lengths : List ℕ) : Type 0 where
  pub text_room : length text ≤ most_text
  pub answers_room : length (transcript_from z text 0) ≤ length answers
  pub image_room : length (image_of (session_from z text 0)) ≤ length image
  pub lengths_room : 2 ≤ length lengths

module _ (z : Session) (text answers image lengths : List ℕ) where
  pub says-fits : Says (fits z text answers image lengths) (CallRoom z text answers image lengths)
  unfolding fits
  says-fits =
      let a : ℕ = length (transcript_from z text 0) in
      let i : ℕ = length (image_of (session_from z text 0)) in
      let b : Bool = leb i (length image) && leb 2 (length lengths) in
      let s = says_both (leb (length text) most_text) (leb a (length answers) && b) (says-leb (length text) most_text)
      (says_both (leb a (length answers)) b (says-leb a (length answers))
      (says_both (leb i (length image)) (leb 2 (length lengths)) (says-leb i (length image)) (says-leb 2 (length lengths)))) in
      record {
        to = λ e. let h = s.to e in record { text_room = h.0; answers_room = h.1.0; image_room = h.1.1.0; lengths_room = h.1.1.1 };
        from = λ r. s.from (r.text_room, (r.answers_room, (r.image_room, r.lengths_room)));
      }

  -- 14: every buffer is as found
  pub run-refused : (CallRoom z text answers image lengths → ⊥) → left 14 answers image lengths ≡ run_from z text answers image lengths
  unfolding run_from
  run-refused f = cases (fits z text answers image lengths) (λ e. absurd (f (says-fits.to e))) (λ e. rw e)

  pub run-accepted : {answers' image' : List ℕ} {all size : ℕ} → CallRoom z text answers image lengths
      → answers' ≡ sets answers 0 (transcript_from z text 0) → image' ≡ sets image 0 (image_of (session_from z text 0))
      → all ≡ length (transcript_from z text 0) → size ≡ length (image_of (session_from z text 0))
      → left 0 answers' image' (sets lengths 0 (all ∷ size ∷ [])) ≡ run_from z text answers image lengths
  unfolding run_from
  run-accepted r ea ei el es = rw (says-fits.from r, ea, ei, el, es)

-- what was counted has room where the code's test says so
pub lined_room : {z : Session} {text : List ℕ} {at : ℕ} {put : Bool} {out : List ℕ} {from : ℕ} {t : Table} {more : ℕ} {out' : List ℕ} {room : ℕ} (len : ℕ)
    → LinedFrom z text at put out from t more out' → len + more ≤ room → len + length (transcript_from z text at) ≤ room
lined_room len l h = omega (arith, l.len_is)

pub lined_sum : {z : Session} {text : List ℕ} {at : ℕ} {put : Bool} {out : List ℕ} {from : ℕ} {t : Table} {more : ℕ} {out' : List ℕ} {len long : ℕ}
    → LinedFrom z text at put out from t more out' → len ≤ long → long * 1 < 2 ^ 63 → len + more < 2 ^ 64
lined_sum l h f = omega (arith, l.few)

-- the first answers, and those of the lines behind them
module _ {z w : Session} {text : List ℕ} {at : ℕ} {first : List ℕ} (b : Behind z w text at first) where
  module _ {put : Bool} {out : List ℕ} {from : ℕ} {t : Table} {more : ℕ} {out' : List ℕ} (l : LinedFrom w text at put out from t more out') where
    pub all_left : Holds t (session_from z text 0)
    all_left = rw b.leaves l.holds

    module _ {len : ℕ} (e : length first ≡ len) where
      pub all-long : len + more ≡ length (transcript_from z text 0)
      all-long = omega (arith, l.len_is, simp length-append at (ap length b.rest))

      pub no-answers-room : {answers image lengths : List ℕ} {r : ℕ} → r ≡ length answers → r < len + more → CallRoom z text answers image lengths → ⊥
      no-answers-room q h m = omega (arith, m.answers_room, all-long)

      pub all_room : {answers image lengths : List ℕ} {r size : ℕ} → length text ≤ most_text → r ≡ length answers → len + more ≤ r
          → size ≡ length (image_of (session_from z text 0)) → size ≤ length image → 2 ≤ length lengths → CallRoom z text answers image lengths
      all_room t q h i g k = record { text_room = t; answers_room = omega (arith, all-long); image_room = omega arith; lengths_room = k }

  pub all_put : (out : List ℕ) {out₁ out₂ : List ℕ} → out₁ ≡ out → out₂ ≡ sets out₁ 0 (first ++ transcript_from w text at) → out₂ ≡ sets out 0 (transcript_from z text 0)
  all_put out d e = e ∙ rw (d, b.rest)

  -- no line is left: the first answers are all
  module _ (h : length text ≤ at) where
    pub first-all : transcript_from z text 0 ≡ first
    first-all = b.rest ∙ ap (λ (x : List ℕ). first ++ x) (from_end w text at h) ∙ append-nil first

    pub first-left : (t : Table) → Holds t w → Holds t (session_from z text 0)
    first-left t g = rw (b.leaves ∙ left_end w text at h) g

pub no-image-room : {z : Session} {text answers image lengths : List ℕ} {size : ℕ} → size ≡ length (image_of (session_from z text 0)) → length image < size → CallRoom z text answers image lengths → ⊥
no-image-room e h m = omega (arith, m.image_room)

pub both_put : (first : List ℕ) (len : ℕ) (more out : List ℕ) {out₁ out₂ : List ℕ} → len ≤ length first → out₁ ≡ sets out 0 (take len first) → out₂ ≡ sets out₁ len more
    → out₂ ≡ sets out 0 (take len first ++ more)
both_put first len more out h e f =
    let q : len ≡ 0 + length (take len first) = omega (arith, length-take-le len first h) in
    f ∙ rw e (ap (λ (x : ℕ). sets (sets out 0 (take len first)) x more) q ∙ sym (sets_append (take len first) more out 0))

-- the first run
pub ran_behind : {z : Session} {text kept : List ℕ} {t : Table} {at len : ℕ} {kept' : List ℕ} (r : Ran z text 0 kept t at len kept')
    → Behind z r.session text at (take len kept')
ran_behind r = record { rest = rw (ran_part r) (ran_rest r); leaves = ran_leaves r }
