-- `access_run`: the table saved in an image, run over a schedule; its answers and the table saved after it. And `access_inspect`: what is wrong with
-- an image, or the sizes of its table.
use Rattle.std.specs.Prelude.{◌&&◌, ◌∷◌}
use Rattle.laws.specs.{Kit.{Bool, List, [], none, some, ℕ, leb, length, sets}, Loop.{pick}}
use Rattle.machine.specs.Answer.{Refusal, number_of, short}
use Rattle.session.specs.{Session.{Session}, Transcript.{transcript_from, session_from, most_text}}
use Rattle.image.specs.{Encode.{encode}, Load.{fault_refusal, Loaded, loaded, refused, load}}
use Rattle.load.specs.Finding.{finding_of}

-- what a call leaves: the number that it returns, and each lent buffer
pub record Left : Type 0 where
  pub number : ℕ
  pub answers : List ℕ
  pub image : List ℕ
  pub lengths : List ℕ

abbrev pub left : ℕ → List ℕ → List ℕ → List ℕ → Left
left r a i l = record { number = r; answers = a; image = i; lengths = l }

-- "0 for the image if there is no table"
abbrev pub image_of : Session → List ℕ
image_of none = []
image_of (some s) = encode s

-- "15, 12 or 13" for the image, or the session to begin with
pub data Start : Type 0 where
  refuse : Refusal → Start
  begin : Session → Start

abbrev pub started : Loaded → Start
started (refused f) = refuse (fault_refusal f)
started (loaded s) = begin (some s)

-- "from the table in `image` (empty: no table yet)"
unfoldable pub start_of : List ℕ → Start
start_of [] = begin none
start_of (b ∷ l) = started (load (b ∷ l))

-- "14 for a schedule over 65,536 bytes, or where `answers`, `image_out` or `lengths` (2 numbers) is too short"
unfoldable pub fits : Session → (text answers image lengths : List ℕ) → Bool
fits z text answers image lengths =
    leb (length text) most_text
    && (leb (length (transcript_from z text 0)) (length answers)
    && (leb (length (image_of (session_from z text 0))) (length image)
    && leb 2 (length lengths)))

-- "write its answer lines and the image of the table after it"; "`lengths` holds the bytes written to each"
unfoldable pub run_from : Session → (text answers image lengths : List ℕ) → Left
run_from z text answers image lengths =
    let a : List ℕ = transcript_from z text 0 in
    let i : List ℕ = image_of (session_from z text 0) in
    pick (fits z text answers image lengths)
    (left 0 (sets answers 0 a) (sets image 0 i) (sets lengths 0 (length a ∷ length i ∷ [])))
    (left (number_of short) answers image lengths)

-- "on a refusal every lent buffer is as found"
abbrev pub run_started : Start → (text answers image lengths : List ℕ) → Left
run_started (refuse r) text answers image lengths = left (number_of r) answers image lengths
run_started (begin z) text answers image lengths = run_from z text answers image lengths

-- all that a call returns and leaves, as a function of all that it is given
unfoldable pub access_run : (saved text answers image lengths : List ℕ) → Left
access_run saved text answers image lengths = run_started (start_of saved) text answers image lengths

-- what a call of `access_inspect` leaves: the number that it returns, and the lent numbers
pub record Inspected : Type 0 where
  pub number : ℕ
  pub finding : List ℕ

abbrev pub inspected : ℕ → List ℕ → Inspected
inspected r f = record { number = r; finding = f }

abbrev pub five : ℕ
five = 5

-- "writes five numbers and returns 0, or returns 14 where `finding` is shorter than 5, untouched"
unfoldable pub access_inspect : (saved finding : List ℕ) → Inspected
access_inspect saved finding =
    pick (leb five (length finding)) (inspected 0 (sets finding 0 (finding_of (load saved)))) (inspected (number_of short) finding)
