-- One line in, one line out; and how long an output line is.
use Rattle.std.specs.Prelude.{◌+◌, ◌*◌, ◌/◌, ◌%◌, ◌^◌, ◌<◌, ◌≤◌, ◌≡◌, ◌∷◌, ◌++◌}
use Rattle.laws.specs.Kit.{ℕ, zero, suc, max, refl, ◌∙◌, List, [], none, arith, pow-suc}
use Rattle.laws.specs.{Kit.{ne_eqb, ltb-true, ltb-false, eqb, ltb, length, length-append}, Count.{count}, Loop.{pick, cases}}
use Rattle.laws.specs.Each.{Each, and}
use Rattle.machine.specs.{Table.{Name, most_writes, name, most_open}, Answer.{Answer, began, shows, wrote, holds, applies, judged, refused}}
use Rattle.machine.specs.Answer.{unset, shown, Yes, No, Unknown, number_of}
use Rattle.schedule.specs.Lines.{LF}
use Rattle.text.specs.{Number.{digits, decimal}, Link.Decimal.{decimal-one, decimal_longer}}
use Rattle.answer.specs.{Bytes.{name_bytes, names_bytes, answer_bytes, answer_line, most_answer}, Link.NameLengths.{name-length, shown-length}}
use Rattle.session.specs.{Session.{Session, line_answer}, Transcript.{TextLine, onto_line, lines_of, answers_of, printed, transcript_from}}
use Rattle.session.specs.{Transcript.{most_text, transcript}, TranscriptLaws.{transcript-run}}

-- how many LF a text has --

unfoldable pub lfs : List ℕ → ℕ
lfs l = count (λ b. eqb b LF) l

lfs-append : (k l : List ℕ) → lfs (k ++ l) ≡ lfs k + lfs l
unfolding lfs count
lfs-append [] l = omega arith
lfs-append (b ∷ k) l = omega (arith, lfs-append k l)

-- 1 where bytes follow the last LF: a last line without LF
unfoldable pub unended : List ℕ → ℕ
unended [] = 0
unended (b ∷ []) = pick (eqb b LF) 0 1
unended (b ∷ c ∷ l) = unended (c ∷ l)

onto-length : (b : ℕ) (ls : List TextLine) → length (onto_line b ls) ≡ max 1 (length ls)
onto-length b [] = omega arith
onto-length b (l ∷ ls) = omega arith

lines-some : (b : ℕ) (l : List ℕ) → 0 < length (lines_of (b ∷ l))
unfolding lines_of
lines-some b l = cases (eqb b LF) (λ e. rw e (omega arith)) (λ e. rw e (omega (arith, onto-length b (lines_of l))))

-- each LF ends a line
pub lines-count : (l : List ℕ) → length (lines_of l) ≡ lfs l + unended l
unfolding lines_of lfs count unended
lines-count [] = omega arith
lines-count (b ∷ []) = cases (eqb b LF) (λ e. rw e (omega arith)) (λ e. rw e (omega arith))
lines-count (b ∷ c ∷ l) =
    let ih : length (lines_of (c ∷ l)) ≡ lfs (c ∷ l) + unended (c ∷ l) = lines-count (c ∷ l) in
    cases (eqb b LF) (λ e. rw e (omega arith)) (λ e. rw e (omega (arith, onto-length b (lines_of (c ∷ l)), lines-some c l)))

-- an answer line has one, at its end: the others are digits, letters and marks --

digit_lfs : (n : ℕ) → lfs ((48 + n) ∷ []) ≡ 0
unfolding lfs count
digit_lfs n = rw (ne_eqb (48 + n) 10 (λ e. (omega arith)))

digits-lfs : (f n : ℕ) → lfs (digits f n) ≡ 0
unfolding digits
digits-lfs zero n = unfold lfs count in refl
digits-lfs (suc f) zero = unfold lfs count in refl
digits-lfs (suc f) (suc n) = rw (lfs-append, digits-lfs f (suc n / 10), digit_lfs (suc n % 10))

decimal-lfs : (n : ℕ) → lfs (decimal n) ≡ 0
unfolding decimal
decimal-lfs n = rw (lfs-append, digits-lfs n (n / 10), digit_lfs (n % 10))

name-lfs : (w : Name) → lfs (name_bytes w) ≡ 0
unfolding name_bytes
name-lfs w = simp (lfs-append, decimal-lfs) (unfold lfs count in refl)

names-lfs : (l : List Name) → lfs (names_bytes l) ≡ 0
unfolding names_bytes
names-lfs [] = unfold lfs count in refl
names-lfs (w ∷ l) = simp (lfs-append, name-lfs, names-lfs l) (unfold lfs count in refl)

answer-lfs : (a : Answer) → lfs (answer_bytes a) ≡ 0
answer-lfs began = unfold lfs count in refl
answer-lfs (shows unset) = unfold lfs count in refl
answer-lfs (shows (shown v u k)) = simp (lfs-append, decimal-lfs, name-lfs) (unfold lfs count in refl)
answer-lfs (wrote w) = simp (lfs-append, name-lfs) (unfold lfs count in refl)
answer-lfs (holds w) = simp (lfs-append, name-lfs) (unfold lfs count in refl)
answer-lfs (applies l) = simp (lfs-append, names-lfs) (unfold lfs count in refl)
answer-lfs (judged Yes) = unfold lfs count in refl
answer-lfs (judged No) = unfold lfs count in refl
answer-lfs (judged Unknown) = unfold lfs count in refl
answer-lfs (refused r) = simp (lfs-append, decimal-lfs) (unfold lfs count in refl)

line-lfs : (a : Answer) → lfs (answer_line a) ≡ 1
line-lfs a = rw (lfs-append, answer-lfs a) (unfold lfs count in refl)

printed-lfs : (z : Session) (ls : List TextLine) → lfs (printed (answers_of z ls)) ≡ length ls
unfolding printed answers_of
printed-lfs z [] = unfold lfs count in refl
printed-lfs z (l ∷ ls) =
    let t = line_answer z l.bytes l.ended in
    rw (lfs-append (answer_line t.answer), line-lfs t.answer, printed-lfs t.session ls) (omega arith)

pub one_for_one : (s : List ℕ) → length s ≤ most_text → lfs (transcript s) ≡ lfs s + unended s
unfolding transcript_from
one_for_one s h = rw (transcript-run s h) (printed-lfs none (lines_of s) ∙ lines-count s)

-- how long an output line is --

-- w + 1 digits at most
pub decimal-short : (w n : ℕ) → n < 10 ^ suc w → length (decimal n) ≤ suc w
decimal-short zero n h = rw (decimal-one n h) (omega arith)
decimal-short (suc w) n h =
    let q : 10 ^ suc (suc w) ≡ 10 ^ suc w * 10 = pow-suc 10 (suc w) in
    cases (ltb n 10)
    (λ e. rw (decimal-one n (ltb-true n 10 e)) (omega arith))
    (λ e. let g : 10 ≤ n = ltb-false n 10 e in rw (decimal_longer n g) (omega (arith, decimal-short w (n / 10) (omega arith))))

pub number_short : (n : ℕ) → n ≤ most_writes → length (decimal n) ≤ 5
number_short n h = decimal-short 4 n (omega arith)

-- each number of the answer is at most most_writes, and it has at most most_open names
abbrev pub SmallName : Name → Type 0
SmallName w = (w.writer ≤ most_writes) × (w.number ≤ most_writes)

abbrev pub SmallAnswer : Answer → Type 0
SmallAnswer began = Unit {0}
SmallAnswer (shows unset) = Unit {0}
SmallAnswer (shows (shown v u k)) = (v ≤ most_writes) × SmallName (name u k)
SmallAnswer (wrote w) = SmallName w
SmallAnswer (holds w) = SmallName w
SmallAnswer (applies l) = (length l ≤ most_open) × Each SmallName l
SmallAnswer (judged v) = Unit {0}
SmallAnswer (refused r) = number_of r ≤ most_writes

name-short : (w : Name) → SmallName w → length (name_bytes w) ≤ 11
name-short w h = omega (arith, name-length w.writer w.number, number_short w.writer h.0, number_short w.number h.1)

names-short : (l : List Name) → Each SmallName l → length (names_bytes l) ≤ 12 * length l
unfolding names_bytes
names-short [] h = omega arith
names-short (w ∷ l) (and h t) = simp length-append (omega (arith, name-short w h, names-short l t))

-- with the LF
pub answer-short : (a : Answer) → SmallAnswer a → length (answer_line a) ≤ most_answer
answer-short a h = rw length-append (omega (arith, go a h))
  where
    go : (a : Answer) → SmallAnswer a → length (answer_bytes a) < most_answer
    go began h = omega arith
    go (shows unset) h = omega arith
    go (shows (shown v u k)) h = rw (shown-length v u k) (omega (arith, number_short v h.0, name-short (name u k) h.1))
    go (wrote w) h = simp length-append (omega (arith, name-short w h))
    go (holds w) h = simp length-append (omega (arith, name-short w h))
    go (applies l) h = simp length-append (omega (arith, h.0, names-short l h.1))
    go (judged Yes) h = omega arith
    go (judged No) h = omega arith
    go (judged Unknown) h = omega arith
    go (refused r) h = simp length-append (omega (arith, number_short (number_of r) h))
