-- The answers to a whole text, part by part.
use Rattle.laws.specs.Kit.{refl, sym, ap, ◌∙◌, List, [], append_assoc, append-nil, none, ℕ, arith}
use Rattle.laws.specs.{Kit.{length, take, drop, length-append, take_at, drop_at}, Text.{text as bytes}}
use Rattle.laws.specs.Kit.{take-add, take_all}
use Rattle.std.specs.Prelude.{◌≡◌, ◌++◌, ◌+◌, ◌-◌, ◌*◌, ◌<◌, ◌≤◌, Option, None as Unknown, Some as Known}
use Rattle.std.specs.Io.KnownBytes.{Appends}
use Rattle.table.specs.{declared.Cell.{Cell}, declared.Core.{Core}, declared.Open.{Open}, Model.{table_with}}
use Rattle.session.specs.{Session.{Session}, Transcript.{transcript_from, most_text, transcript}}
use Rattle.session.specs.{TranscriptLaws.{from_end, transcript-run, transcript-long}, Holds.{zero_cells, zero_opens, zero_core, Holds}}
use Rattle.session.specs.Run.{Ran, ran_rest, ran_part}
use Rattle.session.specs.AnswersBound.{each_byte}
use Rattle.session.proofs.AnswersBound.{transcript_bound}

-- the part is what stands in the list behind so many bytes, up to so many
pub record Comes (all : List ℕ) (sent next : ℕ) (part : List ℕ) : Type 0 where
  pub is : part ≡ take (next - sent) (drop sent all)
  pub ends : next ≡ sent + length part

-- the lines under way: what was handed over are the answers before the place
pub record Reading (text : List ℕ) (core : Core) (cells : List Cell) (opens : List Open) (at sent : ℕ) : Type 0 where
  pub session : Session
  pub lines : List ℕ
  pub holds : Holds (table_with core cells opens) session
  pub sent_is : sent ≡ length lines
  pub rest : transcript text ≡ lines ++ transcript_from session text at

module _ {text : List ℕ} where
  pub reading_start : length text ≤ most_text → Reading text zero_core zero_cells zero_opens 0 0
  reading_start h = record { session = none; lines = []; holds = refl; sent_is = refl; rest = transcript-run text h }

  module _ {core : Core} {cells : List Cell} {opens : List Open} {at sent : ℕ} (g : Reading text core cells opens at sent) where
    -- one run more
    module _ {out : List ℕ} {core' : Core} {cells' : List Cell} {opens' : List Open} {at' len : ℕ} {out' : List ℕ}
        (r : Ran g.session text at out (table_with core' cells' opens') at' len out') where
      all-is : transcript text ≡ (g.lines ++ r.lines) ++ transcript_from r.session text at'
      all-is = g.rest ∙ ap (λ (x : List ℕ). g.lines ++ x) (ran_rest r) ∙ sym (append_assoc g.lines r.lines (transcript_from r.session text at'))

      -- its part comes next
      pub reading_comes : Comes (transcript text) sent (sent + len) (take len out')
      reading_comes =
          let more = r.lines ++ transcript_from r.session text at' in
          let e : transcript text ≡ g.lines ++ more = all-is ∙ append_assoc g.lines r.lines (transcript_from r.session text at') in
          let d : drop sent (transcript text) ≡ more = ap (drop sent) e ∙ drop_at g.lines more sent (sym g.sent_is) in
          let n : length r.lines ≡ sent + len - sent = omega (arith, r.len_is) in
          record {
            is = ran_part r ∙ sym (ap (take (sent + len - sent)) d ∙ take_at r.lines (transcript_from r.session text at') (sent + len - sent) n);
            ends = omega (arith, r.len_is, ap length (ran_part r));
          }

      pub reading_sum : sent + len ≤ each_byte * most_text
      reading_sum =
          omega (arith, g.sent_is, r.len_is, transcript_bound text, ap length all-is, length-append (g.lines ++ r.lines) (transcript_from r.session text at'), length-append g.lines r.lines)

      pub reading_on : Reading text core' cells' opens' at' (sent + len)
      reading_on = record {
        session = r.session;
        lines = g.lines ++ r.lines;
        holds = r.holds;
        sent_is = omega (arith, g.sent_is, r.len_is, length-append g.lines r.lines);
        rest = all-is;
      }

    -- the end of the text
    pub reading_end : length text ≤ at → sent ≡ length (transcript text)
    reading_end h =
        let e : transcript text ≡ g.lines = g.rest ∙ ap (λ (x : List ℕ). g.lines ++ x) (from_end g.session text at h) ∙ append-nil g.lines in
        g.sent_is ∙ ap length (sym e)

-- the one line for a text that is too long
pub long_comes : (text : List ℕ) → most_text < length text → Comes (transcript text) 0 5 (bytes "E 14\n")
long_comes s h = record { is = rw (transcript-long s h); ends = refl }

-- A writer whose bytes are known holds what was handed over. At first that is nothing.
pub written-none : (a : Option (List ℕ)) (all : List ℕ) → Appends a a (take 0 all)
written-none Unknown all = tt
written-none (Known xs) all = sym (append-nil xs)

written-both : (a b c : Option (List ℕ)) (x y z : List ℕ) → z ≡ x ++ y → Appends a b x → Appends b c y → Appends a c z
written-both Unknown b c x y z e p q = tt
written-both (Known xs) Unknown c x y z e p q = absurd p
written-both (Known xs) (Known ys) Unknown x y z e p q = absurd q
written-both (Known xs) (Known ys) (Known zs) x y z e p q =
    q ∙ ap (λ (w : List ℕ). w ++ y) p ∙ append_assoc xs x y ∙ ap (λ (w : List ℕ). xs ++ w) (sym e)

-- what comes next, written
pub written-on : (a b c : Option (List ℕ)) {all : List ℕ} {sent next : ℕ} {part : List ℕ} → Comes all sent next part
    → Appends a b (take sent all) → Appends b c part → Appends a c (take next all)
written-on a b c {all} {sent} {next} {part} h p q =
    let e : sent + (next - sent) ≡ next = omega (arith, h.ends) in
    let t : take next all ≡ take sent all ++ part =
    ap (λ (n : ℕ). take n all) (sym e) ∙ take-add sent (next - sent) all ∙ ap (λ (w : List ℕ). take sent all ++ w) (sym h.is) in
    written-both a b c (take sent all) part (take next all) t p q

-- all of it written
pub written-all : (a b : Option (List ℕ)) (all : List ℕ) (sent : ℕ) → sent ≡ length all → Appends a b (take sent all) → Appends a b all
written-all a b all sent e p = let t : take sent all ≡ all = take_all sent all (omega (arith, e)) in rw (← t) p
