-- The lines of a text by runs, one after the other: each run's answers go behind those before it.
use Rattle.std.specs.Prelude.{◌≡◌, ◌++◌, ◌+◌, ◌-◌, ◌*◌, ◌^◌, ◌<◌, ◌≤◌}
use Rattle.laws.specs.Kit.{refl, sym, ap, ◌∙◌, List, [], append_assoc, append-nil, Bool, true, false, ℕ}
use Rattle.laws.specs.{Kit.{max, arith, length, take, length-append, sets, length-sets}, Loop.{pick}, Stores.{sets_append}}
use Rattle.table.specs.declared.Table.{Table}
use Rattle.session.specs.{Session.{Session}, Transcript.{transcript_from, session_from, most_text}, TranscriptLaws.{from_end, left_end}}
use Rattle.session.specs.{Holds.{Holds}, Run.{Ran, ran_rest, ran_leaves, ran_within, ran_progress, ran_part}}
use Rattle.capi.specs.Mirror.AccessParts.{most_part, LinedFrom}

-- bytes that are put only if they are to be put
put_none : (put : Bool) (out : List ℕ) (base : ℕ) → out ≡ pick put (sets out base []) out
put_none true out base = refl
put_none false out base = refl

put_more : (put : Bool) (out a b : List ℕ) (base len : ℕ) {out' out'' : List ℕ} → len ≡ length a → out' ≡ pick put (sets out base a) out
    → out'' ≡ pick put (sets out' (base + len) b) out' → out'' ≡ pick put (sets out base (a ++ b)) out
put_more true out a b base len l e f = f ∙ rw (e, l) (sym (sets_append a b out base))
put_more false out a b base len l e f = f ∙ e

put_long : (put : Bool) (out a : List ℕ) (base : ℕ) {out' : List ℕ} → out' ≡ pick put (sets out base a) out → length out' ≡ length out
put_long true out a base e = ap length e ∙ length-sets out base a
put_long false out a base e = ap length e

-- the lines under way
pub record Lining (z : Session) (text : List ℕ) (from : ℕ) (put : Bool) (out : List ℕ) (base : ℕ) (t : Table) (at len : ℕ) (out' : List ℕ) : Type 0 where
  pub session : Session
  pub lines : List ℕ
  pub holds : Holds t session
  pub len_is : len ≡ length lines
  pub stored : out' ≡ pick put (sets out base lines) out
  pub rest : transcript_from z text from ≡ lines ++ transcript_from session text at
  pub leaves : session_from z text from ≡ session_from session text at
  pub back : from ≤ at
  pub within : at ≤ max from (length text)
  pub few : len ≤ most_part * (at - from)

pub lining_start : {z : Session} {text : List ℕ} {from : ℕ} {put : Bool} {out : List ℕ} {base : ℕ} {t : Table} → Holds t z
    → Lining z text from put out base t from 0 out
lining_start {z} {put} {out} {base} h = record {
  session = z;
  lines = [];
  holds = h;
  len_is = refl;
  stored = put_none put out base;
  rest = refl;
  leaves = refl;
  back = omega arith;
  within = omega arith;
  few = omega arith;
}

module _ {z : Session} {text : List ℕ} {from : ℕ} {put : Bool} {out : List ℕ} {base : ℕ} {t : Table} {at len : ℕ} {out' : List ℕ}
    (g : Lining z text from put out base t at len out') where
  pub lining_long : length out' ≡ length out
  lining_long = put_long put out g.lines base g.stored

  module _ {part : List ℕ} {t' : Table} {at' more : ℕ} {part' : List ℕ} (r : Ran g.session text at part t' at' more part') where
    all-is : transcript_from z text from ≡ (g.lines ++ r.lines) ++ transcript_from r.session text at'
    all-is = g.rest ∙ ap (λ (x : List ℕ). g.lines ++ x) (ran_rest r) ∙ sym (append_assoc g.lines r.lines (transcript_from r.session text at'))

    -- what a run answered has room, as all of it has
    pub lining_room : base + length (transcript_from z text from) ≤ length out → base + len + more ≤ length out'
    lining_room h = omega (arith, g.len_is, r.len_is, lining_long, simp length-append at (ap length all-is))

    -- so its place, the next length and the run's own part are numbers that fit
    pub lining_place : base + length (transcript_from z text from) ≤ length out → length out < 2 ^ 64 → base + len < 2 ^ 64
    lining_place h l = omega (arith, lining_room h, lining_long)

    pub lining_sum : length part ≡ most_part → length text ≤ most_text → len + more < 2 ^ 64
    lining_sum p h = omega (arith, g.few, g.within, r.len_is, r.fits)

    pub lining_part : more ≤ length part'
    lining_part = omega (arith, r.len_is, r.fits, ap length r.stored ∙ length-sets part 0 r.lines)

    pub lining_less : length part ≡ most_part → at < length text → length text - at' < length text - at
    lining_less p h = omega (arith, ran_progress r h (omega arith))

    -- one run more
    pub lining_on : {out'' : List ℕ} → length part ≡ most_part → at < length text → out'' ≡ pick put (sets out' (base + len) (take more part')) out'
        → Lining z text from put out base t' at' (len + more) out''
    lining_on {out''} p h e = record {
      session = r.session;
      lines = g.lines ++ r.lines;
      holds = r.holds;
      len_is = omega (arith, g.len_is, r.len_is, length-append g.lines r.lines);
      stored = put_more put out g.lines r.lines base len g.len_is g.stored (rw (ran_part r) at e);
      rest = all-is;
      leaves = g.leaves ∙ ran_leaves r;
      back = omega (arith, g.back, (ran_within r).0);
      within = omega (arith, g.within, (ran_within r).1);
      few = omega (arith, g.few, g.back, r.len_is, r.fits, ran_progress r h (omega arith));
    }

  -- the end of the text
  pub lining_end : length text ≤ most_text → length text ≤ at → LinedFrom z text from put out base t len out'
  lining_end l h =
      let e : transcript_from z text from ≡ g.lines = g.rest ∙ ap (λ (x : List ℕ). g.lines ++ x) (from_end g.session text at h) ∙ append-nil g.lines in
      let f : session_from z text from ≡ g.session = g.leaves ∙ left_end g.session text at h in
      record {
        holds = rw f g.holds;
        len_is = rw e g.len_is;
        stored = rw e g.stored;
        few = omega (arith, g.few, g.back, g.within);
      }
