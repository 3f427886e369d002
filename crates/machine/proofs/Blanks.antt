-- A cell that is never written reads unset; a verdict is yes only if every cell shows a written 1; a trip is its reads.
use Rattle.std.specs.Prelude.{◌≡◌, ◌≢◌, ◌↔◌, ◌∷◌}
use Rattle.laws.specs.Kit.{refl, sym, ap, ◌∙◌, List, [], map, Memᴰ, Memᴰ-head, Memᴰ-tail}
use Rattle.laws.specs.{Kit.{Memᴰ-append_left, Memᴰ-append_right, Option, none, some, ℕ, arith, eqb-true, eq-eqb, length}, Loop.{cases}}
use Rattle.laws.specs.{Says.{Says, clash, apart}, Update.{upd2-all, upd2-other}, Lists.{any, every, any-map, every_map, says_any}}
use Rattle.laws.specs.Lists.{says-every}
use Rattle.machine.specs.{Table.{most_desks, most_cells, most_open, blank, set, done, Open, State, fresh}, Answer.{Shown, unset}}
use Rattle.machine.specs.{Answer.{shown, Verdict, Yes, No, Unknown, Answer, shows, judged}, Steps.{Out, read, shown_at, mark, apply}}
use Rattle.machine.specs.Steps.{hold, next_number, new_write, raise, reads, has_status, verdict, Step, Read, Write, Deliver, Trip, step}
use Rattle.machine.specs.{Steps.{answers}, Rules.{In, Rules}, Refusals.{Accepted}, History.{write_at, events_of, Act, take_step}}
use Rattle.machine.specs.{History.{save_and_load, run, history}, Blanks.{Unwritten, HasStatus, ShowsStatus, AllShow, SomeShows}}
use Rattle.machine.specs.Blanks.{TripIsReads}
use Rattle.machine.proofs.RulesKept.{fresh-rules, step-keeps-rules}
use Rattle.machine.proofs.Refusals.{accepted-exactly, accepted-effect, step_cases}
use Rattle.machine.proofs.Cases.{deliver_cases, still_cases}
use Rattle.machine.proofs.Cases.{settle-keeps, reads_keep}

-- Never written --

abbrev Elsewhere : ℕ → Option Open → Type 0
Elsewhere x none = Unit {0}
Elsewhere x (some w) = w.cell ≢ x

-- the cell x is unset at every desk, and no open write is for it
record Blank (s : State) (x : ℕ) : Type 0 where
  cell : (i : ℕ) → s.cell i x ≡ blank
  opens : (u k : ℕ) → Elsewhere x (s.opens u k)

module _ (x : ℕ) where
  apply-blank : (s : State) (i u k : ℕ) (w : Open) → w.cell ≢ x → Blank s x → Blank (apply s i u k w) x
  apply-blank s i u k w h b =
      record {
        cell = λ j. upd2-other s.cell i w.cell (set w.status u w.vector) j x (λ p q. h (sym q)) ∙ b.cell j;
        opens = λ v l. upd2-all s.opens u k _ (λ v l o. Elsewhere x o) v l
            (λ p q. still_cases (Elsewhere x) s.setup.desks (mark w i done) (λ e. tt) (λ e. h)) (λ n. b.opens v l);
      }

  hold-blank : (s : State) (i u k : ℕ) (w : Open) → w.cell ≢ x → Blank s x → Blank (hold s i u k w) x
  hold-blank s i u k w h b =
      record { cell = b.cell; opens = λ v l. upd2-all s.opens u k _ (λ v l o. Elsewhere x o) v l (λ p q. h) (λ n. b.opens v l) }

  read-blank : (s : State) (i y : ℕ) → Blank s x → Blank (read s i y) x
  read-blank s i y b = record { cell = b.cell; opens = b.opens }

  open-elsewhere : {s : State} {u k : ℕ} {w : Open} → Blank s x → s.opens u k ≡ some w → w.cell ≢ x
  open-elsewhere {s} {u} {k} b e = rw e at (b.opens u k)

  -- after any step but an accepted write of x
  abbrev StillBlank : State → Step → Out → Type 0
  StillBlank s a o = Unwritten x (events_of s a o.answer) → Blank o.state x

  step-blank : {s : State} (a : Step) → Blank s x → StillBlank s a (step s a)
  step-blank {s} (Read i y) b = step_cases s (Read i y) (StillBlank s (Read i y)) (λ r n. b) (λ h n. read-blank s i y b)
  step-blank {s} (Write i y v) b =
      step_cases s (Write i y v) (StillBlank s (Write i y v)) (λ r n. b)
      (λ h n. apply-blank (raise s i) i i (next_number s i) (new_write s i y v)
      (λ e. n i v (next_number s i) (Memᴰ-head (ap (λ (z : ℕ). write_at i z v (next_number s i)) (sym e))))
      (record { cell = b.cell; opens = b.opens }))
  step-blank {s} (Deliver i u k) b =
      deliver_cases s i u k (StillBlank s (Deliver i u k)) (λ r n. b)
      (λ w d t e n. hold-blank s i u k w (open-elsewhere b d.is) b)
      (λ w d e n. settle-keeps (λ s. Blank s x) i (λ s u k w e b. apply-blank s i u k w (open-elsewhere b e) b) most_open (apply s i u k w)
      (apply-blank s i u k w (open-elsewhere b d.is) b))
  step-blank {s} (Trip i xs) b =
      step_cases s (Trip i xs) (StillBlank s (Trip i xs)) (λ r n. b) (λ h n. reads_keep (λ s. Blank s x) i (λ s y b. read-blank s i y b) xs s b)

module _ (reload : State → State) (same : (s : State) → Rules s → reload s ≡ s) where
  run-blank : (x : ℕ) (l : List Act) {s : State} → Rules s → Blank s x → Unwritten x (history reload s l) → Blank (run reload s l) x
  unfolding run history
  run-blank x [] r b n = b
  run-blank x (take_step a ∷ l) {s} r b n =
      run-blank x l (step-keeps-rules r a) (step-blank x a b (λ i v k m. n i v k (Memᴰ-append_left _ m)))
      (λ i v k m. n i v k (Memᴰ-append_right (events_of s a (step s a).answer) m))
  run-blank x (save_and_load ∷ l) {s} r b n = run-blank x l (rw (same s r) r) (rw (same s r) b) n

  -- a cell that no accepted write names shows unset at every desk, after any schedule with saves and reloads anywhere
  pub never_written_reads_unset : (n m : ℕ) → In most_desks n → In most_cells m → (l : List Act) (x : ℕ)
      → Unwritten x (history reload (fresh n m) l) → (i : ℕ) → shown_at (run reload (fresh n m) l) i x ≡ unset
  never_written_reads_unset n m hn hm l x un i =
      rw ((run-blank x l (fresh-rules n m hn hm) (record { cell = λ i. refl; opens = λ u k. tt }) un).cell i)

-- Verdicts --

-- reading changes clocks only: every cell shows what it showed before the trip
pub reads-shown : (s : State) (i : ℕ) (xs : List ℕ) → (reads s i xs).shown ≡ map (shown_at s i) xs
unfolding reads
reads-shown s i [] = refl
reads-shown s i (x ∷ xs) = ap (λ (l : List Shown). shown_at s i x ∷ l) (reads-shown (read s i x) i xs)

says-status : (v : ℕ) (z : Shown) → Says (has_status v z) (HasStatus v z)
says-status v unset = record { to = λ e. clash e; from = λ h. (let e : unset ≡ shown v h.writer h.number = h.is in cc) }
says-status v (shown v' u k) = record { to = λ e. record { writer = u; number = k; is = rw (eqb-true v' v e) }; from = λ h. (let e : shown v' u k ≡ shown v h.writer h.number = h.is in eq-eqb v' v (cc)) }

-- the three verdicts, of two tests that do not both pass
abbrev Means : Verdict → Type 0 → Type 0 → Type 0
Means Yes two one = one
Means No two one = two
Means Unknown two one = (two → ⊥) × (one → ⊥)

module _ {two one : Type 0} (n : two → one → ⊥) where
  means-one : (v v' : Verdict) → Means v two one → Means v' two one → v ≡ v'
  means-one Yes Yes a b = refl
  means-one Yes No a b = absurd (n b a)
  means-one Yes Unknown a b = absurd (b.1 a)
  means-one No Yes a b = absurd (n a b)
  means-one No No a b = refl
  means-one No Unknown a b = absurd (b.0 a)
  means-one Unknown Yes a b = absurd (a.1 b)
  means-one Unknown No a b = absurd (a.0 b)
  means-one Unknown Unknown a b = refl

  verdict-has : (l : List Shown) → Says (any (has_status 2) l) two → Says (every (has_status 1) l) one → Means (verdict l) two one
  unfolding verdict
  verdict-has l p q =
      cases (any (has_status 2) l)
      (λ e. rw (e, Means) (p.to e))
      (λ e. cases (every (has_status 1) l) (λ f. rw (e, f, Means) (q.to f)) (λ f. rw (e, f, Means) (λ x. apart _ (p.from x) e, λ x. apart _ (q.from x) f)))

module _ (s : State) (i : ℕ) (xs : List ℕ) where
  not-both : SomeShows s i 2 xs → AllShow s i 1 xs → ⊥
  not-both a b =
      let two = a.has in
      let one = b a.element a.among in
      let z : ◌≡◌ {A = ℕ} 2 1 = cc (two.is, one.is) in
      omega arith

  meaning : Means (verdict (reads s i xs).shown) (SomeShows s i 2 xs) (AllShow s i 1 xs)
  meaning =
      rw (reads-shown s i xs)
      (verdict-has not-both (map (shown_at s i) xs)
      (rw any-map (says_any _ (λ x. says-status 2 (shown_at s i x)) xs))
      (rw every_map (says-every _ (λ x. says-status 1 (shown_at s i x)) xs)))

  abbrev Judges : Verdict → Out → Type 0
  Judges v o = (o.answer ≡ judged v) ↔ (Accepted o.answer × Means v (SomeShows s i 2 xs) (AllShow s i 1 xs))

  trip_means : (v : Verdict) → Judges v (step s (Trip i xs))
  trip_means v =
      step_cases s (Trip i xs) (Judges v) (λ r. (λ e. clash (cc), λ h. absurd (h.0 r refl)))
      (λ ok. (
        λ e. (λ r q. clash (cc), let same : verdict (reads s i xs).shown ≡ v = cc in rw same at meaning),
        λ h. ap judged (means-one not-both _ v meaning h.1),
      ))

  -- an accepted trip has cells
  not_empty : Accepted (step s (Trip i xs)).answer → xs ≢ []
  not_empty a e = let l = ((accepted-exactly s (Trip i xs)).0 a).1.0 in omega (arith, ap length e, l)

  -- "yes if all read 1": unset and a written 0 never make a yes
  pub yes-means-all-one : ((step s (Trip i xs)).answer ≡ judged Yes) ↔ (Accepted (step s (Trip i xs)).answer × (xs ≢ []) × AllShow s i 1 xs)
  yes-means-all-one = (λ e. let m = (trip_means Yes).0 e in (m.0, not_empty m.0, m.1), λ h. (trip_means Yes).1 (h.0, h.2))

  -- "no if any reads 2"
  pub no-means-some-two : ((step s (Trip i xs)).answer ≡ judged No) ↔ (Accepted (step s (Trip i xs)).answer × SomeShows s i 2 xs)
  no-means-some-two = trip_means No

  -- "else unknown"
  pub unknown_means_neither : ((step s (Trip i xs)).answer ≡ judged Unknown)
      ↔ (Accepted (step s (Trip i xs)).answer × ((SomeShows s i 2 xs → ⊥) × (AllShow s i 1 xs → ⊥)))
  unknown_means_neither = trip_means Unknown

  -- each cell that makes a yes is written, and not with 0
  pub blank_never_yes : (step s (Trip i xs)).answer ≡ judged Yes → (x : ℕ) → Memᴰ x xs → (shown_at s i x ≢ unset) × (ShowsStatus s i 0 x → ⊥)
  blank_never_yes e x m =
      let one = (yes-means-all-one.0 e).2 x m in
      (λ q. (let z : ◌≡◌ {A = ℕ} 0 1 = cc one.is in omega arith), λ q. (let z : ◌≡◌ {A = ℕ} 0 1 = cc (one.is, q.is) in omega arith))

-- A trip is its reads --

module _ (i : ℕ) where
  reads-run : (xs : List ℕ) (s : State) → In s.setup.desks i → ((x : ℕ) → Memᴰ x xs → In s.setup.cells x)
      → ((reads s i xs).state ≡ run (λ s. s) s (map (λ x. take_step (Read i x)) xs)) × (answers s (map (Read i) xs) ≡ map (λ x. shows (shown_at s i x)) xs)
  unfolding reads run answers
  reads-run [] s hi hx = (refl, refl)
  reads-run (x ∷ xs) s hi hx =
      let rest = reads-run xs (read s i x) hi (λ y m. hx y (Memᴰ-tail m)) in
      let first = accepted-effect s (Read i x) (hi, (hx x (Memᴰ-head refl), tt)) in (
        rest.0 ∙ ap (λ (o : Out). run (λ s. s) o.state (map (λ x. take_step (Read i x)) xs)) (sym first),
        ap (λ (o : Out). o.answer ∷ answers o.state (map (Read i) xs)) first ∙ ap (λ (l : List Answer). shows (shown_at s i x) ∷ l) rest.1,
      )

pub trip_is_reads : (s : State) (i : ℕ) (xs : List ℕ) → Accepted (step s (Trip i xs)).answer → TripIsReads s i xs
trip_is_reads s i xs a =
    let ok = (accepted-exactly s (Trip i xs)).0 a in
    let one = reads-run i xs s ok.0 ok.1.1.0 in
    let whole = accepted-effect s (Trip i xs) ok in
    record {
      state_after = ap (λ (o : Out). o.state) whole ∙ one.0;
      shown_each = one.1;
      judged_all = ap (λ (o : Out). o.answer) whole ∙ rw reads-shown;
    }
