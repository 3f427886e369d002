-- What loading comes to: to one thing only, and each answer exactly in its condition.
use Rattle.std.specs.Prelude.{◌<◌, ◌≤◌, ◌≡◌, ◌↔◌, ◌&&◌}
use Rattle.laws.specs.Kit.{ℕ, refl, sym, ap, ◌∙◌, List, arith}
use Rattle.laws.specs.{Kit.{lt-ltb, le-ltb}, Loop.{cases}, Says.{Says, says_both}, Tests.{same, says_same}}
use Rattle.laws.specs.FirstNot.{FirstNot, first_as, fails-below, below_fails, all_pass}
use Rattle.machine.specs.{Table.{State}, Rules.{Rules}, RulesTest.{keeps}}
use Rattle.machine.proofs.RulesTestTells.{says-rules}
use Rattle.block.specs.Damage.{blocks_in, RightAt, WholeBlocks, Undamaged, whole_blocks, says-whole, first_wrong, says_right}
use Rattle.block.specs.{Stands.{StandsAt, says-placed}, Limits.{places-most}}
use Rattle.image.specs.Encode.{encode}
use Rattle.image.specs.Decode.{decode, n_in, places_in}
use Rattle.image.proofs.Decode.{decode-encode}
use Rattle.image.proofs.EachBlock.{image-sound, image-stands}
use Rattle.image.specs.Link.ReadShape.{shaped}
use Rattle.image.specs.Load.{length_fault, check_fault, rule_fault, Loaded, refused, loaded, load, NoImage, Loads, by_length, by_check, by_rule, as_saved, load_by}

-- where b is an image, the fields read are its table
pub read_back : (b : List ℕ) (s : State) → Rules s → encode s ≡ b → decode b ≡ s
read_back b s r e = ap decode (sym e) ∙ decode-encode s r

-- of what was read, the tests tell whether it is the table whose image b is
says_saved : (b : List ℕ) → Says (keeps (decode b) && same (encode (decode b)) b) (Rules (decode b) × (encode (decode b) ≡ b))
says_saved b = says_both _ _ (says-rules (decode b) (shaped (places_in b) (places-most (n_in b)) b)) (says_same (encode (decode b)) b)

no_wrong : (b : List ℕ) → Undamaged b → blocks_in b ≤ first_wrong b
no_wrong b u = let e = first_as _ (says_right b) (all_pass u.checks) in omega arith

-- it comes to what load gives, and so to one thing only
pub loads_is : (b : List ℕ) (x : Loaded) → Loads b x → x ≡ load b
unfolding load
loads_is b x (by_length h) = cases (whole_blocks b) (λ e. absurd (h ((says-whole b).to e))) (λ e. rw e)
loads_is b x (by_check k w h f) =
    let e : k ≡ first_wrong b = first_as _ (says_right b) f in
    rw ((says-whole b).from w, lt-ltb (first_wrong b) (blocks_in b) (omega arith)) (ap (λ (j : ℕ). refused (check_fault j)) e)
loads_is b x (by_rule k u g f) =
    rw ((says-whole b).from u.whole, le-ltb _ _ (no_wrong b u))
    (cases (keeps (decode b) && same (encode (decode b)) b)
    (λ e. let r = (says_saved b).to e in absurd (g (decode b) r.0 r.1))
    (λ e. rw e (ap (λ (j : ℕ). refused (rule_fault j)) (first_as _ (says-placed b) f))))
loads_is b x (as_saved s r e) =
    let d = read_back b s r e in
    let u : Undamaged b = rw e at (image-sound s) in
    rw ((says-whole b).from u.whole, le-ltb _ _ (no_wrong b u), (says_saved b).from (rw d (r, e))) (ap loaded (sym d))

pub one-load : (b : List ℕ) (x y : Loaded) → Loads b x → Loads b y → x ≡ y
one-load b x y p q = loads_is b x p ∙ sym (loads_is b y q)

pub load_loads : (b : List ℕ) → Loads b (load b)
unfolding load
load_loads b = load_by b (decode b) (read_back b) _ (says_saved b)

-- the four answers, each exactly in its condition --

is-length : (b : List ℕ) → Loads b (refused length_fault) → WholeBlocks b → ⊥
is-length b (by_length h) = h

is_check : (b : List ℕ) (k : ℕ) → Loads b (refused (check_fault k)) → WholeBlocks b × (k < blocks_in b) × FirstNot (RightAt b) (blocks_in b) k
is_check b k (by_check j w h f) = (w, h, f)

is_rule : (b : List ℕ) (k : ℕ) → Loads b (refused (rule_fault k)) → Undamaged b × NoImage b × FirstNot (StandsAt b) (blocks_in b) k
is_rule b k (by_rule j u g f) = (u, g, f)

is_saved : (b : List ℕ) (s : State) → Loads b (loaded s) → Rules s × (encode s ≡ b)
is_saved b s (as_saved t r e) = (r, e)

pub load_15 : (b : List ℕ) → (load b ≡ refused length_fault) ↔ (WholeBlocks b → ⊥)
load_15 b = (λ e. is-length b (rw e at (load_loads b)), λ h. sym (loads_is b _ (by_length h)))

pub load_12 : (b : List ℕ) (k : ℕ) → (load b ≡ refused (check_fault k)) ↔ (WholeBlocks b × (k < blocks_in b) × FirstNot (RightAt b) (blocks_in b) k)
load_12 b k = (λ e. is_check b k (rw e at (load_loads b)), λ h. sym (loads_is b _ (by_check k h.0 h.1 h.2)))

pub load_13 : (b : List ℕ) (k : ℕ) → (load b ≡ refused (rule_fault k)) ↔ (Undamaged b × NoImage b × FirstNot (StandsAt b) (blocks_in b) k)
load_13 b k = (λ e. is_rule b k (rw e at (load_loads b)), λ h. sym (loads_is b _ (by_rule k h.0 h.1 h.2)))

pub load_is : (b : List ℕ) (s : State) → (load b ≡ loaded s) ↔ (Rules s × (encode s ≡ b))
load_is b s = (λ e. is_saved b s (rw e at (load_loads b)), λ h. sym (loads_is b (loaded s) (as_saved s h.0 h.1)))

-- where a refusal is --

-- 12: "the first bad block": a wrong check there, and every block before it is right
pub first_bad : (b : List ℕ) (k : ℕ) → load b ≡ refused (check_fault k) → (k < blocks_in b) × (RightAt b k → ⊥) × ((j : ℕ) → j < k → RightAt b j)
first_bad b k e = let h = (load_12 b k).0 e in (h.1, h.2.fails h.1, h.2.before)

-- a block that cannot stand where it is is in no image
pub misplaced_no_image : (b : List ℕ) (k : ℕ) → k < blocks_in b → (StandsAt b k → ⊥) → NoImage b
misplaced_no_image b k h f s r e = f (rw e at (image-stands s k (rw e h)))

-- 13 below the block count: exactly where nothing is damaged and a block, the first such, cannot stand where it is
pub misplaced : (b : List ℕ) (k : ℕ) → k < blocks_in b
    → (load b ≡ refused (rule_fault k)) ↔ (Undamaged b × (StandsAt b k → ⊥) × ((j : ℕ) → j < k → StandsAt b j))
misplaced b k l = (
  λ e. (let h = (load_13 b k).0 e in (h.0, h.2.fails l, h.2.before)),
  λ h. (load_13 b k).1 (h.0, misplaced_no_image b k l h.1, record { most = omega arith; before = h.2; fails = λ _. h.1 }),
)

-- 13 at the block count: exactly where every block can stand where it is, and "only other rules break"
pub other-rules : (b : List ℕ)
    → (load b ≡ refused (rule_fault (blocks_in b))) ↔ (Undamaged b × NoImage b × ((j : ℕ) → j < blocks_in b → StandsAt b j))
other-rules b = (
  λ e. (let h = (load_13 b (blocks_in b)).0 e in (h.0, h.1, h.2.before)),
  λ h. (load_13 b (blocks_in b)).1 (h.0, h.1, all_pass h.2),
)

-- so the place of 13 is below the block count exactly if some block cannot stand where it is
pub some_misplaced : (b : List ℕ) (k : ℕ) → load b ≡ refused (rule_fault k) → (k < blocks_in b) ↔ ((j : ℕ) × (j < blocks_in b) × (StandsAt b j → ⊥))
some_misplaced b k e = let f = ((load_13 b k).0 e).2 in (fails-below f, below_fails f)

-- images --

-- a table saved and loaded is the same table
pub load-encode : (s : State) → Rules s → load (encode s) ≡ loaded s
load-encode s r = (load_is (encode s) s).1 (r, refl)

-- an image loaded and saved again gives its bytes
pub encode-load : (b : List ℕ) (s : State) → load b ≡ loaded s → encode s ≡ b
encode-load b s e = ((load_is b s).0 e).1

-- no two images for one table
pub one-image : (b c : List ℕ) (s : State) → load b ≡ loaded s → load c ≡ loaded s → b ≡ c
one-image b c s e f = sym (encode-load b s e) ∙ encode-load c s f
