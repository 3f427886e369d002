-- What a test says, both ways: the laws follow the test's form.
use Rattle.std.specs.Prelude.{◌+◌, ◌<◌, ◌≤◌, ◌≡◌, ◌&&◌}
use Rattle.laws.specs.Kit.{ℕ, zero, suc, refl, sym, ◌∙◌, Bool, true, false, not, arith, leb-true, ltb-true}
use Rattle.laws.specs.{Kit.{eqb-true, le-leb, lt-ltb, eq-eqb, eqb, leb, ltb}, Loop.{pick, cases, scan, turns}}
use Rattle.laws.specs.All.{all, all-at, all_true}

pub record Says (b : Bool) (P : Type 0) : Type 0 where
  pub to : b ≡ true → P
  pub from : P → b ≡ true

pub says-leb : (a b : ℕ) → Says (leb a b) (a ≤ b)
says-leb a b = record { to = leb-true a b; from = le-leb a b }

pub says-eqb : (a b : ℕ) → Says (eqb a b) (a ≡ b)
says-eqb a b = record { to = eqb-true a b; from = eq-eqb a b }

pub clash : {R : Type 0} → false ≡ true → R
clash e = absurd (let z : ◌≡◌ {A = ℕ} 0 1 = cc in omega arith)

-- not both
pub apart : {R : Type 0} (b : Bool) → b ≡ true → b ≡ false → R
apart b p q = clash (sym q ∙ p)

pub says_both : {P Q : Type 0} (a b : Bool) → Says a P → Says b Q → Says (a && b) (P × Q)
says_both true b p q = record { to = λ e. (p.to refl, q.to e); from = λ h. q.from h.1 }
says_both false b p q = record { to = λ e. clash e; from = λ h. p.from h.0 }

pub says_if : {P Q R : Type 0} (a b c : Bool) → Says a P → Says b Q → Says c R → Says (pick a b c) ((P → Q) × ((P → ⊥) → R))
says_if true b c p q r = record { to = λ e. (λ h. q.to e, λ n. absurd (n (p.to refl))); from = λ h. q.from (h.0 (p.to refl)) }
says_if false b c p q r = record { to = λ e. (λ h. clash (p.from h), λ n. r.to e); from = λ h. r.from (h.1 (λ x. clash (p.from x))) }

pub says-not : {P : Type 0} (a : Bool) → Says a P → Says (not a) (P → ⊥)
says-not true p = record { to = λ e. clash e; from = λ n. absurd (n (p.to refl)) }
says-not false p = record { to = λ e h. clash (p.from h); from = λ n. refl }

pub says_all : {P : ℕ → Type 0} (p : ℕ → Bool) (n : ℕ) → ((k : ℕ) → k < n → Says (p k) (P k)) → Says (all p n 0) ((k : ℕ) → k < n → P k)
says_all p n h =
    record {
      to = λ e k l. (h k l).to (all-at p n 0 e k (omega arith) (omega arith));
      from = λ f. all_true p n 0 (λ k l g. (let b : k < n = omega arith in (h k b).from (f k b)));
    }

pub says_as : {P Q : Type 0} (b : Bool) → Says b P → (P → Q) → (Q → P) → Says b Q
says_as b p f g = record { to = λ e. f (p.to e); from = λ q. p.from (g q) }

-- where a test of all fails, it fails at one
pub all-not : (p : ℕ → Bool) (n at : ℕ) → all p n at ≡ false → (k : ℕ) × (at ≤ k) × (k < at + n) × (p k ≡ false)
unfolding all scan turns
all-not p zero at e = apart true refl e
all-not p (suc n) at e =
    cases (p at)
    (λ t. let r = all-not p n (suc at) (rw t at e) in (r.0, omega (arith, r.1), omega (arith, r.2), r.3))
    (λ t. (at, omega arith, omega arith, t))

pub says-ltb : (a b : ℕ) → Says (ltb a b) (a < b)
says-ltb a b = record { to = ltb-true a b; from = lt-ltb a b }

-- two tests that say the same
pub says-one : {P : Type 0} (a b : Bool) → Says a P → Says b P → a ≡ b
says-one a b p q = cases b (λ e. p.from (q.to e) ∙ sym e) (λ e. cases a (λ f. apart b (q.from (p.to f)) e) (λ f. f ∙ sym e))
