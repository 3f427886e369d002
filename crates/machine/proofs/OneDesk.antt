-- "With n = 1 a write is never open, so 5 is not met."
use Rattle.std.specs.Prelude.{◌≡◌}
use Rattle.laws.specs.{Kit.{ap, ◌∙◌, inl, inr, false, ℕ, arith}, Loop.{cases}, Says.{clash}, Sum.{one, tally, sum_same, sum-zero}}
use Rattle.machine.specs.{Table.{State, written}, Answer.{full, refused}, Steps.{is_open, open_count, Write, step}, Rules.{Rules}}
use Rattle.machine.specs.Refusals.{rows_of, FirstFails}
use Rattle.machine.proofs.Refusals.{refusal-exactly}

module _ {s : State} (r : Rules s) (alone : s.setup.desks ≡ 1) where
  pub alone_closed : (u k : ℕ) → is_open s u k ≡ false
  alone_closed u k =
      cases (is_open s u k)
      (λ t.
      let b = (r.frame.open-exactly u k).0 t in
      let same : b.lacks.desk ≡ u = omega (arith, b.writer, b.lacks.desk_in) in
      absurd (omega (arith, b.lacks.lower, b.number.1, ap (λ (j : ℕ). s.applied j u) same)))
      (λ t. t)

  pub alone_none_open : open_count s ≡ 0
  unfolding open_count
  alone_none_open =
      sum_same s.setup.desks (λ u. 0) (λ u. tally (written s u) (is_open s u))
      (λ u _ _. sum_same (written s u) (λ k. 0) (λ k. one (is_open s u k)) (λ k _ _. ap one (alone_closed u k)) ∙ sum-zero (written s u))
      ∙ sum-zero s.setup.desks

  pub alone_not_full : (i x v : ℕ) → (step s (Write i x v)).answer ≡ refused full → ⊥
  alone_not_full i x v e = go ((refusal-exactly s (Write i x v) full).0 e)
    where
      go : FirstFails (rows_of s (Write i x v)) full → ⊥
      go (inl f) = let z = f.1 in clash (cc)
      go (inr (_, inl f)) = let z = f.1 in clash (cc)
      go (inr (_, inr (_, inl f))) = let z = f.1 in clash (cc)
      go (inr (_, inr (_, inr (_, inl f)))) = let z = f.1 in clash (cc)
      go (inr (_, inr (_, inr (_, inr (_, inl f))))) = f.0 (omega (arith, alone_none_open))
      go (inr (_, inr (_, inr (_, inr (_, inr (_, f)))))) = absurd f
