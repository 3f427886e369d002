use Rattle.std.proofs.Common.{rules}
use Rattle.block.specs.Check.{walk_back, handbook, handbook_is_check}
use Rattle.std.specs.Prelude.{◌≡◌, ◌+◌, ◌≤◌, ◌-◌}
use Rattle.laws.specs.Kit.{ℕ, zero, suc, refl, sym, ◌∙◌, ap, List, get_or, arith}
use Rattle.block.proofs.check.Goals as goal

-- one byte further back
one-back : (b : List ℕ) (j so_far of-sums : ℕ) → 1 ≤ j
    → let more = so_far + get_or b (j - 1) 0 in walk_back b (j - 1) more (of-sums + more) ≡ walk_back b j so_far of-sums
unfolding walk_back
one-back b zero so_far of-sums h = absurd (omega arith)
one-back b (suc j) so_far of-sums h = let e : suc j - 1 ≡ j = omega arith in rw e refl

-- none to go
ended : (b : List ℕ) (so_far of-sums : ℕ) → walk_back b 0 so_far of-sums ≡ of-sums
unfolding walk_back
ended b so_far of-sums = refl

pub loop-j-preserved : goal.loop-j-preserved
loop-j-preserved c = let L = c.loop-j in let b = c.args.b.now in
    let walk = one-back b L.j L.sum_so_far L.sum_of_sums (omega arith) ∙ L.invariant.1.1 in
    (search rules, (search rules, rw c.from-sum_so_far.ensures walk))

pub returns : goal.returns
unfolding handbook
returns c = let L = c.loop-j in let b = c.args.b.now in let e : L.j ≡ 0 = omega arith in
    ap (λ (x : ℕ). x + 1) (sym (ended b L.sum_so_far L.sum_of_sums) ∙ rw e at L.invariant.1.1) ∙ handbook_is_check b
