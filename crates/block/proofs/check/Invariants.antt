use Rattle.block.specs.{Limits.{check_at}, Check.{walk_back}}
use Rattle.std.specs.Prelude.{◌≡◌, ◌*◌, ◌≤◌, ◌-◌}
use Rattle.block.proofs.check.Given as goal

-- the walk from here gives what the whole walk gives; each of the sums so far is at most 508 times 255
abbrev pub invariant-loop-j : goal.invariant-loop-j
invariant-loop-j l =
    (l.sum_so_far ≤ 255 * (check_at - l.j))
    × ((l.sum_of_sums ≤ check_at * 255 * (check_at - l.j)) × (walk_back l.b l.j l.sum_so_far l.sum_of_sums ≡ walk_back l.b check_at 0 0))
