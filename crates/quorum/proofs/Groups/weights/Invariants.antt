use Rattle.std.proofs.Common.{◌≡◌, ℕ, ◌*◌, ◌≤◌, ◌&&◌}
use Rattle.quorum.specs.GroupRule.{share_of, belongs}
use Rattle.quorum.specs.Sets.{has, weigh}
use Rattle.quorum.specs.Passing.{weights_in}
use Rattle.quorum.proofs.Groups.weights.Given as goal

-- the weights of the cabinets so far, none of them large
abbrev pub invariant-loop-i : goal.invariant-loop-i
invariant-loop-i l =
    (l.weights ≡ weights_in l.self l.set l.i)
    × ((g : ℕ) → weigh (λ i. (share_of l.self i).weight) l.i (λ i. has l.set i && belongs l.self g i) ≤ 255 * l.i)
