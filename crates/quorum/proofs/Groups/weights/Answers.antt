use Rattle.std.proofs.Common.{◌≡◌, ℕ, ◌+◌, get_or, set, cond, refl, ap, ap₂, ◌∙◌, arith}
use Rattle.quorum.specs.GroupRule.{group_number, share_of}
use Rattle.quorum.specs.Sets.{has, weigh}
use Rattle.quorum.specs.Passing.{weights_in}
use Rattle.quorum.proofs.Weights.{here, one_more, small_more}
use Rattle.quorum.proofs.Groups.weights.Goals as goal

pub loop-i-init : goal.loop-i-init
unfolding weigh
loop-i-init c = (refl, λ g. omega arith)

pub overflow_add-weights : goal.overflow_add-weights
overflow_add-weights c =
    let rule = c.args.self.now in
    let g = (share_of rule c.loop-i.i).group in
    let told : get_or c.loop-i.weights c.number.result 0 ≡ get_or (weights_in rule c.args.set c.loop-i.i) (group_number g) 0 =
    ap₂ (λ ws k. get_or ws k 0) c.loop-i.invariant.0 c.number.ensures.number in
    omega (arith, told, here rule c.args.set c.loop-i.i g, c.loop-i.invariant.1 (group_number g), c.weight_if.ensures.small, c.loop-i-test.true)

pub loop-i-preserved : goal.loop-i-preserved
loop-i-preserved c =
    let rule = c.args.self.now in
    let i : ℕ = c.loop-i.i in
    let x : ℕ = c.weight_if.result in
    let adds : x ≡ cond (has c.args.set i) (share_of rule i).weight 0 =
    c.weight_if.ensures.weight ∙ ap (λ h. cond h (share_of rule i).weight 0) c.contains.ensures in
    (ap₂ (λ ws k. set ws k (get_or ws k 0 + x)) c.loop-i.invariant.0 c.number.ensures.number ∙ one_more rule c.args.set i (share_of rule i).group x refl adds, λ g. small_more rule c.args.set i g x adds c.weight_if.ensures.small (c.loop-i.invariant.1 g))
