use Rattle.std.proofs.Common.{◌≡◌, ℕ, ◌*◌, ◌≤◌, Bool, true, false, cond, ltb, count_by, ◌∙◌, ap, arith}
use Rattle.quorum.specs.GroupRule.{group_number, counts, won}
use Rattle.quorum.specs.Passing.{passing, four}
use Rattle.quorum.specs.declared.Group.TheVariants.{Zero, One, Two, Three}
use Rattle.quorum.proofs.Groups.groups_won.Goals as goal

one : (b : Bool) → cond {A = ℕ} b 1 0 ≤ 1
one true = omega arith
one false = omega arith

few : (p : ℕ → Bool) → passing p ≤ 4
few p =
    omega (arith, one (p (group_number Zero)), one (p (group_number One)), one (p (group_number Two)), one (p (group_number Three)))

pub returns : goal.returns
returns c =
    let rule = c.args.self.now in
    let wins = won rule c.args.members c.args.set in
    let told : c.won.result ≡ passing wins = c.won.ensures ∙ ap (count_by (λ s. ltb s.whole (2 * s.part))) c.standings-standings.ensures in (
      c.counting.ensures ∙ ap (count_by (λ s. ltb 0 s.whole)) c.standings-standings.ensures ∙ four (counts rule c.args.members),
      told ∙ four wins,
      omega (arith, told, few wins),
    )
