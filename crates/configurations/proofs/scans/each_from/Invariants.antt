use Rattle.std.proofs.Common.{◌≡◌, ℕ, ◌-◌, ◌≤◌, Bool, true, max}
use Rattle.configurations.specs.Tests.{Computes}
use Rattle.configurations.specs.Configurations.{each_from}
use Rattle.configurations.proofs.scans.each_from.Given as goal

-- the test holds of the entries so far, none of them past the end
abbrev pub invariant-loop-p : goal.invariant-loop-p
invariant-loop-p g l =
    (l.p ≤ max l.from l.p-end)
    × ((holds : ℕ → Bool) → Computes g.F.Fn l.test holds → each_from holds (g.J.Journal.lists l.journal l.owner) l.from (l.p - l.from) ≡ true)
