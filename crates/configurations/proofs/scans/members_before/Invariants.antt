use Rattle.std.proofs.Common.{◌≡◌}
use Rattle.configurations.specs.Configurations.{members_before}
use Rattle.configurations.proofs.scans.members_before.Given as goal

-- the members by the entries so far
abbrev pub invariant-loop-p : goal.invariant-loop-p
invariant-loop-p g l = l.members ≡ members_before (g.J.Journal.lists l.journal l.owner) l.p
