use Rattle.std.proofs.Common.{◌≡◌}
use Rattle.configurations.specs.Configurations.{last_before}
use Rattle.configurations.proofs.scans.last_before.Given as goal

-- the last configuration among the entries so far
abbrev pub invariant-loop-p : goal.invariant-loop-p
invariant-loop-p g l = l.last ≡ last_before (g.J.Journal.lists l.journal l.owner) l.p
