use Rattle.std.proofs.Common.{◌≡◌, ◌≤◌}
use Rattle.configurations.specs.Configurations.{version_before}
use Rattle.configurations.proofs.scans.version.Given as goal

-- the configurations among the entries so far, at most one for each
abbrev pub invariant-loop-p : goal.invariant-loop-p
invariant-loop-p g l = (l.version ≤ l.p) × (l.version ≡ version_before (g.J.Journal.lists l.journal l.owner) l.p)
