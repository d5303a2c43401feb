use Rattle.std.proofs.Common.{◌≡◌, ◌-◌, length}
use Rattle.configurations.specs.Configurations.{members_before}
use Rattle.committing.specs.Committing.{risen, reached}
use Rattle.committing.proofs.rising.rise.Given as goal

-- the members before the mark so far, and what is left of the rise
abbrev pub invariant-loop-mark : goal.invariant-loop-mark
invariant-loop-mark g l =
    let es = g.J.Journal.lists l.journal l.owner in
    let quorum = g.R.QuorumRule.quorum l.rule in
    (l.members ≡ members_before es l.mark)
    × (risen quorum es l.cabinet.acknowledged (length es - l.mark) l.mark ≡ reached quorum es l.cabinet)
