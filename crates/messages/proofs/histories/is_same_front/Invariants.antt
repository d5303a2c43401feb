use Rattle.std.proofs.Common.{◌≡◌, ◌≤◌, true}
use Rattle.entries.specs.Entries.{entries_of}
use Rattle.messages.specs.Messages.{same_front}
use Rattle.messages.proofs.histories.is_same_front.Given as goal

-- the first k entries of both are the same
abbrev pub invariant-loop-k : goal.invariant-loop-k
invariant-loop-k g l = (l.k ≤ l.count) × (same_front (g.J.Journal.lists l.journal l.owner) (entries_of l.entries) l.k ≡ true)
