use Rattle.std.proofs.Common.{◌≡◌}
use Rattle.entries.specs.Entries.{entries_of}
use Rattle.entries.proofs.Replacements.{Begun}
use Rattle.entries.proofs.replacing.replace.Given as goal

-- the owner's list is as many of the entries as were appended; all else is as it was
abbrev pub invariant-loop-part : goal.invariant-loop-part
invariant-loop-part g l =
    (g.J.Journal.owners l.journal ≡ g.J.Journal.owners l.initial.journal)
    × (g.J.Journal.limit l.journal ≡ g.J.Journal.limit l.initial.journal)
    × Begun l.owner l.part-index (entries_of l.bytes) (g.J.Journal.lists l.initial.journal) (g.J.Journal.lists l.journal)
