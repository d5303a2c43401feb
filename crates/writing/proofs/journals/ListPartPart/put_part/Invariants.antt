use Rattle.std.proofs.Common.{◌≡◌, ◌≤◌, take}
use Rattle.entries.specs.Entries.{entries_bytes}
use Rattle.writing.specs.Writing.{over}
use Rattle.writing.proofs.journals.ListPartPart.put_part.Given as goal

-- the buffer has the entries before the position behind the header's place
abbrev pub invariant-loop-position : goal.invariant-loop-position
invariant-loop-position g l = (l.position ≤ l.position-end) × (l.out ≡ over l.initial.out 24 (entries_bytes (take l.position (g.J.Journal.lists l.self.journal.now l.self.owner))))
