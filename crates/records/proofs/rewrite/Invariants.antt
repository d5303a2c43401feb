use Rattle.std.proofs.Common.{◌≡◌, ◌≤◌, map, length, take, drop}
use Rattle.records.specs.declared.Record.TheVariants.{Append}
use Rattle.records.specs.Replay.{replay}
use Rattle.records.proofs.rewrite.Given as goal

-- the live entries of what was read stand at the front, and what is still to be read is as it was
abbrev pub invariant-loop-i : goal.invariant-loop-i
invariant-loop-i l =
    (l.live ≡ length (replay l.limit (take l.i l.initial.records)))
    × (l.live ≤ l.i)
    × (take l.live l.records ≡ map Append (replay l.limit (take l.i l.initial.records)))
    × (drop l.i l.records ≡ drop l.i l.initial.records)
