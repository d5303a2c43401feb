use Rattle.std.proofs.Common.{◌≡◌, length, take}
use Rattle.std.specs.Prelude.{slice_get}
use Rattle.records.specs.Replay.{replay}
use Rattle.records.proofs.find.Given as goal

-- what was counted is the length of what was replayed, and what was found stands at the position
abbrev pub invariant-loop-record : goal.invariant-loop-record
invariant-loop-record l =
    (l.live ≡ length (replay l.limit (take l.record-index l.records)))
    × (l.found ≡ slice_get (replay l.limit (take l.record-index l.records)) l.position)
