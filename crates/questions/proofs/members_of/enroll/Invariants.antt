use Rattle.std.proofs.Common.{◌≡◌, take, drop}
use Rattle.quorum.specs.Sets.{has, count}
use Rattle.questions.proofs.Enrolling.{Ascending}
use Rattle.questions.proofs.members_of.enroll.Given as goal

-- the members so far stand at the front, and the rest is as it was
abbrev pub invariant-loop-cabinet : goal.invariant-loop-cabinet
invariant-loop-cabinet l =
    (l.next ≡ count l.cabinet (has l.members))
    × Ascending l.members l.cabinet (take l.next l.list)
    × (drop l.next l.list ≡ drop l.next l.initial.list)
