-- The number of each refusal: what the contracts of every crate mean by a refusal's number. Assumes nothing.
use Rattle.std.specs.Prelude.{ℕ}
use Rattle.refusal.specs.declared.Refusal.{Refusal}
use Rattle.refusal.specs.declared.Refusal.TheVariants.{OutOfBounds, NoCabinet, NoTray, BadFounders, EmptyTray, Stopped, Running, Unsound, FrameShort, FrameKind, FrameShape, FrameField, WrongAddress, OldEpoch, OtherEpoch, NotLeading, NotProper, WrongVersion, ChangePending, BadMembers, MembersBehind, NotInPlay, EpochsSpent, Gap, Full, CommittedAltered, TooMuchAcknowledged, VoterAhead, NoPosition, ListShort}

-- the number by which callers and logs know a refusal
abbrev pub number_of : Refusal → ℕ
number_of OutOfBounds = 1
number_of NoCabinet = 2
number_of NoTray = 3
number_of BadFounders = 4
number_of EmptyTray = 5
number_of Stopped = 6
number_of Running = 7
number_of Unsound = 8
number_of FrameShort = 10
number_of FrameKind = 11
number_of FrameShape = 12
number_of FrameField = 13
number_of WrongAddress = 20
number_of OldEpoch = 21
number_of OtherEpoch = 22
number_of NotLeading = 30
number_of NotProper = 31
number_of WrongVersion = 32
number_of ChangePending = 33
number_of BadMembers = 34
number_of MembersBehind = 35
number_of NotInPlay = 36
number_of EpochsSpent = 37
number_of Gap = 40
number_of Full = 41
number_of CommittedAltered = 42
number_of TooMuchAcknowledged = 43
number_of VoterAhead = 44
number_of NoPosition = 50
number_of ListShort = 51
