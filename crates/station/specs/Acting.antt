-- What the calls have in common in which a cabinet acts of itself. Assumes nothing.
use Rattle.std.specs.Prelude.{ℕ, ◌+◌, ◌*◌, Bool, not, List, length, Result, ◌==◌, slice_index}
use Rattle.std.specs.List.{between}
use Rattle.refusal.specs.declared.Refusal.{Refusal}
use Rattle.refusal.specs.declared.Refusal.TheVariants.{EmptyTray}
use Rattle.refusal.specs.Answers.{and_then, unless}
use Rattle.orders.specs.Kinds.{code_answer}
use Rattle.journal.specs.declared.Entry.{Entry as ListEntry}
use Rattle.cabinet.specs.declared.Cabinet.{Cabinet}
use Rattle.cabinet.specs.declared.Reply.{Reply}
use Rattle.cabinet.specs.Steps.{Outcome}
use Rattle.writing.specs.Replies.{filled_by, reply_answer}
use Rattle.writing.specs.Speaking.{letter_said, spoken_into}
use Rattle.writing.specs.Writing.{over}
use Rattle.acts.specs.Acts.{stand_step, refresh_step, submit_step, change_step}
use Rattle.calls.specs.Stations.{Station, tray_at, named, has_tray, ready_at}
use Rattle.calls.specs.Calls.{Kind}
use Rattle.station.specs.declared.Act.{Act}
use Rattle.station.specs.declared.Act.TheVariants.{Stand, Submit, Change, Refresh}

-- the checks of a call that may write into tray k: 1, 2, 3, 6, 8
abbrev pub called : (ℕ → Bool) → Station → ℕ → ℕ → Result (Unit {0}) Refusal
called codes s i k = and_then (named s i) (λ _. and_then (has_tray s k) (λ _. ready_at codes s i))

-- the checks of a hand: 1, 2, 3 for either tray, 5 for an empty one, 6, 8
abbrev pub handed : (ℕ → Bool) → Station → ℕ → ℕ → ℕ → Result (Unit {0}) Refusal
handed codes s from i to =
    and_then (named s i) (λ _.
    and_then (has_tray s from) (λ _.
    and_then (has_tray s to) (λ _.
    and_then (unless (not (slice_index (tray_at s from) 0 == 0)) EmptyTray) (λ _.
    ready_at codes s i))))

-- what a cabinet does of itself
abbrev pub act_step : {A : Type 0} → Kind A → (ℕ → ℕ → Bool) → ℕ → ℕ → ℕ → List ListEntry → Cabinet → Act A → Outcome
act_step kind quorum limit cabinets i l c Stand = stand_step quorum i l c
act_step kind quorum limit cabinets i l c (Submit order) = submit_step quorum limit i l c (code_answer (kind.proper order) (kind.encode order))
act_step kind quorum limit cabinets i l c (Change version members) = change_step quorum limit cabinets i l c version members
act_step kind quorum limit cabinets i l c Refresh = refresh_step l c

-- tray k of trays of that size
abbrev pub part : ℕ → ℕ → List ℕ → List ℕ
part size k trays = between (k * size) (k * size + size) trays

-- what is answered where a reply is written into tray k
abbrev pub said_answer : ℕ → ℕ → ℕ → List ListEntry → Reply → ℕ → ℕ → List ℕ → Result ℕ Refusal
said_answer owners i promised l reply size k trays = reply_answer owners i (length (part size k trays)) i promised l reply

-- the trays once it is written there
abbrev pub said_trays : ℕ → ℕ → ℕ → List ListEntry → Reply → ℕ → ℕ → List ℕ → List ℕ
said_trays owners i promised l reply size k trays =
    over trays (k * size) (filled_by (part size k trays) (spoken_into (part size k trays) (letter_said i promised l reply)) (said_answer owners i promised l reply size k trays))
