-- What each content of a letter does to one cabinet: its record, its list, and what the cabinet says then. Assumes nothing.
use Rattle.std.specs.Prelude.{ℕ, zero, suc, min, max, Bool, true, cond, not, ◌&&◌, ◌||◌, List, [], ◌∷◌, ◌++◌, length, Ok, Err, ◌==◌, nat_le, nat_lt, slice_index_or}
use Rattle.refusal.specs.declared.Refusal.TheVariants.{FrameField, Gap, Full, CommittedAltered, TooMuchAcknowledged, VoterAhead}
use Rattle.refusal.specs.Answers.{and_then, unless}
use Rattle.journal.specs.declared.Entry.{Entry}
use Rattle.journal.specs.Entries.{kind_number, blank}
use Rattle.cabinet.specs.declared.Cabinet.{Cabinet}
use Rattle.cabinet.specs.declared.Reply.{Reply}
use Rattle.cabinet.specs.declared.Reply.TheVariants.{Nothing, Promise, Acknowledge, Commit}
use Rattle.cabinet.specs.Epochs.{later}
use Rattle.cabinet.specs.Records.{promises, gathers, raised, marked, none_acknowledged}
use Rattle.cabinet.specs.Steps.{Step, leaves, Outcome}
use Rattle.committing.specs.Committing.{elected, committing, winning}
use Rattle.acts.specs.Acts.{says_history}

-- a candidate is answered by a promise, unless the voter's own accepted epoch and length are later: 44
abbrev pub candidate_step : List Entry → Cabinet → ℕ → ℕ → ℕ → Outcome
candidate_step l c epoch accepted n =
    and_then (unless (not (later (c.accepted, length l) (accepted, n))) VoterAhead) (λ _. Ok (leaves (promises epoch c) l Promise))

-- who looks at its gathered set wins where the set elects it, and says nothing where not
abbrev pub counted : (ℕ → ℕ → Bool) → ℕ → List Entry → Cabinet → Step
counted quorum i l c = cond (elected quorum l c) (says_history l (winning quorum i l c)) (leaves c l Nothing)

-- a promise is gathered, and may win
abbrev pub promise_step : (ℕ → ℕ → Bool) → ℕ → List Entry → Cabinet → ℕ → Outcome
promise_step quorum i l c sender = Ok (counted quorum i l (gathers sender c))

-- two entries are the same
abbrev pub same_entry : Entry → Entry → Bool
same_entry a b = a.epoch == b.epoch && kind_number a.kind == kind_number b.kind && a.body == b.body

-- the first n entries of two lists are the same
unfoldable pub same_front : List Entry → List Entry → ℕ → Bool
same_front l es zero = true
same_front l es (suc n) = same_front l es n && same_entry (slice_index_or l n blank) (slice_index_or es n blank)

-- entries that become the list keep all that is committed
abbrev pub keeps_committed : List Entry → Cabinet → List Entry → Bool
keeps_committed l c es = nat_le c.mark (length es) && same_front l es c.mark

-- it accepts the epoch of a history and its mark, where that is the larger one, and follows
abbrev pub accepts : ℕ → ℕ → Cabinet → Cabinet
accepts epoch mark c = record { promised = epoch; accepted = epoch; mark = max c.mark mark; role = 0; gathered = 0; acknowledged = none_acknowledged; running = c.running }

-- it accepts a history, with this list from then on, and acknowledges the list's length
abbrev pub follows_with : ℕ → ℕ → Cabinet → List Entry → Outcome
follows_with epoch mark c l = Ok (leaves (accepts epoch mark c) l (Acknowledge (length l)))

-- a history becomes the list: 41 for more than the limit, 42 where it alters or drops what is committed
abbrev pub adopt_step : ℕ → List Entry → Cabinet → ℕ → ℕ → List Entry → Outcome
adopt_step limit l c epoch mark es =
    and_then (unless (nat_le (length es) limit) Full) (λ _.
    and_then (unless (keeps_committed l c es) CommittedAltered) (λ _. follows_with epoch mark c es))

-- a history becomes the list where the accepted epoch is lower or the list shorter; 13 for a mark beyond the history, which no frame has
abbrev pub history_step : ℕ → List Entry → Cabinet → ℕ → ℕ → List Entry → Outcome
history_step limit l c epoch mark es =
    and_then (unless (nat_le mark (length es)) FrameField) (λ _.
    cond (nat_lt c.accepted epoch || nat_lt (length l) (length es)) (adopt_step limit l c epoch mark es) (follows_with epoch mark c l))

-- the mark that a letter tells, cut to the list's length, where it is the larger one
abbrev pub told_mark : ℕ → ℕ → Cabinet → Cabinet
told_mark n mark c = marked (max c.mark (min mark n)) c

-- it takes a mark with this list, and acknowledges the list's length
abbrev pub goes_on_with : ℕ → Cabinet → List Entry → Outcome
goes_on_with mark c l = Ok (leaves (told_mark (length l) mark c) l (Acknowledge (length l)))

-- an entry at the list's end is appended, one before it ignored, one beyond it refused by 40; 41 where the list is full
abbrev pub entry_step : ℕ → List Entry → Cabinet → ℕ → ℕ → Entry → Outcome
entry_step limit l c position mark e =
    cond (nat_lt position (length l)) (goes_on_with mark c l)
    (cond (nat_lt (length l) position) (Err Gap)
    (cond (nat_lt (length l) limit) (goes_on_with mark c (l ++ e ∷ [])) (Err Full)))

-- what a leader says after committing: the mark, where it moved
abbrev pub says_commit : ℕ → Cabinet → Reply
says_commit before c = cond (nat_lt before c.mark) (Commit c.mark) Nothing

-- an acknowledged length is kept where it is the larger one, and may commit: 43 for more than the list holds
abbrev pub acknowledge_step : (ℕ → ℕ → Bool) → ℕ → List Entry → Cabinet → ℕ → ℕ → Outcome
acknowledge_step quorum i l c sender n =
    and_then (unless (nat_le n (length l)) TooMuchAcknowledged) (λ _.
    Ok (leaves (committing quorum i l (raised sender n c)) l (says_commit c.mark (committing quorum i l (raised sender n c)))))

-- a commit tells a mark
abbrev pub commit_step : List Entry → Cabinet → ℕ → Outcome
commit_step l c mark = Ok (leaves (told_mark (length l) mark c) l Nothing)
