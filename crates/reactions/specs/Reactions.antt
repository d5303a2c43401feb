-- What a letter does to one cabinet, and what bytes do. Assumes nothing.
use Rattle.std.specs.Prelude.{ℕ, Bool, true, cond, not, ◌&&◌, List, Result, ◌==◌, nat_le, nat_lt}
use Rattle.refusal.specs.declared.Refusal.{Refusal}
use Rattle.refusal.specs.declared.Refusal.TheVariants.{WrongAddress, OldEpoch, OtherEpoch}
use Rattle.refusal.specs.Answers.{and_then, unless}
use Rattle.journal.specs.declared.Entry.{Entry}
use Rattle.frames.specs.Fields.{sent_by_owner}
use Rattle.frames.specs.Letters.{Letter, Content, candidate, promise, history, entry, acknowledge, commit, carried}
use Rattle.frames.specs.Reading.{decode}
use Rattle.cabinet.specs.declared.Cabinet.{Cabinet}
use Rattle.cabinet.specs.Epochs.{owner_of}
use Rattle.cabinet.specs.Steps.{Outcome}
use Rattle.messages.specs.Messages.{candidate_step, promise_step, history_step, entry_step, acknowledge_step, commit_step}

-- what the content of a letter does, once the letter is one for the cabinet
abbrev pub content_step : (ℕ → ℕ → Bool) → ℕ → ℕ → List Entry → Cabinet → ℕ → ℕ → Content → Outcome
content_step quorum limit i l c sender epoch (candidate accepted n) = candidate_step l c epoch accepted n
content_step quorum limit i l c sender epoch promise = promise_step quorum i l c sender
content_step quorum limit i l c sender epoch (history mark es) = history_step limit l c epoch mark es
content_step quorum limit i l c sender epoch (entry position mark e) = entry_step limit l c position mark e
content_step quorum limit i l c sender epoch (acknowledge n) = acknowledge_step quorum i l c sender n
content_step quorum limit i l c sender epoch (commit mark) = commit_step l c mark

-- the letter is not the cabinet's own broadcast, nor a reply for another
abbrev pub addressed : ℕ → ℕ → ℕ → Content → Bool
addressed i sender epoch content = cond (sent_by_owner (carried content).kind) (not (sender == i)) (owner_of epoch == i)

-- the epoch is not below the promised one; a candidate's is above it
abbrev pub timely : Cabinet → ℕ → Content → Bool
timely c epoch (candidate accepted n) = nat_lt c.promised epoch
timely c epoch promise = nat_le c.promised epoch
timely c epoch (history mark es) = nat_le c.promised epoch
timely c epoch (entry position mark e) = nat_le c.promised epoch
timely c epoch (acknowledge n) = nat_le c.promised epoch
timely c epoch (commit mark) = nat_le c.promised epoch

-- a promise is for who stands at the epoch, an acknowledge for who leads it, an entry or a commit for who has accepted it
abbrev pub expected : Cabinet → ℕ → Content → Bool
expected c epoch (candidate accepted n) = true
expected c epoch promise = c.role == 1 && c.promised == epoch
expected c epoch (history mark es) = true
expected c epoch (entry position mark e) = c.promised == epoch && c.accepted == epoch
expected c epoch (acknowledge n) = c.role == 2 && c.promised == epoch
expected c epoch (commit mark) = c.promised == epoch && c.accepted == epoch

-- whether a letter is one for the cabinet: 20 for another address, 21 for an old epoch, 22 for one that is not expected
abbrev pub admitted : ℕ → Cabinet → Letter → Result (Unit {0}) Refusal
admitted i c t =
    and_then (unless (addressed i t.sender t.epoch t.content) WrongAddress) (λ _.
    and_then (unless (timely c t.epoch t.content) OldEpoch) (λ _.
    unless (expected c t.epoch t.content) OtherEpoch))

-- what a letter does: it is refused, or its content is taken
abbrev pub react : (ℕ → ℕ → Bool) → ℕ → ℕ → List Entry → Cabinet → Letter → Outcome
react quorum limit i l c t = and_then (admitted i c t) (λ _. content_step quorum limit i l c t.sender t.epoch t.content)

-- what bytes do: they are read as a letter, or refused
abbrev pub hear_step : (ℕ → Bool) → (ℕ → ℕ → Bool) → ℕ → ℕ → ℕ → List Entry → Cabinet → List ℕ → Outcome
hear_step codes quorum cabinets limit i l c bytes = and_then (decode codes cabinets limit bytes) (react quorum limit i l c)
