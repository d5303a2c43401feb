-- What the writer answers, and what it leaves in the caller's buffer. Assumes nothing.
use Rattle.std.specs.Prelude.{ℕ, ◌+◌, ◌-◌, Bool, List, [], ◌++◌, length, take, drop, replicate, Ok, Err, Result, nat_le}
use Rattle.refusal.specs.declared.Refusal.{Refusal}
use Rattle.refusal.specs.declared.Refusal.TheVariants.{NoTray}
use Rattle.journal.specs.declared.Entry.{Entry as ListEntry}
use Rattle.journal.specs.Lists.{owned}
use Rattle.frames.specs.declared.Fields.{Fields}
use Rattle.frames.specs.declared.Message.{Message}
use Rattle.frames.specs.declared.Message.TheVariants.{Candidate, Promise, History, Entry, Acknowledge, Commit}
use Rattle.refusal.specs.Answers.{and_then, unless}
use Rattle.frames.specs.Fields.{bounds_answer}
use Rattle.frames.specs.Letters.{Letter, history, fields_of, letter_answer, frame_length, frame_bytes}

-- 3 for a buffer that is shorter than the frame
abbrev pub room_answer : ℕ → Fields → Result (Unit {0}) Refusal
room_answer room f = unless (nat_le (frame_length f.count) room) NoTray

-- what the writer answers: the refusals in the order of their checks, or the frame's length
abbrev pub write_answer : (ℕ → Bool) → ℕ → ℕ → ℕ → Letter → Result ℕ Refusal
write_answer codes cabinets limit room l =
    and_then (bounds_answer cabinets limit) (λ _.
    and_then (room_answer room (fields_of l)) (λ _.
    and_then (letter_answer codes cabinets limit l) (λ _.
    Ok (frame_length (fields_of l).count))))

-- the buffer afterwards: the frame with zeros behind it, or what was there
abbrev pub written : List ℕ → Letter → Result ℕ Refusal → List ℕ
written out l (Ok n) = frame_bytes l ++ replicate (length out - n) 0
written out l (Err e) = out

-- a list with bytes written over it from a place on
abbrev pub over : List ℕ → ℕ → List ℕ → List ℕ
over out at bs = take at out ++ (bs ++ drop (at + length bs) out)

-- the bytes that a message borrows
abbrev pub borrowed : Message → List ℕ
borrowed (Candidate accepted length) = []
borrowed Promise = []
borrowed (History mark entries) = entries.now
borrowed (Entry position mark e) = e.now
borrowed (Acknowledge length) = []
borrowed (Commit mark) = []

-- the letter of a history that is an owner's list
abbrev pub history_of : ℕ → ℕ → ℕ → List ListEntry → Letter
history_of sender epoch mark es = record { sender = sender; epoch = epoch; content = history mark es }

-- what the writer answers for a journal of that many owners: as for any letter, and 2 behind 1 where there is no such owner
abbrev pub history_answer : (ℕ → Bool) → ℕ → ℕ → ℕ → ℕ → ℕ → Letter → Result ℕ Refusal
history_answer codes cabinets limit owners o room l = and_then (bounds_answer cabinets limit) (λ _. owned owners o (write_answer codes cabinets limit room l))
