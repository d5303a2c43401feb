-- What the reader makes of bytes: a letter, or a refusal. Assumes nothing.
use Rattle.std.specs.Prelude.{ℕ, ◌+◌, ◌*◌, Bool, List, length, Ok, Err, Result, slice_index_or}
use Rattle.std.specs.List.{between}
use Rattle.refusal.specs.declared.Refusal.{Refusal}
use Rattle.frames.specs.declared.Frame.{Frame}
use Rattle.frames.specs.declared.Message.{Message}
use Rattle.frames.specs.declared.Message.TheVariants.{Candidate, Promise, History, Entry, Acknowledge, Commit}
use Rattle.journal.specs.Entries.{blank}
use Rattle.entries.specs.Entries.{entries_of}
use Rattle.refusal.specs.Answers.{and_then}
use Rattle.frames.specs.Fields.{bounds_answer, header_of, shape_answer}
use Rattle.frames.specs.Letters.{Letter, Content, candidate, promise, history, entry, acknowledge, commit, letter_of, ranges_answer}

-- what a message says, its entries read from the bytes that it borrows
abbrev pub said : Message → Content
said (Candidate accepted length) = candidate accepted length
said Promise = promise
said (History mark entries) = history mark (entries_of entries.now)
said (Entry position mark e) = entry position mark (slice_index_or (entries_of e.now) 0 blank)
said (Acknowledge length) = acknowledge length
said (Commit mark) = commit mark

-- the letter that a frame is
abbrev pub letter : Frame → Letter
letter f = record { sender = f.sender; epoch = f.epoch; content = said f.message }

-- the same of an answer
abbrev pub letters : Result Frame Refusal → Result Letter Refusal
letters (Ok f) = Ok (letter f)
letters (Err e) = Err e

-- the bytes of a frame's entries
abbrev pub part_of : List ℕ → ℕ → List ℕ
part_of bs count = between 24 (24 + 16 * count) bs

-- what the reader answers: the refusals in the order of their checks, or the letter
abbrev pub decode : (ℕ → Bool) → ℕ → ℕ → List ℕ → Result Letter Refusal
decode codes cabinets limit bs =
    and_then (bounds_answer cabinets limit) (λ _.
    and_then (header_of bs) (λ h.
    and_then (shape_answer limit (length bs) h) (λ f.
    and_then (ranges_answer codes cabinets limit f (entries_of (part_of bs f.count))) (λ _.
    Ok (letter_of f (entries_of (part_of bs f.count)))))))
