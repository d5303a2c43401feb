-- What a cabinet says after a step, as a letter, and the buffer that its frame is written into. Assumes nothing.
use Rattle.std.specs.Prelude.{ℕ, ◌-◌, List, ◌++◌, length, replicate, Some, None, Ok, Err, Option, Result, slice_index_or}
use Rattle.refusal.specs.declared.Refusal.{Refusal}
use Rattle.journal.specs.declared.Entry.{Entry as ListEntry}
use Rattle.journal.specs.Entries.{blank}
use Rattle.frames.specs.Letters.{Letter, Content, candidate, promise, history, entry, acknowledge, commit, fields_of, frame_length, frame_bytes}
use Rattle.cabinet.specs.declared.Reply.{Reply}
use Rattle.cabinet.specs.declared.Reply.TheVariants.{Nothing, Candidate, Promise, History, Entry, Acknowledge, Commit}
use Rattle.cabinet.specs.Steps.{Step, Outcome}

-- the letter of a cabinet at an epoch
abbrev pub letter_by : ℕ → ℕ → Content → Letter
letter_by i epoch content = record { sender = i; epoch = epoch; content = content }

-- the letter that a reply is, given the cabinet, its epoch and its list; none where it says nothing
abbrev pub letter_said : ℕ → ℕ → List ListEntry → Reply → Option Letter
letter_said i epoch l Nothing = None
letter_said i epoch l (Candidate accepted n) = Some (letter_by i epoch (candidate accepted n))
letter_said i epoch l Promise = Some (letter_by i epoch promise)
letter_said i epoch l (History mark) = Some (letter_by i epoch (history mark l))
letter_said i epoch l (Entry position mark) = Some (letter_by i epoch (entry position mark (slice_index_or l position blank)))
letter_said i epoch l (Acknowledge n) = Some (letter_by i epoch (acknowledge n))
letter_said i epoch l (Commit mark) = Some (letter_by i epoch (commit mark))

-- the letter after a step: its epoch is the one that the cabinet then has promised
abbrev pub letter_after : ℕ → Step → Option Letter
letter_after i s = letter_said i s.cabinet.promised s.list s.reply

-- the length of a letter's frame; 0 where there is none
abbrev pub spoken_length : Option Letter → ℕ
spoken_length None = 0
spoken_length (Some t) = frame_length (fields_of t).count

-- a buffer afterwards: the letter's frame with zeros behind it; as it was, where there is none
abbrev pub spoken_into : List ℕ → Option Letter → List ℕ
spoken_into out None = out
spoken_into out (Some t) = frame_bytes t ++ replicate (length out - frame_length (fields_of t).count) 0

-- what an accepted call answers: 0, and the length of the frame that it wrote
abbrev pub answer_by : ℕ → Outcome → Result (ℕ × ℕ) Refusal
answer_by i (Ok s) = Ok (0, spoken_length (letter_after i s))
answer_by i (Err e) = Err e

-- the buffer that a call leaves: as it was, where the call is refused
abbrev pub buffer_by : List ℕ → ℕ → Outcome → List ℕ
buffer_by out i (Ok s) = spoken_into out (letter_after i s)
buffer_by out i (Err e) = out
