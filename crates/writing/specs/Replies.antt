-- What a writer of a cabinet's replies answers, and what it leaves in the caller's buffer. Assumes nothing.
use Rattle.std.specs.Prelude.{◌≡◌, ℕ, ◌-◌, Bool, true, List, ◌++◌, length, replicate, Ok, Err, Option, Result, nat_le, nat_lt}
use Rattle.refusal.specs.declared.Refusal.{Refusal}
use Rattle.refusal.specs.declared.Refusal.TheVariants.{NoTray, NoPosition}
use Rattle.refusal.specs.Answers.{and_then, unless}
use Rattle.journal.specs.declared.Entry.{Entry as ListEntry}
use Rattle.journal.specs.Lists.{owned}
use Rattle.frames.specs.declared.FrameKind.{FrameKind}
use Rattle.frames.specs.Letters.{Letter, frame_length, header_bytes}
use Rattle.cabinet.specs.declared.Reply.{Reply}
use Rattle.cabinet.specs.declared.Reply.TheVariants.{Nothing, Candidate, Promise, History, Entry, Acknowledge, Commit}
use Rattle.writing.specs.Speaking.{letter_said, spoken_length}

-- whether the list has the entry that a reply names; most replies name none
abbrev pub has_named : List ListEntry → Reply → Bool
has_named l Nothing = true
has_named l (Candidate accepted n) = true
has_named l Promise = true
has_named l (History mark) = true
has_named l (Entry position mark) = nat_lt position (length l)
has_named l (Acknowledge n) = true
has_named l (Commit mark) = true

-- the length of what is said, or 3 where there is less room
abbrev pub spoken_answer : ℕ → Option Letter → Result ℕ Refusal
spoken_answer room t = and_then (unless (nat_le (spoken_length t) room) NoTray) (λ _. Ok (spoken_length t))

-- what the writer answers for a list of one of so many owners: 2, 50 and 3 in this order, or the length of what is said
abbrev pub reply_answer : ℕ → ℕ → ℕ → ℕ → ℕ → List ListEntry → Reply → Result ℕ Refusal
reply_answer owners o room sender epoch l reply =
    owned owners o (and_then (unless (has_named l reply) NoPosition) (λ _. spoken_answer room (letter_said sender epoch l reply)))

-- a buffer afterwards: as a call fills it, or as it was where the call is refused
abbrev pub filled_by : List ℕ → List ℕ → Result ℕ Refusal → List ℕ
filled_by out filled (Ok n) = filled
filled_by out filled (Err e) = out

-- a frame has been asked for, with this answer due: the answer, and the buffer with the frame, or as it was
pub record Filled (before after : List ℕ) (said due : Result ℕ Refusal) (frame : List ℕ) : Type 0 where
  pub answer : said ≡ due
  pub buffer : after ≡ filled_by before frame due

-- what the writer answers for a frame without entries
abbrev pub bare_answer : ℕ → Result ℕ Refusal
bare_answer room = and_then (unless (nat_le (frame_length 0) room) NoTray) (λ _. Ok (frame_length 0))

-- a buffer with a frame without entries, of these values, and zeros behind it
abbrev pub bare_frame : FrameKind → ℕ → ℕ → ℕ → ℕ → List ℕ → List ℕ
bare_frame kind sender epoch first second out =
    header_bytes (record { kind = kind; sender = sender; count = 0; epoch = epoch; first = first; second = second }) ++ replicate (length out - frame_length 0) 0
