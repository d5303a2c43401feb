-- What reader and writer are to one another. Assumes nothing.
use Rattle.std.specs.Prelude.{◌≡◌, ℕ, ◌^◌, ◌<◌, ◌≤◌, Bool, List, ◌++◌, take, Ok}
use Rattle.entries.specs.Bytes.{Octets}
use Rattle.frames.specs.Letters.{Letter, fields_of, frame_length, frame_bytes}
use Rattle.frames.specs.Reading.{decode}
use Rattle.writing.specs.Writing.{write_answer}

-- a letter of a 32-bit epoch that is written as a frame reads back as itself, whatever lies behind the frame
abbrev pub ReadsBack : (ℕ → Bool) → Type 0
ReadsBack codes = (cabinets limit room n : ℕ) (l : Letter) (rest : List ℕ) → l.epoch < 2 ^ 32 → write_answer codes cabinets limit room l ≡ Ok n → decode codes cabinets limit (frame_bytes l ++ rest) ≡ Ok l

-- a letter that was read from bytes is accepted again, and its frame is the bytes that it was read from
abbrev pub WritesBack : (ℕ → Bool) → Type 0
WritesBack codes = (cabinets limit room : ℕ) (bs : List ℕ) (l : Letter) → Octets bs → decode codes cabinets limit bs ≡ Ok l → frame_length (fields_of l).count ≤ room → (write_answer codes cabinets limit room l ≡ Ok (frame_length (fields_of l).count)) × (frame_bytes l ≡ take (frame_length (fields_of l).count) bs)
