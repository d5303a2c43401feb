-- What a frame says, as a letter: its sender, its epoch and one of six contents. Assumes nothing.
use Rattle.std.specs.Prelude.{ℕ, ◌+◌, ◌*◌, Bool, true, ◌&&◌, List, [], ◌∷◌, ◌++◌, length, get_or, Result, ◌==◌, slice_index_or}
use Rattle.refusal.specs.declared.Refusal.{Refusal}
use Rattle.refusal.specs.declared.Refusal.TheVariants.{FrameField}
use Rattle.journal.specs.declared.Entry.{Entry as ListEntry}
use Rattle.journal.specs.Entries.{blank}
use Rattle.frames.specs.declared.FrameKind.{FrameKind}
use Rattle.frames.specs.declared.FrameKind.TheVariants.{Candidate, Promise, History, Entry, Acknowledge, Commit}
use Rattle.frames.specs.declared.Fields.{Fields}
use Rattle.entries.specs.Bytes.{u16_bytes, u32_bytes}
use Rattle.entries.specs.Entries.{entries_bytes}
use Rattle.entries.specs.Histories.{body_fits, faultless}
use Rattle.refusal.specs.Answers.{and_then, unless}
use Rattle.frames.specs.Fields.{kind_number, count_answer, fields_answer}

-- what a letter says
pub data Content : Type 0 where
  candidate : (accepted length : ℕ) → Content
  promise : Content
  history : (mark : ℕ) → List ListEntry → Content
  entry : (position mark : ℕ) → ListEntry → Content
  acknowledge : (length : ℕ) → Content
  commit : (mark : ℕ) → Content

-- a frame without its layout
pub record Letter : Type 0 where
  pub sender : ℕ
  pub epoch : ℕ
  pub content : Content

-- what of a content goes into a frame
pub record Carried : Type 0 where
  pub kind : FrameKind
  pub first : ℕ
  pub second : ℕ
  pub entries : List ListEntry

-- the kind and the values of each content
abbrev pub carried : Content → Carried
carried (candidate accepted length) = record { kind = Candidate; first = accepted; second = length; entries = [] }
carried promise = record { kind = Promise; first = 0; second = 0; entries = [] }
carried (history mark es) = record { kind = History; first = mark; second = 0; entries = es }
carried (entry position mark e) = record { kind = Entry; first = position; second = mark; entries = e ∷ [] }
carried (acknowledge length) = record { kind = Acknowledge; first = length; second = 0; entries = [] }
carried (commit mark) = record { kind = Commit; first = mark; second = 0; entries = [] }

-- the entries that a content brings
abbrev pub entries_in : Content → List ListEntry
entries_in c = (carried c).entries

-- the content of a kind with these numbers and entries
abbrev pub content_of : FrameKind → ℕ → ℕ → List ListEntry → Content
content_of Candidate first second es = candidate first second
content_of Promise first second es = promise
content_of History first second es = history first es
content_of Entry first second es = entry first second (slice_index_or es 0 blank)
content_of Acknowledge first second es = acknowledge first
content_of Commit first second es = commit first

-- the letter in a frame with these fields and entries
abbrev pub letter_of : Fields → List ListEntry → Letter
letter_of f es = record { sender = f.sender; epoch = f.epoch; content = content_of f.kind f.first f.second es }

-- the fields of a letter's frame
abbrev pub fields_of : Letter → Fields
fields_of l = record { kind = (carried l.content).kind; sender = l.sender; count = length (entries_in l.content); epoch = l.epoch; first = (carried l.content).first; second = (carried l.content).second }

-- whether these entries are the faultless ones that a frame of the kind and epoch asks for
abbrev pub entries_fit : (ℕ → Bool) → ℕ → FrameKind → ℕ → List ListEntry → Bool
entries_fit codes cabinets Candidate epoch es = true
entries_fit codes cabinets Promise epoch es = true
entries_fit codes cabinets History epoch es = faultless codes cabinets epoch es
entries_fit codes cabinets Entry epoch es = (get_or es 0 blank).epoch == epoch && body_fits codes cabinets (get_or es 0 blank).kind (get_or es 0 blank).body
entries_fit codes cabinets Acknowledge epoch es = true
entries_fit codes cabinets Commit epoch es = true

-- 13 for a field outside its range, or for a fault in an entry
abbrev pub ranges_answer : (ℕ → Bool) → ℕ → ℕ → Fields → List ListEntry → Result (Unit {0}) Refusal
ranges_answer codes cabinets limit f es = and_then (fields_answer cabinets limit f) (λ _. unless (entries_fit codes cabinets f.kind f.epoch es) FrameField)

-- whether a frame may carry a letter, and else the refusal
abbrev pub letter_answer : (ℕ → Bool) → ℕ → ℕ → Letter → Result (Unit {0}) Refusal
letter_answer codes cabinets limit l = and_then (count_answer limit (fields_of l)) (λ _. ranges_answer codes cabinets limit (fields_of l) (entries_in l.content))

-- the length of a frame with this many entries
abbrev pub frame_length : ℕ → ℕ
frame_length count = 24 + 16 * count

-- the 24 bytes of a header
abbrev pub header_bytes : Fields → List ℕ
header_bytes f = (kind_number f.kind ∷ f.sender ∷ []) ++ u16_bytes f.count ++ u32_bytes f.epoch ++ u32_bytes f.first ++ u32_bytes f.second ++ u16_bytes (frame_length f.count) ++ (0 ∷ 0 ∷ 0 ∷ 0 ∷ 0 ∷ 0 ∷ [])

-- the bytes of the frame that carries a letter
abbrev pub frame_bytes : Letter → List ℕ
frame_bytes l = header_bytes (fields_of l) ++ entries_bytes (entries_in l.content)
