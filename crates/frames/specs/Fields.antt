-- The header of a frame: its kinds, its fields and their ranges. Assumes nothing.
use Rattle.std.specs.Prelude.{ℕ, ◌+◌, ◌-◌, ◌*◌, ◌%◌, Bool, true, false, cond, not, ◌&&◌, ◌||◌, List, length, Ok, Err, Result, ◌==◌, nat_le, nat_lt, slice_index}
use Rattle.std.specs.List.{between}
use Rattle.refusal.specs.declared.Refusal.{Refusal}
use Rattle.refusal.specs.declared.Refusal.TheVariants.{OutOfBounds, FrameShort, FrameKind as BadKind, FrameShape, FrameField}
use Rattle.refusal.specs.Answers.{and_then, unless}
use Rattle.orders.specs.Kinds.{between as in_range}
use Rattle.frames.specs.declared.FrameKind.{FrameKind}
use Rattle.frames.specs.declared.FrameKind.TheVariants.{Candidate, Promise, History, Entry, Acknowledge, Commit}
use Rattle.frames.specs.declared.Header.{Header}
use Rattle.frames.specs.declared.Numbers.{Numbers}
use Rattle.frames.specs.declared.Fields.{Fields}
use Rattle.entries.specs.Bytes.{u16_at, u32_at}

-- a table has 1 to 16 cabinets, a list at most 2 to 4000 entries
abbrev pub bounds_fit : ℕ → ℕ → Bool
bounds_fit cabinets limit = in_range 1 16 cabinets && in_range 2 4000 limit

-- 1 for a table or a limit outside its bounds
abbrev pub bounds_answer : ℕ → ℕ → Result (Unit {0}) Refusal
bounds_answer cabinets limit = unless (bounds_fit cabinets limit) OutOfBounds

-- the number of each kind of frame
abbrev pub kind_number : FrameKind → ℕ
kind_number Candidate = 1
kind_number Promise = 2
kind_number History = 3
kind_number Entry = 4
kind_number Acknowledge = 5
kind_number Commit = 6

-- the kind of that number
abbrev pub kind_numbered : ℕ → Result FrameKind Refusal
kind_numbered n = cond (n == 1) (Ok Candidate) (cond (n == 2) (Ok Promise) (cond (n == 3) (Ok History) (cond (n == 4) (Ok Entry) (cond (n == 5) (Ok Acknowledge) (cond (n == 6) (Ok Commit) (Err BadKind))))))

-- how many entries a frame of each kind may have, under the limit
abbrev pub count_fits : FrameKind → ℕ → ℕ → Bool
count_fits Candidate limit count = count == 0
count_fits Promise limit count = count == 0
count_fits History limit count = in_range 1 limit count
count_fits Entry limit count = count == 1
count_fits Acknowledge limit count = count == 0
count_fits Commit limit count = count == 0

-- whether the owner of the frame's epoch is the one that sends a frame of this kind; the others are addressed to it
abbrev pub sent_by_owner : FrameKind → Bool
sent_by_owner Candidate = true
sent_by_owner Promise = false
sent_by_owner History = true
sent_by_owner Entry = true
sent_by_owner Acknowledge = false
sent_by_owner Commit = true

-- the ranges of the first and the second number, by kind: limit, epoch, count, first, second
abbrev pub numbers_fit : FrameKind → ℕ → ℕ → ℕ → ℕ → ℕ → Bool
numbers_fit Candidate limit epoch count first second = nat_lt first epoch && in_range 1 limit second
numbers_fit Promise limit epoch count first second = first == 0 && second == 0
numbers_fit History limit epoch count first second = in_range 1 count first && second == 0
numbers_fit Entry limit epoch count first second = in_range 1 (limit - 1) first && in_range 1 (first + 1) second
numbers_fit Acknowledge limit epoch count first second = in_range 1 limit first && second == 0
numbers_fit Commit limit epoch count first second = in_range 1 limit first && second == 0

-- the cabinet that an epoch belongs to
abbrev pub owner_of : ℕ → ℕ
owner_of epoch = epoch % 16

-- whether sender and owner are cabinets of the table, and the sender the one that the kind asks for
abbrev pub sender_fits : ℕ → FrameKind → ℕ → ℕ → Bool
sender_fits cabinets kind epoch sender = nat_lt sender cabinets && nat_lt (owner_of epoch) cabinets && (not (sent_by_owner kind) || sender == owner_of epoch)

-- 12 for a count of entries that the kind does not allow
abbrev pub count_answer : ℕ → Fields → Result (Unit {0}) Refusal
count_answer limit f = unless (count_fits f.kind limit f.count) FrameShape

-- whether every field lies in its range
abbrev pub fields_fit : ℕ → ℕ → Fields → Bool
fields_fit cabinets limit f = nat_le 1 f.epoch && sender_fits cabinets f.kind f.epoch f.sender && numbers_fit f.kind limit f.epoch f.count f.first f.second

-- 13 for a field outside its range
abbrev pub fields_answer : ℕ → ℕ → Fields → Result (Unit {0}) Refusal
fields_answer cabinets limit f = unless (fields_fit cabinets limit f) FrameField

-- the bytes behind the first n
abbrev pub behind : ℕ → List ℕ → List ℕ
behind n bs = between n (length bs) bs

-- whether bytes begin with the six zeros that end a header
abbrev pub zeros_in : List ℕ → Bool
zeros_in bs = nat_le 6 (length bs) && slice_index bs 0 == 0 && slice_index bs 1 == 0 && slice_index bs 2 == 0 && slice_index bs 3 == 0 && slice_index bs 4 == 0 && slice_index bs 5 == 0

-- the numbers of a header, and what it ends with, in the 16 bytes behind its first 8
abbrev pub numbers_of : List ℕ → Result Numbers Refusal
numbers_of bs = cond (nat_lt (length bs) 16) (Err FrameShort) (Ok (record { first = u32_at bs 0; second = u32_at bs 4; length = u16_at bs 8; zeros = zeros_in (behind 10 bs) }))

-- the header in the first 24 bytes; 10 where there are fewer
abbrev pub header_of : List ℕ → Result Header Refusal
header_of bs = and_then (numbers_of (behind 8 bs)) (λ n. Ok (record { kind = slice_index bs 0; sender = slice_index bs 1; count = u16_at bs 2; epoch = u32_at bs 4; numbers = n }))

-- the fields of a header among `room` bytes: 10 where its length is more, 11 for its kind, 12 for its count, length or zeros
abbrev pub shape_answer : ℕ → ℕ → Header → Result Fields Refusal
shape_answer limit room h =
    cond (nat_lt room h.numbers.length) (Err FrameShort)
    (and_then (kind_numbered h.kind) (λ k.
    cond (count_fits k limit h.count && h.numbers.length == 24 + 16 * h.count && h.numbers.zeros)
    (Ok (record { kind = k; sender = h.sender; count = h.count; epoch = h.epoch; first = h.numbers.first; second = h.numbers.second }))
    (Err FrameShape)))
