-- The rows of a shelf, and which of their places are in use. Assumes nothing.
use Rattle.std.specs.Prelude.{◌≡◌, ℕ, ◌+◌, ◌*◌, ◌<◌, ◌≤◌, min, cond, List, [], length, take, drop, Ok, Err, Result, nat_lt, slice_index}
use Rattle.std.specs.Borrow.{Bor}
use Rattle.refusal.specs.declared.Refusal.{Refusal}
use Rattle.refusal.specs.declared.Refusal.TheVariants.{NoCabinet}
use Rattle.journal.specs.Lists.{owned}
use Rattle.shelf.specs.declared.Row.{Row}
use Rattle.shelf.specs.declared.Shelf.{Shelf}

-- how many owners a shelf has
abbrev pub shelf_owners : {T : Type 0} {SPARE : ℕ} → Shelf T SPARE → ℕ
shelf_owners s = s.owners

-- the limit of the lists that a shelf keeps
abbrev pub shelf_limit : {T : Type 0} {SPARE : ℕ} → Shelf T SPARE → ℕ
shelf_limit s = s.limit

-- an owner's places that are in use: the front of its row, as long as its count says and no longer than the row
abbrev pub in_use : {T : Type 0} → ℕ → List T → List ℕ → ℕ → List T
in_use width places counts o = take (min (slice_index counts o) width) (drop (o * width) places)

-- the places in use of all owners, with none past the last owner
abbrev pub all_in_use : {T : Type 0} → ℕ → ℕ → List T → List ℕ → ℕ → List T
all_in_use owners width places counts o = cond (nat_lt o owners) (in_use width places counts o) []

-- the places of a shelf that are in use
abbrev pub used_of : {T : Type 0} {SPARE : ℕ} → Shelf T SPARE → ℕ → List T
used_of {T} {SPARE} s o = all_in_use s.owners (s.limit + SPARE) s.places.now s.counts.now o

-- where an owner's places lie, and how many of them are in use
abbrev pub row_answer : {T : Type 0} {SPARE : ℕ} → Shelf T SPARE → ℕ → Result Row Refusal
row_answer {T} {SPARE} s o =
    owned s.owners o (Ok record { start = o * (s.limit + SPARE); end = o * (s.limit + SPARE) + (s.limit + SPARE); used = min (slice_index s.counts.now o) (s.limit + SPARE) })

-- an owner's row lies within the memory, and it has a count
abbrev pub Within : {T : Type 0} {SPARE : ℕ} → Shelf T SPARE → ℕ → Result Row Refusal → Type 0
Within {T} {SPARE} s o (Ok x) =
    (x.end ≤ length s.places.now) × (x.end ≡ x.start + s.limit + SPARE) × (x.used ≤ s.limit + SPARE) × (o < length s.counts.now)
Within s o (Err e) = Unit {0}

-- an owner's places that are in use, or 2 where there is no such owner
abbrev pub Used : {T : Type 0} {SPARE : ℕ} → Shelf T SPARE → ℕ → Result (Bor (List T)) Refusal → Type 0
Used s o (Ok places) = (o < s.owners) × (places.now ≡ used_of s o)
Used s o (Err e) = (s.owners ≤ o) × (e ≡ NoCabinet)
