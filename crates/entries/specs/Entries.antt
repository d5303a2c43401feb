-- How bytes spell entries, 16 bytes for each. Assumes nothing.
use Rattle.std.specs.Prelude.{ℕ, ◌+◌, ◌*◌, ◌/◌, Bool, cond, ◌&&◌, List, [], ◌∷◌, ◌++◌, map, length, Ok, Err, Result, ◌==◌, nat_lt, slice_index, slice_index_or}
use Rattle.refusal.specs.declared.Refusal.{Refusal}
use Rattle.refusal.specs.declared.Refusal.TheVariants.{NoPosition}
use Rattle.std.specs.List.{range_with_len, between, flat_map}
use Rattle.orders.specs.Kinds.{between as in_range}
use Rattle.journal.specs.declared.Entry.{Entry}
use Rattle.journal.specs.declared.EntryKind.{EntryKind}
use Rattle.journal.specs.declared.EntryKind.TheVariants.{Configuration, Order}
use Rattle.journal.specs.Entries.{kind_number, blank}
use Rattle.entries.specs.Bytes.{u32_at, u64_at, u32_bytes, u64_bytes}

-- the kind that the number 1 or 2 stands for
abbrev pub kind_numbered : ℕ → EntryKind
kind_numbered n = cond (n == 1) Configuration Order

-- whether 16 bytes have the kind and the three zeros of an entry
abbrev pub spelled : List ℕ → Bool
spelled bs = in_range 1 2 (slice_index bs 4) && slice_index bs 5 == 0 && slice_index bs 6 == 0 && slice_index bs 7 == 0

-- the entry that 16 bytes spell; what spells none stands for the blank entry, which no history may hold
abbrev pub entry_in : List ℕ → Entry
entry_in bs = cond (spelled bs) (record { epoch = u32_at bs 0; kind = kind_numbered (slice_index bs 4); body = u64_at bs 8 }) blank

-- the entry at place k
abbrev pub entry_at : List ℕ → ℕ → Entry
entry_at bs k = entry_in (between (16 * k) (16 * k + 16) bs)

-- the entries that bytes spell; less than 16 bytes at the end spell none
abbrev pub entries_of : List ℕ → List Entry
entries_of bs = map (entry_at bs) (range_with_len 0 (length bs / 16))

-- the entry at a place of a list; 50 where there is none
abbrev pub place_answer : List Entry → ℕ → Result Entry Refusal
place_answer es k = cond (nat_lt k (length es)) (Ok (slice_index_or es k blank)) (Err NoPosition)

-- the bytes of an entry
abbrev pub entry_bytes : Entry → List ℕ
entry_bytes e = u32_bytes e.epoch ++ (kind_number e.kind ∷ 0 ∷ 0 ∷ 0 ∷ []) ++ u64_bytes e.body

-- the bytes of entries, one after another
abbrev pub entries_bytes : List Entry → List ℕ
entries_bytes es = flat_map entry_bytes es
