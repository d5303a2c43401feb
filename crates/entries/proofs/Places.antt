-- The entries that bytes spell, by place and one behind another. Assumes nothing.
use Rattle.std.proofs.Common.{◌≡◌, ℕ, zero, suc, ◌+◌, ◌-◌, ◌*◌, ◌/◌, ◌<◌, List, map, length, get_or, take, drop, sym, refl, ap, ◌∙◌, zero-add, arith}
use Rattle.std.specs.List.{range_with_len}
use Rattle.std.specs.Simd.{first_chunks}
use Rattle.std.proofs.lemmas.List.FromFn.{length-map-range_with_len, get_or-map-range_with_len}
use Rattle.std.proofs.lemmas.List.{drop-drop}
use Rattle.journal.specs.Entries.{blank}
use Rattle.entries.specs.Entries.{entry_in, entry_at, entries_of}

-- bytes spell an entry for each 16 of them
pub entries_length : (bs : List ℕ) → length (entries_of bs) ≡ length bs / 16
entries_length bs = length-map-range_with_len (entry_at bs) 0 (length bs / 16)

-- the entry at a place is the one that its 16 bytes spell
pub entries_at : (bs : List ℕ) (k : ℕ) → k < length bs / 16 → get_or (entries_of bs) k blank ≡ entry_at bs k
entries_at bs k h = get_or-map-range_with_len (entry_at bs) 0 (length bs / 16) k k blank h (zero-add k)

-- the parts of 16 bytes from a place on spell the entries from there on
chunks_from : (bs : List ℕ) (j k : ℕ) → map entry_in (first_chunks 16 k (drop (16 * j) bs)) ≡ map (entry_at bs) (range_with_len j k)
chunks_from bs j zero = refl
chunks_from bs j (suc k) =
    let width : 16 * j + 16 - 16 * j ≡ 16 = omega arith in
    let next : 16 * j + 16 ≡ 16 * (j + 1) = omega arith in
    let first = ap (λ w. entry_in (take w (drop (16 * j) bs))) (sym width) in
    let rest = ap (λ xs. map entry_in (first_chunks 16 k xs)) (drop-drop 16 (16 * j) bs ∙ ap (λ n. drop n bs) next) ∙ chunks_from bs (j + 1) k in
    cc

-- the parts of 16 bytes spell the entries
pub chunks_spell : (bs : List ℕ) → map entry_in (first_chunks 16 (length bs / 16) bs) ≡ entries_of bs
chunks_spell bs = chunks_from bs 0 (length bs / 16)
