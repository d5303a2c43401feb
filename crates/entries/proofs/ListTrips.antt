-- Lists of entries and their bytes, there and back. Assumes nothing.
use Rattle.std.proofs.Common.{◌≡◌, ℕ, zero, suc, ◌+◌, ◌-◌, ◌*◌, ◌/◌, ◌<◌, ◌≤◌, Bool, true, false, List, [], ◌∷◌, ◌++◌, map, length, get_or, take, drop, sym, refl, ap, ◌∙◌, inl, inr, zero-add, mul-suc, add-one, arith, take-add}
use Rattle.std.specs.List.{range_with_len, between}
use Rattle.std.proofs.lemmas.List.FromFn.{map-range_with_len_more}
use Rattle.std.proofs.lemmas.List.Edits.{length-between}
use Rattle.std.proofs.lemmas.List.{drop-drop, ext_get_or, flat_map_more, get_or_past, get_or-take, get_or-drop, length-take}
use Rattle.std.proofs.lemmas.Bool.{cases_lt, cases_Bool, cond-false, and_parts}
use Rattle.std.proofs.lemmas.Bool.Decides.{nat_tests}
use Rattle.journal.specs.declared.Entry.{Entry}
use Rattle.journal.specs.Entries.{blank}
use Rattle.entries.specs.Entries.{spelled, entry_in, entry_at, entries_of, entry_bytes, entries_bytes}
use Rattle.entries.specs.Histories.{body_fits, entry_fits, goes_on}
use Rattle.entries.proofs.Places.{entries_length, entries_at}
use Rattle.entries.proofs.Trips.{FitsFields, entry_back, entry_again}

-- entries take 16 bytes each
pub bytes_length : (es : List Entry) → length (entries_bytes es) ≡ 16 * length es
bytes_length [] = refl
bytes_length (e ∷ es) = omega (arith, bytes_length es, mul-suc 16 (length es))

-- the bytes at a place are those of the entry there
pub bytes_at : (es : List Entry) (k : ℕ) → k < length es → take 16 (drop (16 * k) (entries_bytes es)) ≡ entry_bytes (get_or es k blank)
bytes_at [] k h = absurd (omega arith)
bytes_at (e ∷ es) zero h = refl
bytes_at (e ∷ es) (suc k) h =
    let next : 16 * suc k ≡ 16 + 16 * k = omega (arith, mul-suc 16 k) in
    ap (λ n. take 16 (drop n (entry_bytes e ++ entries_bytes es))) next
    ∙ ap (λ (xs : List ℕ). take 16 xs) (sym (drop-drop (16 * k) 16 (entry_bytes e ++ entries_bytes es)))
    ∙ bytes_at es k (omega arith)

-- a list is read back from its bytes
pub entries_back : (es : List Entry) → ((k : ℕ) → k < length es → FitsFields (get_or es k blank)) → entries_of (entries_bytes es) ≡ es
entries_back es fit =
    let bs : List ℕ = entries_bytes es in
    let n : length bs / 16 ≡ length es = omega (arith, bytes_length es) in
    ext_get_or blank (entries_of bs) es (entries_length bs ∙ n)
    (λ k h.
    let there : k < length es = omega (arith, entries_length bs) in
    let width : 16 * k + 16 - 16 * k ≡ 16 = omega arith in
    entries_at bs k (omega (arith, entries_length bs))
    ∙ ap entry_in (ap (λ w. take w (drop (16 * k) bs)) width ∙ bytes_at es k there)
    ∙ entry_back (get_or es k blank) (fit k there))

-- what has a body that fits is no blank: its bytes spell it
pub fits_spelled : (codes : ℕ → Bool) (cabinets : ℕ) (bs : List ℕ) → body_fits codes cabinets (entry_in bs).kind (entry_in bs).body ≡ true → spelled bs ≡ true
fits_spelled codes cabinets bs fits =
    elim (cases_Bool (spelled bs)) [
      | inl yes' ↦ yes'
      | inr not' ↦
          let none : entry_in bs ≡ blank = cond-false (spelled bs) _ blank not' in
          let fault : false ≡ true = sym (ap (λ (e : Entry). body_fits codes cabinets e.kind e.body) none) ∙ fits in
          absurd (let z : ◌≡◌ {A = ℕ} 0 1 = cc in omega arith)
    ]

-- each entry of a faultless list has a body that fits
pub goes_on_each : (codes : ℕ → Bool) (cabinets most last : ℕ) (es : List Entry) → goes_on codes cabinets most last es ≡ true → (k : ℕ) → k < length es → ((get_or es k blank).epoch ≤ most) × (body_fits codes cabinets (get_or es k blank).kind (get_or es k blank).body ≡ true)
goes_on_each codes cabinets most last [] on k h = absurd (omega arith)
goes_on_each codes cabinets most last (e ∷ es) on zero h =
    let here = and_parts (entry_fits codes cabinets most last e) (goes_on codes cabinets most e.epoch es) on in
    let fits = here.0 in
    grind (arith, nat_tests)
goes_on_each codes cabinets most last (e ∷ es) on (suc k) h =
    goes_on_each codes cabinets most e.epoch es (and_parts (entry_fits codes cabinets most last e) (goes_on codes cabinets most e.epoch es) on).1 k (omega arith)

-- a part of bytes holds bytes
pub part_small : (bs : List ℕ) (n m : ℕ) → ((i : ℕ) → get_or bs i 0 < 256) → (i : ℕ) → get_or (take m (drop n bs)) i 0 < 256
part_small bs n m small i =
    elim (cases_lt i m) [
      | inl h ↦ rw (get_or-take m (drop n bs) i 0 h, get_or-drop n bs i 0) (small (n + i))
      | inr h ↦ rw (get_or_past (take m (drop n bs)) i 0 (omega (arith, length-take m (drop n bs)))) (omega arith)
    ]

-- bytes that spell their first n entries are those entries' bytes
spelled_out : (bs : List ℕ) (n : ℕ) → 16 * n ≤ length bs → ((i : ℕ) → get_or bs i 0 < 256) → ((k : ℕ) → k < n → spelled (between (16 * k) (16 * k + 16) bs) ≡ true) → entries_bytes (map (entry_at bs) (range_with_len 0 n)) ≡ take (16 * n) bs
spelled_out bs zero h small each = refl
spelled_out bs (suc n) h small each =
    let part : List ℕ = between (16 * n) (16 * n + 16) bs in
    let next : 16 * n + 16 ≡ 16 * suc n = omega (arith, mul-suc 16 n) in
    let width : 16 * n + 16 - 16 * n ≡ 16 = omega arith in
    let long : length part ≡ 16 = length-between bs (16 * n) (16 * n + 16) (omega arith) ∙ width in
    let front = spelled_out bs n (omega arith) small (λ k l. each k (omega arith)) in
    let last : entry_bytes (entry_in part) ≡ part = entry_again part long (part_small bs (16 * n) (16 * n + 16 - 16 * n) small) (each n (omega arith)) in
    ap (λ m. entries_bytes (map (entry_at bs) (range_with_len 0 m))) (sym (add-one n))
    ∙ ap entries_bytes (map-range_with_len_more (entry_at bs) 0 n n (zero-add n))
    ∙ sym (flat_map_more entry_bytes [] (map (entry_at bs) (range_with_len 0 n)) (entry_at bs n))
    ∙ ap (λ (xs : List ℕ). xs ++ entry_bytes (entry_in part)) front
    ∙ ap (λ (xs : List ℕ). take (16 * n) bs ++ xs) (last ∙ ap (λ w. take w (drop (16 * n) bs)) width)
    ∙ sym (take-add (16 * n) 16 bs)
    ∙ ap (λ m. take m bs) next

-- the entries that bytes spell have those bytes, where every body fits
pub entries_again : (codes : ℕ → Bool) (cabinets : ℕ) (bs : List ℕ) → ((i : ℕ) → get_or bs i 0 < 256) → ((k : ℕ) → k < length (entries_of bs) → body_fits codes cabinets (get_or (entries_of bs) k blank).kind (get_or (entries_of bs) k blank).body ≡ true) → entries_bytes (entries_of bs) ≡ take (16 * (length bs / 16)) bs
entries_again codes cabinets bs small fits =
    spelled_out bs (length bs / 16) (omega arith) small
    (λ k h.
    let is = entries_at bs k h in
    fits_spelled codes cabinets (between (16 * k) (16 * k + 16) bs)
    (sym (ap (λ (e : Entry). body_fits codes cabinets e.kind e.body) is) ∙ fits k (omega (arith, entries_length bs))))
