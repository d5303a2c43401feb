-- Bytes written over a buffer, one part behind the other. Assumes nothing.
use Rattle.std.proofs.Common.{◌≡◌, ℕ, ◌+◌, ◌-◌, ◌<◌, ◌≤◌, List, [], ◌∷◌, ◌++◌, length, get_or, take, drop, replicate, sym, refl, ap, ◌∙◌, append_assoc, arith}
use lib.Seq.{paste}
use Rattle.std.proofs.lemmas.List.Edits.{paste_all, paste-paste}
use Rattle.std.proofs.lemmas.List.{take_at, take_more, flat_map_more, length-append, length-take, length-drop}
use Rattle.journal.specs.declared.Entry.{Entry}
use Rattle.journal.specs.Entries.{blank}
use Rattle.entries.specs.Entries.{entry_bytes, entries_bytes}
use Rattle.writing.specs.Writing.{over}

-- a write keeps the buffer's length
pub length_over : (out : List ℕ) (at : ℕ) (bs : List ℕ) → at + length bs ≤ length out → length (over out at bs) ≡ length out
length_over out at bs h =
    length-append (take at out) (bs ++ drop (at + length bs) out)
    ∙ omega (arith, length-append bs (drop (at + length bs) out), length-take at out, length-drop (at + length bs) out)

-- two parts, the second right behind the first
pub take_over_over : (n : ℕ) (out a b : List ℕ) → length a ≡ n → take (n + length b) (over (over out 0 a) n b) ≡ a ++ b
take_over_over n out a b long =
    let rest : List ℕ = drop (n + length b) (over out 0 a) in
    let front : take n (over out 0 a) ≡ a = take_at a (drop (0 + length a) out) n long in
    let size : length (a ++ b) ≡ n + length b = omega (arith, length-append a b) in
    ap (λ (xs : List ℕ). take (n + length b) (xs ++ (b ++ rest))) front
    ∙ ap (λ (xs : List ℕ). take (n + length b) xs) (sym (append_assoc a b rest))
    ∙ take_at (a ++ b) rest (n + length b) size

-- a header, the entries behind it, and zeros to the end
pub frame_laid : (out o1 o2 o3 header part : List ℕ) (n : ℕ) → length header ≡ 24 → length part ≡ n → 24 + n ≤ length out → o1 ≡ over out 0 header → o2 ≡ over o1 24 part → o3 ≡ take (24 + n) o2 ++ replicate (length o2 - (24 + n)) 0 → o3 ≡ (header ++ part) ++ replicate (length out - (24 + n)) 0
frame_laid out o1 o2 o3 header part n head long room e1 e2 e3 =
    let end : 24 + length part ≡ 24 + n = omega arith in
    let under : o2 ≡ over (over out 0 header) 24 part = e2 ∙ ap (λ (xs : List ℕ). over xs 24 part) e1 in
    let first : length (over out 0 header) ≡ length out = length_over out 0 header (omega arith) in
    let size : length o2 ≡ length out = ap length under ∙ length_over (over out 0 header) 24 part (omega arith) ∙ first in
    let front : take (24 + n) o2 ≡ header ++ part = ap (λ (xs : List ℕ). take (24 + n) xs) under ∙ ap (λ m. take m (over (over out 0 header) 24 part)) (sym end) ∙ take_over_over 24 out header part head in
    e3 ∙ ap (λ (xs : List ℕ). xs ++ replicate (length o2 - (24 + n)) 0) front
    ∙ ap (λ m. (header ++ part) ++ replicate {A = ℕ} (m - (24 + n)) 0) size

-- a second write right behind a first one
pub over_over : (out xs ys : List ℕ) (at n : ℕ) → at ≤ length out → at + length xs ≡ n → over (over out at xs) n ys ≡ over out at (xs ++ ys)
over_over out xs ys at n low end =
    let first = paste_all out at xs (length xs) refl in
    ap (λ m. over (over out at xs) m ys) (sym end)
    ∙ ap (λ (zs : List ℕ). over zs (at + length xs) ys) (sym first)
    ∙ sym (paste_all (paste out at xs (length xs)) (at + length xs) ys (length ys) refl)
    ∙ paste-paste out at xs ys (length xs) (length ys) refl refl low
    ∙ paste_all out at (xs ++ ys) (length xs + length ys) (sym (length-append xs ys))
    ∙ ap (λ m. take at out ++ ((xs ++ ys) ++ drop (at + m) out)) (sym (length-append xs ys))

-- the bytes of one entry more
pub bytes_more : (es : List Entry) (k : ℕ) (e : Entry) → k < length es → get_or es k blank ≡ e → entries_bytes (take k es) ++ entry_bytes e ≡ entries_bytes (take (k + 1) es)
bytes_more es k e h is =
    flat_map_more entry_bytes [] (take k es) e
    ∙ ap entries_bytes (ap (λ (x : Entry). take k es ++ x ∷ []) (sym is) ∙ sym (take_more es k blank h))
