-- Lemmas on the rows of a shelf: what a change of one owner's row and count leaves of each.
use Rattle.std.proofs.Common.{◌≡◌, ℕ, ◌+◌, ◌-◌, ◌*◌, ◌<◌, ◌≤◌, min, cond, ◌≢◌, List, length, get_or, take, drop, set, Ok, ◌==◌, sym, ap, ◌∙◌, ⊎_elim, arith}
use Rattle.std.proofs.lemmas.List.{get_or-set_same, get_or-set_other, take-take, drop-take, drop-drop}
use Rattle.std.proofs.lemmas.Bool.{cases_eq, cases_lt}
use Rattle.std.proofs.lemmas.Bool.Decides.{nat_tests}
use Rattle.journal.proofs.Parts.{part_fits}
use Rattle.shelf.specs.declared.Row.{Row}
use Rattle.shelf.specs.declared.Shelf.{Shelf}
use Rattle.shelf.specs.Rows.{all_in_use, row_answer}

-- memory that is the same before and behind one row has every other row as it was
pub row_other : {T : Type 0} (w : ℕ) (old new : List T) (o p m : ℕ) → p ≢ o → m ≤ w → take (o * w) new ≡ take (o * w) old → drop (o * w + w) new ≡ drop (o * w + w) old → take m (drop (p * w) new) ≡ take m (drop (p * w) old)
row_other w old new o p m ne few before behind =
    ⊎_elim
    (λ (lt : p < o).
    let a : p * w + w ≤ o * w = part_fits p o w (o * w) lt (omega arith) in
    let b = take-take (p * w + m) (o * w) new (omega arith) in
    let d = take-take (p * w + m) (o * w) old (omega arith) in
    sym (drop-take (p * w) m new) ∙ ap (drop (p * w)) (sym b ∙ ap (take (p * w + m)) before ∙ d) ∙ drop-take (p * w) m old)
    (λ (le : o ≤ p).
    let a : o * w + w ≤ p * w = part_fits o p w (p * w) (omega arith) (omega arith) in
    let k : ℕ = p * w - (o * w + w) in
    let at : o * w + w + k ≡ p * w = omega arith in
    ap (take m) (ap (λ i. drop i new) (sym at) ∙ sym (drop-drop k (o * w + w) new) ∙ ap (drop k) behind ∙ drop-drop k (o * w + w) old ∙ ap (λ i. drop i old) at))
    (cases_lt p o)

-- after a change of one owner's row and count its places in use are the front of the new row, and every other's are as they were
pub changed : {T : Type 0} (owners w : ℕ) (old new : List T) (counts : List ℕ) (o r : ℕ) → o < owners → o < length counts → r ≤ w → take (o * w) new ≡ take (o * w) old → drop (o * w + w) new ≡ drop (o * w + w) old → (p : ℕ) → all_in_use owners w new (set counts o r) p ≡ cond (p == o) (take r (drop (o * w) new)) (all_in_use owners w old counts p)
changed owners w old new counts o r own counted few before behind p =
    ⊎_elim
    (λ (same : p ≡ o).
    let count = get_or-set_same counts o r 0 counted in
    let m : min (get_or (set counts o r) o 0) w ≡ r = omega arith in
    grind (arith, nat_tests))
    (λ (ne : p ≢ o).
    let count = get_or-set_other counts o p r 0 ne in
    let there = row_other w old new o p (min (get_or counts p 0) w) ne (omega arith) before behind in
    grind (arith, nat_tests))
    (cases_eq p o)

-- what the answer to a row tells of the owner and of its places
pub told : {T : Type 0} {SPARE : ℕ} (s : Shelf T SPARE) (o : ℕ) (x : Row) → Ok x ≡ row_answer s o → (o < s.owners) × (x.start ≡ o * (s.limit + SPARE)) × (x.end ≡ x.start + (s.limit + SPARE)) × (x.used ≡ min (get_or s.counts.now o 0) (s.limit + SPARE))
told s o x answer = grind (arith, nat_tests)
