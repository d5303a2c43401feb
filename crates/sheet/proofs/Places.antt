-- A lemma on the rows of a sheet: what one entry more leaves of each.
use Rattle.std.proofs.Common.{◌≡◌, ℕ, ◌+◌, ◌*◌, ◌<◌, ◌≤◌, min, List, [], ◌∷◌, ◌++◌, length, get_or, take, drop, set, ap, ◌∙◌, arith, length-drop, length-take}
use Rattle.std.proofs.lemmas.List.{take-set-le, drop-set-lt, drop-set-add, take_more_set}
use Rattle.std.proofs.lemmas.Bool.Decides.{nat_tests}
use Rattle.journal.specs.declared.Entry.{Entry}
use Rattle.journal.specs.Lists.{append_lists}
use Rattle.shelf.specs.Rows.{all_in_use}
use Rattle.shelf.proofs.Places.{changed}

-- an entry written behind an owner's, and counted, is the journal's append
pub lists_append : (owners limit w : ℕ) (rows : List Entry) (lengths : List ℕ) (o start n : ℕ) (e : Entry) → w ≡ limit → o < owners → start ≡ o * w → start + w ≤ length rows → o < length lengths → n ≡ min (get_or lengths o 0) w → n < w → (p : ℕ) → all_in_use owners w (set rows (start + n) e) (set lengths o (n + 1)) p ≡ append_lists owners limit (all_in_use owners w rows lengths) o e p
lists_append owners limit w rows lengths o start n e wide own starts fits counted is free p =
    let h : n < length (drop (o * w) rows) = simp length-drop (omega arith) in
    let l : length (take n (drop (o * w) rows)) ≡ n = simp (length-take, length-drop) (omega arith) in
    let front : take (n + 1) (drop (o * w) (set rows (o * w + n) e)) ≡ take n (drop (o * w) rows) ++ e ∷ [] = ap (take (n + 1)) (drop-set-add (o * w) rows n e) ∙ take_more_set (drop (o * w) rows) n e h in
    let c = changed owners w rows (set rows (o * w + n) e) lengths o (n + 1) own counted (omega arith) (take-set-le (o * w) rows (o * w + n) e (omega arith)) (drop-set-lt (o * w + w) rows (o * w + n) e (omega arith)) p in
    grind (arith, nat_tests)
