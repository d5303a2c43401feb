-- Lemmas on the records of a reel: what a change of one owner's leaves of each list.
use Rattle.std.proofs.Common.{◌≡◌, ℕ, ◌+◌, ◌-◌, ◌*◌, ◌<◌, ◌≤◌, min, ◌≢◌, List, length, get_or, take, drop, set, sym, ap, ◌∙◌, ⊎_elim, arith}
use borrow.Rule.Slice.PartMut.{put_mid}
use Rattle.std.specs.List.{between}
use Rattle.std.proofs.lemmas.List.{take-take}
use Rattle.std.proofs.lemmas.Slice.{take-put_mid_below, drop-put_mid, between-put_mid}
use Rattle.std.proofs.lemmas.Bool.{cases_eq}
use Rattle.std.proofs.lemmas.Bool.Decides.{nat_tests}
use Rattle.journal.specs.declared.Entry.{Entry}
use Rattle.journal.specs.Lists.{append_lists, keep_lists}
use Rattle.shelf.specs.Rows.{all_in_use}
use Rattle.shelf.proofs.Places.{changed}
use Rattle.records.specs.declared.Record.{Record}
use Rattle.records.specs.declared.Record.TheVariants.{Append, Keep}
use Rattle.records.specs.Replay.{step, replay}
use Rattle.reel.specs.Meaning.{add_lists}

-- a row whose records stand for one record more is one record more in its owner's list, and nothing in the others
pub lists_added : (owners limit w : ℕ) (rs : List Record) (used : List ℕ) (o start end n r : ℕ) (ys : List Record) (made : Record) → o < owners → start ≡ o * w → end ≡ start + w → n ≡ min (get_or used o 0) w → end ≤ length rs → o < length used → length ys ≡ w → r ≤ w → replay limit (take r ys) ≡ step limit (replay limit (take n (between start end rs))) made → (p : ℕ) → replay limit (all_in_use owners w (put_mid start (end - start) rs ys) (set used o r) p) ≡ add_lists owners limit (λ q. replay limit (all_in_use owners w rs used q)) o made p
lists_added owners limit w rs used o start end n r ys made own starts ends counts fits counted long few list p =
    let new : List Record = put_mid start (end - start) rs ys in
    let size : end - start ≡ w = omega arith in
    let before : take (o * w) new ≡ take (o * w) rs = take-put_mid_below start (end - start) rs ys (o * w) (omega arith) (omega arith) in
    let behind : drop (o * w + w) new ≡ drop (o * w + w) rs = drop-put_mid start (end - start) rs ys (o * w + w) (omega arith) (omega arith) (omega arith) in
    let c = changed owners w rs new used o r own counted few before behind p in
    let put : between start end new ≡ ys = between-put_mid start (end - start) rs ys end (omega arith) (omega arith) in
    let front : take r (drop start new) ≡ take r ys = sym (take-take r (end - start) (drop start new) (omega arith)) ∙ ap (take r) put in
    let was : take n (between start end rs) ≡ take n (drop start rs) = take-take n (end - start) (drop start rs) (omega arith) in
    ⊎_elim (λ (same : p ≡ o). grind (arith, nat_tests)) (λ (ne : p ≢ o). grind (arith, nat_tests)) (cases_eq p o)

-- an entry added as a record is the journal's append
pub add_append : (owners limit : ℕ) (ls : ℕ → List Entry) (o : ℕ) (e : Entry) (p : ℕ) → add_lists owners limit ls o (Append e) p ≡ append_lists owners limit ls o e p
add_append owners limit ls o e p = ⊎_elim (λ (same : p ≡ o). grind (arith, nat_tests)) (λ (ne : p ≢ o). grind (arith, nat_tests)) (cases_eq p o)

-- a keep mark within the list is the journal's keep
pub add_keep : (owners limit : ℕ) (ls : ℕ → List Entry) (o n : ℕ) (p : ℕ) → n ≤ length (ls o) → add_lists owners limit ls o (Keep n) p ≡ keep_lists owners ls o n p
add_keep owners limit ls o n p h = ⊎_elim (λ (same : p ≡ o). grind (arith, nat_tests)) (λ (ne : p ≢ o). grind (arith, nat_tests)) (cases_eq p o)
