-- Lemmas on replaying records: one record more, the limit, and entries alone.
use Rattle.std.proofs.Common.{◌≡◌, ℕ, ◌+◌, ◌<◌, ◌≤◌, min, true, ltb, List, [], ◌∷◌, ◌++◌, map, length, get_or, take, drop, set, fold, slice_get, refl, sym, ap, ◌∙◌, zero-le, add-zero, arith, length-take}
use Rattle.std.proofs.lemmas.List.{length_push, take_min, take-take, take-set, take-set-le, take_more_set, take-map, map_push, append-nil, append_assoc, get_or-drop}
use Rattle.std.proofs.lemmas.List.Sums.{fold_more}
use Rattle.std.proofs.Math.Nat.{min_comm}
use Rattle.std.proofs.lemmas.Option.{gets}
use Rattle.std.proofs.lemmas.Grind.{common_steps}
use Rattle.std.proofs.lemmas.Bool.{lt-ltb, cond-true}
use Rattle.std.proofs.lemmas.Bool.Decides.{nat_tests}
use Rattle.journal.specs.declared.Entry.{Entry}
use Rattle.journal.specs.Entries.{blank}
use Rattle.records.specs.declared.Record.{Record}
use Rattle.records.specs.declared.Record.TheVariants.{Append, Keep}
use Rattle.records.specs.Replay.{step, step_length, replay, known_after}

-- what lies at a place that no slice has
abbrev pub first : Record
first = Append blank

-- one record changes a list's length by the list's length alone
pub length_step : (limit : ℕ) (es : List Entry) (r : Record) → length (step limit es r) ≡ step_length limit (length es) r
length_step limit es (Append e) = let a = length_push es e in grind (arith, nat_tests)
length_step limit es (Keep n) = let a = length-take n es in omega arith

-- one record leaves no list longer than the limit
pub step_within : (limit : ℕ) (es : List Entry) (r : Record) → length es ≤ limit → length (step limit es r) ≤ limit
step_within limit es (Append e) h = let a = length_push es e in grind (arith, nat_tests)
step_within limit es (Keep n) h = omega (arith, length-take n es)

-- nor do many
pub folded_within : (limit : ℕ) (es : List Entry) (rs : List Record) → length es ≤ limit → length (fold (step limit) es rs) ≤ limit
folded_within limit es [] h = h
folded_within limit es (r ∷ rs) h = folded_within limit (step limit es r) rs (step_within limit es r h)

-- no records stand for a list longer than the limit
pub replay_within : (limit : ℕ) (rs : List Record) → length (replay limit rs) ≤ limit
replay_within limit rs = folded_within limit [] rs zero-le

-- entries alone, replayed on, are added as they stand
pub folded_entries : (limit : ℕ) (es fs : List Entry) → length es + length fs ≤ limit → fold (step limit) es (map Append fs) ≡ es ++ fs
folded_entries limit es [] h = sym (append-nil es)
folded_entries limit es (f ∷ fs) h =
    let room : ltb (length es) limit ≡ true = lt-ltb (length es) limit (omega arith) in
    let l = length_push es f in
    ap (λ (xs : List Entry). fold (step limit) xs (map Append fs)) (cond-true (ltb (length es) limit) (es ++ f ∷ []) es room)
    ∙ folded_entries limit (es ++ f ∷ []) fs (omega arith)
    ∙ append_assoc es (f ∷ []) fs

-- entries alone stand for themselves
pub replay_entries : (limit : ℕ) (es : List Entry) → length es ≤ limit → replay limit (map Append es) ≡ es
replay_entries limit es h = folded_entries limit [] es (omega arith)

-- a record put behind the live entries leaves the live entries of the list after it
pub moved : (limit k : ℕ) (rs : List Record) (es : List Entry) (r : Record) → k ≡ length es → k < length rs → take k rs ≡ map Append es → take (step_length limit k r) (set rs k r) ≡ map Append (step limit es r)
moved limit k rs es (Append e) is h front =
    let a = take_more_set rs k (Append e) h in
    let b = take-set rs k (Append e) in
    let d = map_push Append es e in
    grind (arith, nat_tests)
moved limit k rs es (Keep n) is h front =
    let a = take-set-le (min k n) rs k (Keep n) (omega arith) in
    let b = take-take (min k n) k rs (omega arith) in
    let d = take-map Append (min k n) es in
    let e = take_min n es in
    let f = min_comm (length es) n in
    grind (arith, nat_tests)

-- replaying one record more
pub replay_more : (limit : ℕ) (rs : List Record) (i : ℕ) → i < length rs → replay limit (take (i + 1) rs) ≡ step limit (replay limit (take i rs)) (get_or rs i first)
replay_more limit rs i h = fold_more (step limit) [] rs i first h

found_append : (limit i : ℕ) (es : List Entry) (e : Entry) → slice_get (step limit es (Append e)) i ≡ known_after limit (length es) i (slice_get es i) (Append e)
found_append limit i es e = grind (arith, nat_tests, common_steps, gets)

found_keep : (limit i m : ℕ) (es : List Entry) → slice_get (step limit es (Keep m)) i ≡ known_after limit (length es) i (slice_get es i) (Keep m)
found_keep limit i m es = grind (arith, nat_tests, common_steps, gets)

-- one record changes what stands at a position by the list's length and what stood there alone
pub found_step : (limit i : ℕ) (es : List Entry) (r : Record) → slice_get (step limit es r) i ≡ known_after limit (length es) i (slice_get es i) r
found_step limit i es (Append e) = found_append limit i es e
found_step limit i es (Keep m) = found_keep limit i m es

-- the length of what records leave of a list, by the list's length alone
pub length_folded : (limit : ℕ) (es : List Entry) (rs : List Record) → length (fold (step limit) es rs) ≡ fold (step_length limit) (length es) rs
length_folded limit es [] = refl
length_folded limit es (r ∷ rs) =
    length_folded limit (step limit es r) rs ∙ ap (λ n. fold (step_length limit) n rs) (length_step limit es r)

-- lists that agree from a place on agree there
pub same_at : (xs ys : List Record) (i : ℕ) (d : Record) → drop i xs ≡ drop i ys → get_or xs i d ≡ get_or ys i d
same_at xs ys i d e = rw add-zero at (sym (get_or-drop i xs 0 d) ∙ ap (λ (zs : List Record). get_or zs 0 d) e ∙ get_or-drop i ys 0 d)

-- one record adds at most one entry
pub step_rises : (limit n : ℕ) (r : Record) → step_length limit n r ≤ n + 1
step_rises limit n (Append e) = grind (arith, nat_tests)
step_rises limit n (Keep m) = omega arith
