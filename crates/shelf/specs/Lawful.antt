-- What holds of the places in use of every shelf. Assumes nothing.
use Rattle.std.specs.Prelude.{◌≡◌, ℕ, ◌+◌, ◌*◌, ◌≤◌, min, true, false, cond, [], length, drop, nat_lt, slice_index}
use Rattle.std.proofs.Common.{zero-le, arith, length-take}
use Rattle.std.proofs.lemmas.Bool.{cond-false, le-ltb}
use Rattle.shelf.specs.declared.Shelf.{Shelf}
use Rattle.shelf.specs.Rows.{shelf_owners, shelf_limit, in_use, used_of}

-- the numbers of every shelf are within their bounds
pub owners_most : {T : Type 0} {SPARE : ℕ} (s : Shelf T SPARE) → shelf_owners s ≤ 65535
owners_most s = s.few

pub limit_least : {T : Type 0} {SPARE : ℕ} (s : Shelf T SPARE) → 2 ≤ shelf_limit s
limit_least s = s.least

pub limit_most : {T : Type 0} {SPARE : ℕ} (s : Shelf T SPARE) → shelf_limit s ≤ 4000
limit_most s = s.most

-- no owner has more places in use than its row has
pub used_within : {T : Type 0} {SPARE : ℕ} (s : Shelf T SPARE) (o : ℕ) → length (used_of s o) ≤ shelf_limit s + SPARE
used_within {T} {SPARE} s o =
    let w : ℕ = s.limit + SPARE in
    let l = length-take (min (slice_index s.counts.now o) w) (drop (o * w) s.places.now) in
    elim (nat_lt o s.owners) as (λ b. length (cond b (in_use w s.places.now s.counts.now o) []) ≤ w)
    [ true ↦ omega arith | false ↦ zero-le ]

-- past the last owner no place is in use
pub used_unowned : {T : Type 0} {SPARE : ℕ} (s : Shelf T SPARE) (o : ℕ) → shelf_owners s ≤ o → used_of s o ≡ []
used_unowned {T} {SPARE} s o h =
    cond-false (nat_lt o s.owners) (in_use (s.limit + SPARE) s.places.now s.counts.now o) [] (le-ltb o s.owners h)
