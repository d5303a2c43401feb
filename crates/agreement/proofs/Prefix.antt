-- Lists that agree on their first entries. Assumes nothing.
use Rattle.std.proofs.Common.{◌≡◌, ℕ, ◌+◌, ◌<◌, ◌≤◌, List, [], ◌∷◌, ◌++◌, length, get_or, take, sym, refl, ap, ◌∙◌, arith}
use Rattle.std.proofs.lemmas.List.{take-take, get_or-take, take-append-le, take_more_same, length_push, take_all}
use Rattle.journal.specs.declared.Entry.{Entry}
use Rattle.journal.specs.Entries.{blank}

-- both lists have n entries or more, and the first n are the same
pub record Agree (n : ℕ) (l m : List Entry) : Type 0 where
  pub left : n ≤ length l
  pub right : n ≤ length m
  pub same : take n l ≡ take n m

-- a list agrees with itself
pub agree_refl : (n : ℕ) (l : List Entry) → n ≤ length l → Agree n l l
agree_refl n l h = record { left = h; right = h; same = refl }

-- the two may change places
pub agree_sym : {n : ℕ} {l m : List Entry} → Agree n l m → Agree n m l
agree_sym a = record { left = a.right; right = a.left; same = sym a.same }

-- agreement goes on from list to list
pub agree_trans : {n : ℕ} {l m k : List Entry} → Agree n l m → Agree n m k → Agree n l k
agree_trans a b = record { left = a.left; right = b.right; same = a.same ∙ b.same }

-- what agrees on n entries agrees on fewer
pub agree_down : {n : ℕ} {l m : List Entry} (k : ℕ) → k ≤ n → Agree n l m → Agree k l m
agree_down {n} {l} {m} k h a =
    record { left = omega arith; right = omega arith; same = sym (take-take k n l h) ∙ ap (take k) a.same ∙ take-take k n m h }

-- the same in three lists, the second agreement on more entries
pub agree_on : {n k : ℕ} {l m r : List Entry} → Agree n l m → Agree k m r → n ≤ k → Agree n l r
agree_on {n} a b h = agree_trans a (agree_down n h b)

-- the entries at a position before the n-th are the same
pub agree_at : {n : ℕ} {l m : List Entry} → Agree n l m → (q : ℕ) → q < n → get_or l q blank ≡ get_or m q blank
agree_at {n} {l} {m} a q h = sym (get_or-take n l q blank h) ∙ ap (λ (x : List Entry). get_or x q blank) a.same ∙ get_or-take n m q blank h

-- lists that agree on all of both are the same
pub agree_whole : {n : ℕ} {l m : List Entry} → Agree n l m → length l ≤ n → length m ≤ n → l ≡ m
agree_whole {n} {l} {m} a h k = sym (take_all n l h) ∙ a.same ∙ take_all n m k

-- a list agrees with what it becomes by an entry at its end
pub agree_push : (l : List Entry) (x : Entry) → Agree (length l) l (l ++ x ∷ [])
agree_push l x = record { left = omega arith; right = omega (arith, length_push l x); same = sym (take-append-le (length l) l (x ∷ []) (omega arith)) }

-- one entry more that is the same
pub agree_more : {n : ℕ} {l m : List Entry} → Agree n l m → n < length l → n < length m → get_or l n blank ≡ get_or m n blank → Agree (n + 1) l m
agree_more {n} {l} {m} a h k at = record { left = omega arith; right = omega arith; same = take_more_same l m n blank h k a.same at }
