-- What a journal means, one list of entries for each owner, and what each call answers and leaves. Assumes nothing.
use Rattle.std.specs.Prelude.{◌≡◌, ℕ, ◌≤◌, cond, ◌&&◌, List, [], ◌∷◌, ◌++◌, length, take, Ok, Err, Result, ◌==◌, nat_le, nat_lt, slice_index_or}
use Rattle.refusal.specs.declared.Refusal.{Refusal}
use Rattle.refusal.specs.declared.Refusal.TheVariants.{NoCabinet, Full, NoPosition, ListShort}
use Rattle.journal.specs.declared.Entry.{Entry}
use Rattle.journal.specs.Entries.{blank}

-- what stands for every journal s: the bounds of its two numbers, no list past its limit, and none without an owner
pub record Laws {S : Type 0} (owners limit : S → ℕ) (lists : S → ℕ → List Entry) : Type 0 where
  pub owners_most : (s : S) → owners s ≤ 65535
  pub limit_least : (s : S) → 2 ≤ limit s
  pub limit_most : (s : S) → limit s ≤ 4000
  pub within : (s : S) (p : ℕ) → length (lists s p) ≤ limit s
  pub unowned : (s : S) (p : ℕ) → owners s ≤ p → lists s p ≡ []

-- a journal has these lists now, and its owners and limit still
pub record Relisted {S : Type 0} (owners_of limit_of : S → ℕ) (lists_of : S → ℕ → List Entry) (old new : S) (left : ℕ → List Entry) : Type 0 where
  pub lists : (p : ℕ) → lists_of new p ≡ left p
  pub owners : owners_of new ≡ owners_of old
  pub limit : limit_of new ≡ limit_of old

-- the answer to an owner that there may not be
abbrev pub owned : {R : Type 0} → ℕ → ℕ → Result R Refusal → Result R Refusal
owned owners o answer = cond (nat_lt o owners) answer (Err NoCabinet)

-- the length of the owner's list
abbrev pub length_answer : ℕ → (ℕ → List Entry) → ℕ → Result ℕ Refusal
length_answer owners ls o = owned owners o (Ok (length (ls o)))

-- the entry at a position of the owner's list
abbrev pub entry_answer : ℕ → (ℕ → List Entry) → ℕ → ℕ → Result Entry Refusal
entry_answer owners ls o i = owned owners o (cond (nat_lt i (length (ls o))) (Ok (slice_index_or (ls o) i blank)) (Err NoPosition))

-- an append is refused when the list is as long as the limit
abbrev pub append_answer : ℕ → ℕ → (ℕ → List Entry) → ℕ → Result (Unit {0}) Refusal
append_answer owners limit ls o = owned owners o (cond (nat_lt (length (ls o)) limit) (Ok tt) (Err Full))

-- the lists after an append, refused or not: one entry more at the end of one list
abbrev pub append_lists : ℕ → ℕ → (ℕ → List Entry) → ℕ → Entry → ℕ → List Entry
append_lists owners limit ls o e p = cond (nat_lt o owners && nat_lt (length (ls o)) limit && p == o) (ls p ++ e ∷ []) (ls p)

-- a keep is refused when it would keep more than there is
abbrev pub keep_answer : ℕ → (ℕ → List Entry) → ℕ → ℕ → Result (Unit {0}) Refusal
keep_answer owners ls o n = owned owners o (cond (nat_le n (length (ls o))) (Ok tt) (Err ListShort))

-- the lists after a keep, refused or not: the first n entries of one list
abbrev pub keep_lists : ℕ → (ℕ → List Entry) → ℕ → ℕ → ℕ → List Entry
keep_lists owners ls o n p = cond (nat_lt o owners && nat_le n (length (ls o)) && p == o) (take n (ls p)) (ls p)
