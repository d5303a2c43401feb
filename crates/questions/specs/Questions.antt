-- What a running, sound cabinet answers when it is asked for an entry or for its members. Assumes nothing.
use Rattle.std.specs.Prelude.{◌≡◌, ℕ, ◌<◌, Bool, true, cond, List, length, take, drop, Ok, Err, Result, nat_le, nat_lt, slice_index, slice_index_or}
use Rattle.refusal.specs.declared.Refusal.{Refusal}
use Rattle.refusal.specs.declared.Refusal.TheVariants.{NoPosition, ListShort}
use Rattle.refusal.specs.Answers.{and_then}
use Rattle.quorum.specs.MajorityRule.{size_of}
use Rattle.quorum.specs.Sets.{has}
use Rattle.journal.specs.declared.Entry.{Entry}
use Rattle.journal.specs.Entries.{blank}
use Rattle.cabinet.specs.declared.Cabinet.{Cabinet}
use Rattle.configurations.specs.Configurations.{members_before}
use Rattle.receiving.specs.Readiness.{place, ready}

-- what every question asks first: 1 and 2 for the place, then 6 and 8 for the cabinet
abbrev pub asked : (ℕ → Bool) → ℕ → ℕ → ℕ → ℕ → List Entry → Cabinet → Result (Unit {0}) Refusal
asked codes cabinets owners limit i l c = and_then (place cabinets owners i) (λ _. ready codes cabinets limit i l c)

-- the entry at a position below the mark; 50 at the mark and past it
abbrev pub committed_answer : (ℕ → Bool) → ℕ → ℕ → ℕ → ℕ → List Entry → Cabinet → ℕ → Result Entry Refusal
committed_answer codes cabinets owners limit i l c position =
    and_then (asked codes cabinets owners limit i l c) (λ _. cond (nat_lt position c.mark) (Ok (slice_index_or l position blank)) (Err NoPosition))

-- the members by the last committed configuration
abbrev pub committed_members : List Entry → Cabinet → ℕ
committed_members l c = members_before l c.mark

-- the number of the last committed members; 51 where the list has too few places for them
abbrev pub roster_answer : (ℕ → Bool) → ℕ → ℕ → ℕ → ℕ → List Entry → Cabinet → ℕ → Result ℕ Refusal
roster_answer codes cabinets owners limit i l c places =
    and_then (asked codes cabinets owners limit i l c) (λ _. cond (nat_le (size_of (committed_members l c)) places) (Ok (size_of (committed_members l c))) (Err ListShort))

-- the members, each at exactly one place and nothing else, in any order
pub record Roster (members : ℕ) (front : List ℕ) : Type 0 where
  pub each : (i : ℕ) → has members i ≡ true → (k : ℕ) × (k < length front) × (slice_index front k ≡ i)
  pub once : (j k : ℕ) → j < length front → k < length front → slice_index front j ≡ slice_index front k → j ≡ k
  pub only : (k : ℕ) → k < length front → has members (slice_index front k) ≡ true
  pub sized : length front ≡ size_of members

-- how many places of the list a call fills: none where it is refused
abbrev pub filled : Result ℕ Refusal → ℕ
filled (Ok n) = n
filled (Err e) = 0

-- the filled places hold the members
abbrev pub Enrolled : ℕ → List ℕ → Result ℕ Refusal → Type 0
Enrolled members list (Ok n) = Roster members (take n list)
Enrolled members list (Err e) = Unit {0}

-- a roster of these members has been asked for: the answer, the front of the list, and that the rest is as it was
pub record Listed (members : ℕ) (before after : List ℕ) (said due : Result ℕ Refusal) : Type 0 where
  pub answer : said ≡ due
  pub front : Enrolled members after due
  pub rest : drop (filled due) after ≡ drop (filled due) before
