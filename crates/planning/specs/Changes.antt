-- A planned change of members, under any quorum test: which sets of cabinets could carry it. Assumes nothing.
use Rattle.std.specs.Prelude.{◌≡◌, ℕ, ◌-◌, ◌*◌, ◌%◌, ◌^◌, ◌<◌, Bool, true, ◌&&◌, Option, bit_and, find}
use Rattle.std.specs.List.{range_with_len}
use Rattle.quorum.specs.Sets.{has}
use Rattle.planning.specs.declared.Change.{Change}

-- every cabinet of a is one of b
abbrev pub Within : ℕ → ℕ → Type 0
Within a b = (i : ℕ) → has a i ≡ true → has b i ≡ true

-- the cabinets that hold a change commit it where they are a quorum of the old members and of the new
abbrev pub carried : (ℕ → ℕ → Bool) → Change → ℕ → Bool
carried quorum change set = quorum change.old set && quorum change.new set

-- every cabinet but i, among sixteen
abbrev pub others : ℕ → ℕ
others i = 65535 - (1 * 2 ^ i) % 65536

-- cabinet i of the set can be spared
abbrev pub spared : (ℕ → ℕ → Bool) → Change → ℕ → ℕ → Bool
spared quorum change set i = has set i && carried quorum change (bit_and set (others i))

-- the set carries the change, and no smaller set within it does
pub record Least (quorum : ℕ → ℕ → Bool) (change : Change) (set : ℕ) : Type 0 where
  pub carries : carried quorum change set ≡ true
  pub needs_all : (other : ℕ) → Within other set → carried quorum change other ≡ true → Within set other

-- cabinet i is a member and in both sets
abbrev pub Shared : ℕ → ℕ → ℕ → ℕ → Type 0
Shared members a b i = (has members i ≡ true) × (has a i ≡ true) × (has b i ≡ true)

-- cabinet i is shared, and none below it is
pub record FirstShared (members a b i : ℕ) : Type 0 where
  pub shared : Shared members a b i
  pub first : (k : ℕ) → k < i → Shared members a b k → ⊥

-- the lowest of the sixteen cabinets that passes a test
abbrev pub lowest : (ℕ → Bool) → Option ℕ
lowest test = find test (range_with_len 0 16)
