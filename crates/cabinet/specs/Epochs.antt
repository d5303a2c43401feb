-- Epochs, their owners, and the order in which votes compare. Assumes nothing.
use Rattle.std.specs.Prelude.{◌≡◌, ℕ, ◌+◌, ◌-◌, ◌%◌, ◌^◌, ◌<◌, ◌≤◌, Bool, cond, ◌&&◌, ◌||◌, Ok, Err, Result, ◌==◌, nat_lt}
use Rattle.refusal.specs.declared.Refusal.{Refusal}
use Rattle.refusal.specs.declared.Refusal.TheVariants.{EpochsSpent}

-- the cabinet that an epoch belongs to
abbrev pub owner_of : ℕ → ℕ
owner_of epoch = epoch % 16

-- the epoch at which a cabinet stands next: its own in the promised epoch's round of sixteen, or in the round after
abbrev pub next_epoch : ℕ → ℕ → ℕ
next_epoch promised cabinet = promised - owner_of promised + cabinet + cond (nat_lt (owner_of promised) cabinet) 0 16

-- that epoch, or 37 where it has more than 32 bits
abbrev pub epoch_answer : ℕ → ℕ → Result ℕ Refusal
epoch_answer promised cabinet = cond (nat_lt (next_epoch promised cabinet) (2 ^ 32)) (Ok (next_epoch promised cabinet)) (Err EpochsSpent)

-- e is the smallest epoch above the promised one whose owner is the cabinet
pub record SmallestAbove (promised cabinet e : ℕ) : Type 0 where
  pub above : promised < e
  pub owned : owner_of e ≡ cabinet
  pub smallest : (other : ℕ) → promised < other → owner_of other ≡ cabinet → e ≤ other

-- the pair of accepted epoch and length (a, n) is later than (b, m), epoch first
abbrev pub later : ℕ × ℕ → ℕ × ℕ → Bool
later x y = nat_lt y.0 x.0 || (x.0 == y.0 && nat_lt y.1 x.1)
