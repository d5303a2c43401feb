-- Sets of cabinets as masks: cabinet i is the bit worth 2^i. Assumes nothing.
use Rattle.std.specs.Prelude.{ℕ, zero, suc, ◌+◌, ◌/◌, ◌%◌, ◌^◌, Bool, cond, ◌==◌}

-- cabinet i is in the set
abbrev pub has : ℕ → ℕ → Bool
has set i = (set / 2 ^ i % 2) == 1

-- the weight of those below n that the test picks
unfoldable pub weigh : (ℕ → ℕ) → ℕ → (ℕ → Bool) → ℕ
weigh weight zero picks = 0
weigh weight (suc n) picks = weigh weight n picks + cond (picks n) (weight n) 0

-- how many below n the test picks
abbrev pub count : ℕ → (ℕ → Bool) → ℕ
count n picks = weigh (λ _. 1) n picks
