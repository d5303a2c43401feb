-- The majority rule. Assumes nothing.
use Rattle.std.specs.Prelude.{ℕ, ◌*◌, Bool, bit_and, nat_lt}
use Rattle.quorum.specs.Sets.{has, count}

-- how many of the sixteen cabinets are in the set
abbrev pub size_of : ℕ → ℕ
size_of set = count 16 (has set)

-- the set holds more than half of the members
abbrev pub majority : ℕ → ℕ → Bool
majority members set = nat_lt (size_of members) (2 * size_of (bit_and set members))
