-- Counting over the four groups, one by one. Assumes nothing.
use Rattle.std.specs.Prelude.{◌≡◌, ℕ, Bool, List, [], ◌∷◌, ◌&&◌, bit_and, count_by, map}
use Rattle.std.proofs.Common.{arith}
use Rattle.quorum.specs.Sets.{has, weigh, count}
use Rattle.quorum.specs.GroupRule.{group_number, share_of, belongs, weight_in}
use Rattle.quorum.specs.declared.Group.{Group}
use Rattle.quorum.specs.declared.Group.TheVariants.{Zero, One, Two, Three}
use Rattle.quorum.specs.declared.Groups.{Groups}
use Rattle.quorum.specs.declared.by_groups.Standing.{Standing}

-- the four groups
abbrev pub groups : List Group
groups = Zero ∷ One ∷ Two ∷ Three ∷ []

-- how many groups pass a test of their numbers
abbrev pub passing : (ℕ → Bool) → ℕ
passing p = count_by (λ (g : Group). p (group_number g)) groups

-- it is as many as of the numbers below 4
pub four : (p : ℕ → Bool) → passing p ≡ count 4 p
unfolding weigh
four p = omega arith

-- the weights of those of a set's cabinets that are below n, in each group
abbrev pub weights_in : Groups → ℕ → ℕ → List ℕ
weights_in rule set n =
    map (λ g. weigh (λ i. (share_of rule i).weight) n (λ i. has set i && belongs rule (group_number g) i)) groups

-- how a set of the members stands in each group: the members' weight there, and its own
abbrev pub standings : Groups → ℕ → ℕ → List Standing
standings rule members set =
    map (λ g. record { whole = weight_in rule (group_number g) members; part = weight_in rule (group_number g) (bit_and set members) }) groups
