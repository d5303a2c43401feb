-- The rule by weights and groups. Assumes nothing.
use Rattle.std.specs.Prelude.{ℕ, ◌*◌, Bool, ◌&&◌, ◌==◌, bit_and, nat_lt, slice_index_or}
use Rattle.quorum.specs.Sets.{has, weigh, count}
use Rattle.quorum.specs.declared.Group.{Group}
use Rattle.quorum.specs.declared.Group.TheVariants.{Zero, One, Two, Three}
use Rattle.quorum.specs.declared.Share.{Share}
use Rattle.quorum.specs.declared.Groups.{Groups}

-- the number of a group
abbrev pub group_number : Group → ℕ
group_number Zero = 0
group_number One = 1
group_number Two = 2
group_number Three = 3

-- the share of cabinet i; past the sixteen cabinets, none
abbrev pub share_of : Groups → ℕ → Share
share_of rule i = slice_index_or rule.shares i (record { weight = 0; group = Zero })

-- cabinet i belongs to group g
abbrev pub belongs : Groups → ℕ → ℕ → Bool
belongs rule g i = group_number (share_of rule i).group == g

-- the weight of a set's cabinets in group g
abbrev pub weight_in : Groups → ℕ → ℕ → ℕ
weight_in rule g set = weigh (λ i. (share_of rule i).weight) 16 (λ i. has set i && belongs rule g i)

-- the members have weight in group g
abbrev pub counts : Groups → ℕ → ℕ → Bool
counts rule members g = nat_lt 0 (weight_in rule g members)

-- the set has more than half of the members' weight in group g
abbrev pub won : Groups → ℕ → ℕ → ℕ → Bool
won rule members set g = nat_lt (weight_in rule g members) (2 * weight_in rule g (bit_and set members))

-- the set wins more than half of the groups in which the members have weight
abbrev pub by_groups : Groups → ℕ → ℕ → Bool
by_groups rule members set = nat_lt (count 4 (counts rule members)) (2 * count 4 (won rule members set))
