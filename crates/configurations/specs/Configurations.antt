-- Configurations along a list: the last before a position, versions, those in play, and what they elect and commit. Assumes nothing.
use Rattle.std.specs.Prelude.{ℕ, zero, suc, ◌+◌, ◌-◌, Bool, true, cond, not, ◌&&◌, ◌||◌, List, length, get_or, Ok, Err, Result, nat_le, slice_index_or}
use Rattle.refusal.specs.declared.Refusal.{Refusal}
use Rattle.refusal.specs.declared.Refusal.TheVariants.{NoPosition}
use Rattle.quorum.specs.Sets.{has}
use Rattle.journal.specs.declared.Entry.{Entry}
use Rattle.journal.specs.Entries.{members_of, blank}
use Rattle.journal.specs.Lists.{owned}
use Rattle.entries.specs.Histories.{is_configuration}

-- the entry at a position is a configuration
abbrev pub configures : List Entry → ℕ → Bool
configures l p = is_configuration (get_or l p blank).kind

-- the members that the entry at a position names
abbrev pub members_at : List Entry → ℕ → ℕ
members_at l p = members_of (get_or l p blank).body

-- where the last configuration among the first n entries stands; 0 where there is none, since a list opens with one
unfoldable pub last_before : List Entry → ℕ → ℕ
last_before l zero = 0
last_before l (suc n) = cond (configures l n) n (last_before l n)

-- the members after an entry, given those before it
abbrev pub members_after : Entry → ℕ → ℕ
members_after e before = cond (is_configuration e.kind) (members_of e.body) before

-- the members by the last configuration among the first n entries; none where there is no configuration
unfoldable pub members_before : List Entry → ℕ → ℕ
members_before l zero = 0
members_before l (suc n) = members_after (slice_index_or l n blank) (members_before l n)

-- how many of the first n entries are configurations, which is the version of the last of them
unfoldable pub version_before : List Entry → ℕ → ℕ
version_before l zero = 0
version_before l (suc n) = version_before l n + cond (configures l n) 1 0

-- the test holds of the members of each configuration among the n entries from a position on
unfoldable pub each_from : (ℕ → Bool) → List Entry → ℕ → ℕ → Bool
each_from test l from zero = true
each_from test l from (suc n) = each_from test l from n && (not (configures l (from + n)) || test (members_at l (from + n)))

-- the test holds of every configuration in play: from the last among the first mark entries to the last in the list
abbrev pub each_in_play : (ℕ → Bool) → List Entry → ℕ → Bool
each_in_play test l mark = each_from test l (last_before l mark) (length l - last_before l mark)

-- the set is a quorum of every configuration in play
abbrev pub elects : (ℕ → ℕ → Bool) → List Entry → ℕ → ℕ → Bool
elects quorum l mark set = each_in_play (λ members. quorum members set) l mark

-- the cabinet is in a configuration in play
abbrev pub in_play : List Entry → ℕ → ℕ → Bool
in_play l mark cabinet = not (each_in_play (λ members. not (has members cabinet)) l mark)

-- the set commits an entry: it is a quorum of the members before it, and of its own members too if it is a configuration
abbrev pub commits_entry : (ℕ → ℕ → Bool) → ℕ → Entry → ℕ → Bool
commits_entry quorum before e set = quorum before set && (not (is_configuration e.kind) || quorum (members_of e.body) set)

-- the set commits the entry at a position of a list
abbrev pub commits : (ℕ → ℕ → Bool) → List Entry → ℕ → ℕ → Bool
commits quorum l set p = commits_entry quorum (members_before l p) (slice_index_or l p blank) set

-- an answer about the first n entries of an owner's list: 2 where there is no such owner, 50 where the list is shorter
abbrev pub front_answer : {A : Type 0} → ℕ → (ℕ → List Entry) → ℕ → ℕ → A → Result A Refusal
front_answer owners ls o n answer = owned owners o (cond (nat_le n (length (ls o))) (Ok answer) (Err NoPosition))
