-- The laws of quorum rules. Election and commitment each have a quorum test, from the member set and a set of cabinets;
-- today's rules answer both by one test. Assumes nothing.
use Rattle.std.specs.Prelude.{◌≡◌, ℕ, Bool, true, bit_and}
use Rattle.quorum.specs.Sets.{has}

-- only members count: cabinets outside the members change no answer
abbrev pub MembersCount : (ℕ → ℕ → Bool) → Type 0
MembersCount quorum = (members set : ℕ) → quorum members (bit_and set members) ≡ quorum members set

-- a quorum with cabinets added is still one
abbrev pub Grows : (ℕ → ℕ → Bool) → Type 0
Grows quorum =
    (members set larger : ℕ) → ((i : ℕ) → has set i ≡ true → has larger i ≡ true) → quorum members set ≡ true → quorum members larger ≡ true

-- a set that elects and a set that commits, of the same members, share a member
abbrev pub ShareMember : (ℕ → ℕ → Bool) → (ℕ → ℕ → Bool) → Type 0
ShareMember elects commits =
    (members a b : ℕ) → elects members a ≡ true → commits members b ≡ true → (i : ℕ) × (has members i ≡ true) × (has a i ≡ true) × (has b i ≡ true)
