-- That a reel is a journal. Assumes nothing.
use Rattle.std.specs.Prelude.{◌≡◌, ℕ, ◌≤◌, [], length}
use Rattle.std.proofs.Common.{ap}
use Rattle.journal.specs.Lists.{Laws}
use Rattle.shelf.specs.Rows.{used_of}
use Rattle.shelf.specs.Lawful.{owners_most, limit_least, limit_most, used_unowned}
use Rattle.records.specs.Replay.{replay}
use Rattle.records.proofs.Steps.{replay_within}
use Rattle.reel.specs.declared.Reel.{Reel}
use Rattle.reel.specs.Meaning.{owners_of, limit_of, lists_of}

-- no list of a reel is longer than its limit
pub lists_within : (s : Reel) (p : ℕ) → length (lists_of s p) ≤ limit_of s
lists_within s p = replay_within (limit_of s) (used_of s.records p)

-- past the last owner there is no list
pub lists_unowned : (s : Reel) (p : ℕ) → owners_of s ≤ p → lists_of s p ≡ []
lists_unowned s p h = ap (replay (limit_of s)) (used_unowned s.records p h)

-- a reel is a journal
pub reel_laws : Laws owners_of limit_of lists_of
reel_laws =
    record { owners_most = λ s. owners_most s.records; limit_least = λ s. limit_least s.records; limit_most = λ s. limit_most s.records; within = lists_within; unowned = lists_unowned }
