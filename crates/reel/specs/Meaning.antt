-- What a reel means: its owners, limit and lists. Assumes nothing.
use Rattle.std.specs.Prelude.{ℕ, cond, ◌&&◌, List, ◌==◌, nat_lt}
use Rattle.journal.specs.declared.Entry.{Entry}
use Rattle.shelf.specs.declared.Shelf.{Shelf}
use Rattle.shelf.specs.Rows.{shelf_owners, shelf_limit, used_of}
use Rattle.records.specs.declared.Record.{Record}
use Rattle.records.specs.Replay.{step, replay}
use Rattle.reel.specs.declared.Reel.{Reel}

-- the lists after a record is added to one owner's, if there is such an owner
abbrev pub add_lists : ℕ → ℕ → (ℕ → List Entry) → ℕ → Record → ℕ → List Entry
add_lists owners limit ls o r p = cond (nat_lt o owners && p == o) (step limit (ls p) r) (ls p)

-- the lists that a shelf of records stands for: what those in use leave when replayed, nothing past the last owner
abbrev pub replays : Shelf Record 1 → ℕ → List Entry
replays s o = replay (shelf_limit s) (used_of s o)

-- how many owners a reel has
abbrev pub owners_of : Reel → ℕ
owners_of s = shelf_owners s.records

-- a reel's limit
abbrev pub limit_of : Reel → ℕ
limit_of s = shelf_limit s.records

-- the lists that a reel stands for
abbrev pub lists_of : Reel → ℕ → List Entry
lists_of s = replays s.records
