-- What an entry's kind and body stand for: what the contracts on entries cite. Assumes nothing.
use Rattle.std.specs.Prelude.{ℕ, ◌%◌, cond, Ok, Err, Result, ◌==◌}
use Rattle.journal.specs.declared.EntryKind.{EntryKind}
use Rattle.journal.specs.declared.EntryKind.TheVariants.{Configuration, Order}
use Rattle.journal.specs.declared.UnknownKind.{UnknownKind}
use Rattle.journal.specs.declared.Entry.{Entry}

-- the number by which frames and people know an entry's kind
abbrev pub kind_number : EntryKind → ℕ
kind_number Configuration = 1
kind_number Order = 2

-- the kind of that number, which may be of none
abbrev pub kind_numbered : ℕ → Result EntryKind UnknownKind
kind_numbered n = cond (n == 1) (Ok Configuration) (cond (n == 2) (Ok Order) (Err (record { 0 = n })))

-- the members that a configuration's body names: cabinet i is the bit worth 2 to the power i
abbrev pub members_of : ℕ → ℕ
members_of body = body % 65536

-- a configuration of these members, at an epoch
abbrev pub configuration : ℕ → ℕ → Entry
configuration epoch members = record { epoch = epoch; kind = Configuration; body = members }

-- what lies at a position that no list has
abbrev pub blank : Entry
blank = record { epoch = 0; kind = Configuration; body = 0 }
