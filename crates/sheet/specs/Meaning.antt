-- What a sheet means: its owners, limit and lists. Assumes nothing.
use Rattle.std.specs.Prelude.{ℕ, List}
use Rattle.journal.specs.declared.Entry.{Entry}
use Rattle.shelf.specs.Rows.{shelf_owners, shelf_limit, used_of}
use Rattle.sheet.specs.declared.Sheet.{Sheet}

-- how many owners a sheet has
abbrev pub owners_of : Sheet → ℕ
owners_of s = shelf_owners s.rows

-- a sheet's limit
abbrev pub limit_of : Sheet → ℕ
limit_of s = shelf_limit s.rows

-- the list of an owner: its entries that are in use
abbrev pub lists_of : Sheet → ℕ → List Entry
lists_of s = used_of s.rows
