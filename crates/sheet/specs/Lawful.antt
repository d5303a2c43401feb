-- That a sheet is a journal. Assumes nothing.
use Rattle.std.specs.Prelude.{ℕ, ◌≤◌, length}
use Rattle.std.proofs.Common.{arith}
use Rattle.journal.specs.Lists.{Laws}
use Rattle.shelf.specs.Lawful.{owners_most, limit_least, limit_most, used_within, used_unowned}
use Rattle.sheet.specs.declared.Sheet.{Sheet}
use Rattle.sheet.specs.Meaning.{owners_of, limit_of, lists_of}

-- no list is longer than a row
pub lists_within : (s : Sheet) (p : ℕ) → length (lists_of s p) ≤ limit_of s
lists_within s p = let w = used_within s.rows p in omega arith

-- a sheet is a journal
pub sheet_laws : Laws owners_of limit_of lists_of
sheet_laws =
    record { owners_most = λ s. owners_most s.rows; limit_least = λ s. limit_least s.rows; limit_most = λ s. limit_most s.rows; within = lists_within; unowned = λ s. used_unowned s.rows }
