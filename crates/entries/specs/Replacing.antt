-- What becomes of a journal's lists when an owner's list is replaced. Assumes nothing.
use Rattle.std.specs.Prelude.{ℕ, cond, ◌&&◌, List, length, Ok, Err, Result, ◌==◌, nat_le, nat_lt}
use Rattle.refusal.specs.declared.Refusal.{Refusal}
use Rattle.refusal.specs.declared.Refusal.TheVariants.{Full}
use Rattle.journal.specs.declared.Entry.{Entry}
use Rattle.journal.specs.Lists.{owned}

-- a replacement is refused where there is no such owner, or where the entries are more than the limit
abbrev pub replace_answer : ℕ → ℕ → ℕ → List Entry → Result (Unit {0}) Refusal
replace_answer owners limit o es = owned owners o (cond (nat_le (length es) limit) (Ok tt) (Err Full))

-- the lists after a replacement, refused or not: the entries as one owner's list
abbrev pub replace_lists : ℕ → ℕ → (ℕ → List Entry) → ℕ → List Entry → ℕ → List Entry
replace_lists owners limit ls o es p = cond (nat_lt o owners && nat_le (length es) limit && p == o) es (ls p)
