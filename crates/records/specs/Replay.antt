-- What records stand for, and what each call on them answers and leaves. Assumes nothing.
use Rattle.std.specs.Prelude.{◌≡◌, ℕ, ◌+◌, ◌<◌, ◌≤◌, min, cond, ◌&&◌, List, [], ◌∷◌, ◌++◌, length, take, Some, None, Option, Ok, Err, fold, Result, ◌==◌, nat_lt, nat_le, slice_index_or}
use Rattle.refusal.specs.declared.Refusal.{Refusal}
use Rattle.refusal.specs.declared.Refusal.TheVariants.{NoPosition, NoTray}
use Rattle.journal.specs.declared.Entry.{Entry}
use Rattle.journal.specs.Entries.{blank}
use Rattle.records.specs.declared.Record.{Record}
use Rattle.records.specs.declared.Record.TheVariants.{Append, Keep}

-- what one record makes of the list before it: one entry more unless the list is full, or its front
abbrev pub step : ℕ → List Entry → Record → List Entry
step limit es (Append e) = cond (nat_lt (length es) limit) (es ++ e ∷ []) es
step limit es (Keep n) = take n es

-- how long a list of n entries is after one record
abbrev pub step_length : ℕ → ℕ → Record → ℕ
step_length limit n (Append e) = cond (nat_lt n limit) (n + 1) n
step_length limit n (Keep m) = min n m

-- the list that records stand for: what they leave when replayed from the first
abbrev pub replay : ℕ → List Record → List Entry
replay limit rs = fold (step limit) [] rs

-- the entry at a position of a list, or 50
abbrev pub entry_at : List Entry → ℕ → Result Entry Refusal
entry_at es i = cond (nat_lt i (length es)) (Ok (slice_index_or es i blank)) (Err NoPosition)

-- what a list of n entries has at a position after a record: the entry appended there, nothing where it was cut, else what it had
abbrev pub known_after : ℕ → ℕ → ℕ → Option Entry → Record → Option Entry
known_after limit n i known (Append e) = cond (n == i && nat_lt n limit) (Some e) known
known_after limit n i known (Keep m) = cond (nat_le m i) None known

-- a record added: how many first records then stand for the list with it; 3 and no change where there are not limit + 1 records
abbrev pub Pushed : ℕ → ℕ → Record → List Record → List Record → Result ℕ Refusal → Type 0
Pushed limit used made before after (Ok n) =
    (limit < length before) × (n ≤ length before) × (replay limit (take n after) ≡ step limit (replay limit (take used before)) made)
Pushed limit used made before after (Err e) = (length before ≤ limit) × (e ≡ NoTray) × (after ≡ before)
