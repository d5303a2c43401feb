-- The lists that a history may hold: what frames and a cabinet's own list are judged by. Assumes nothing.
use Rattle.std.specs.Prelude.{ℕ, ◌^◌, Bool, true, false, ◌&&◌, List, [], ◌∷◌, length, is_some, Option, ◌==◌, nat_le, nat_lt, slice_index_or}
use Rattle.orders.specs.Kinds.{between as in_range}
use Rattle.journal.specs.declared.Entry.{Entry}
use Rattle.journal.specs.declared.EntryKind.{EntryKind}
use Rattle.journal.specs.declared.EntryKind.TheVariants.{Configuration, Order}
use Rattle.journal.specs.Entries.{members_of, blank}

-- whether a number codes an order of the kind whose reading is given
abbrev pub codes_of : {A : Type 0} → (ℕ → Option A) → ℕ → Bool
codes_of decode n = is_some (decode n)

-- whether a kind is that of a configuration
abbrev pub is_configuration : EntryKind → Bool
is_configuration Configuration = true
is_configuration Order = false

-- whether a body names members and nothing else: a nonzero mask of the table's cabinets
abbrev pub names_members : ℕ → ℕ → Bool
names_members cabinets body = members_of body == body && nat_lt 0 (members_of body) && nat_lt (members_of body) (2 ^ cabinets)

-- whether a body is one of its kind: members, or the 64-bit code of an order
abbrev pub body_fits : (ℕ → Bool) → ℕ → EntryKind → ℕ → Bool
body_fits codes cabinets Configuration body = names_members cabinets body
body_fits codes cabinets Order body = nat_lt body (2 ^ 64) && codes body

-- whether an entry may follow one of epoch `last` in a list whose epochs go up to `most`
abbrev pub entry_fits : (ℕ → Bool) → ℕ → ℕ → ℕ → Entry → Bool
entry_fits codes cabinets most last e = nat_le last e.epoch && nat_le e.epoch most && body_fits codes cabinets e.kind e.body

-- whether all of these entries may follow one of epoch `last`
abbrev pub goes_on : (ℕ → Bool) → ℕ → ℕ → ℕ → List Entry → Bool
goes_on codes cabinets most last [] = true
goes_on codes cabinets most last (e ∷ es) = entry_fits codes cabinets most last e && goes_on codes cabinets most e.epoch es

-- whether an entry is a configuration of epoch 0
abbrev pub founding : Entry → Bool
founding e = is_configuration e.kind && e.epoch == 0

-- whether a list opens with one
abbrev pub opens : List Entry → Bool
opens es = nat_lt 0 (length es) && founding (slice_index_or es 0 blank)

-- whether the entries of a list are without fault, none of them above the epoch `most`
abbrev pub faultless : (ℕ → Bool) → ℕ → ℕ → List Entry → Bool
faultless codes cabinets most es = opens es && goes_on codes cabinets most 0 es

-- whether a history of the epoch `most` may hold the list
abbrev pub may_hold : (ℕ → Bool) → ℕ → ℕ → ℕ → List Entry → Bool
may_hold codes cabinets limit most es = in_range 1 limit (length es) && faultless codes cabinets most es
