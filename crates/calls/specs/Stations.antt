-- A station: its parts, their bounds, and what a step of one cabinet leaves of it. Assumes nothing.
use Rattle.std.specs.Prelude.{ℕ, ◌+◌, ◌*◌, ◌/◌, ◌%◌, Bool, true, false, cond, ◌&&◌, List, [], ◌∷◌, length, replicate, Some, None, Ok, Err, Option, Result, ◌==◌, nat_le, nat_lt, slice_index_or, slice_set}
use Rattle.std.specs.List.{between}
use Rattle.refusal.specs.declared.Refusal.{Refusal}
use Rattle.refusal.specs.declared.Refusal.TheVariants.{OutOfBounds, NoCabinet, NoTray, BadFounders}
use Rattle.refusal.specs.Answers.{and_then, unless}
use Rattle.orders.specs.Kinds.{between as in_range}
use Rattle.journal.specs.declared.Entry.{Entry}
use Rattle.journal.specs.declared.EntryKind.TheVariants.{Configuration}
use Rattle.entries.specs.Histories.{names_members}
use Rattle.frames.specs.Letters.{Letter}
use Rattle.writing.specs.Speaking.{letter_after, spoken_into}
use Rattle.writing.specs.Writing.{over}
use Rattle.cabinet.specs.declared.Cabinet.{Cabinet}
use Rattle.cabinet.specs.Records.{none_acknowledged}
use Rattle.cabinet.specs.Steps.{Outcome, lists_by}
use Rattle.receiving.specs.Readiness.{ready, tray_length}

-- a station but for its rule: the table of records, the journal's owners, limit and lists, and the bytes of all trays
pub record Station : Type 0 where
  pub table : List Cabinet
  pub owners : ℕ
  pub limit : ℕ
  pub lists : ℕ → List Entry
  pub trays : List ℕ

-- a station of these parts
abbrev pub station : List Cabinet → ℕ → ℕ → (ℕ → List Entry) → List ℕ → Station
station table owners limit lists trays = record { table = table; owners = owners; limit = limit; lists = lists; trays = trays }

-- how many cabinets are in the table
abbrev pub cabinets : Station → ℕ
cabinets s = length s.table

-- what is read where the table has no record
abbrev pub no_cabinet : Cabinet
no_cabinet = record { promised = 0; accepted = 0; mark = 0; role = 0; gathered = 0; acknowledged = []; running = false }

-- the record of cabinet i
abbrev pub cabinet_at : Station → ℕ → Cabinet
cabinet_at s i = slice_index_or s.table i no_cabinet

-- how many trays there are
abbrev pub tray_count : Station → ℕ
tray_count s = length s.trays / tray_length s.limit

-- where tray k begins
abbrev pub tray_start : Station → ℕ → ℕ
tray_start s k = k * tray_length s.limit

-- the bytes of tray k
abbrev pub tray_at : Station → ℕ → List ℕ
tray_at s k = between (tray_start s k) (tray_start s k + tray_length s.limit) s.trays

-- every part is within its bounds: 1 to 16 cabinets, an owner for each, a limit of 2 to 4000, and 1 to 64 whole trays
abbrev pub in_bounds : Station → Bool
in_bounds s =
    in_range 1 16 (cabinets s) && nat_le (cabinets s) s.owners && in_range 2 4000 s.limit
    && length s.trays % tray_length s.limit == 0 && in_range 1 64 (tray_count s)

-- 1 for a part outside its bounds, 2 for a cabinet that is not in the table
abbrev pub named : Station → ℕ → Result (Unit {0}) Refusal
named s i = and_then (unless (in_bounds s) OutOfBounds) (λ _. unless (nat_lt i (cabinets s)) NoCabinet)

-- 3 for a tray that there is not
abbrev pub has_tray : Station → ℕ → Result (Unit {0}) Refusal
has_tray s k = unless (nat_lt k (tray_count s)) NoTray

-- 6 for a stopped cabinet, 8 for one that is not sound
abbrev pub ready_at : (ℕ → Bool) → Station → ℕ → Result (Unit {0}) Refusal
ready_at codes s i = ready codes (cabinets s) s.limit i (s.lists i) (cabinet_at s i)

-- the trays once a letter is written into tray k; as they were, where there is none
abbrev pub trays_after : Station → ℕ → Option Letter → List ℕ
trays_after s k None = s.trays
trays_after s k (Some t) = over s.trays (tray_start s k) (spoken_into (tray_at s k) (Some t))

-- the station after a call of cabinet i, with what the cabinet says in tray k; as it was, where the call is refused
abbrev pub station_after : Station → ℕ → ℕ → Outcome → Station
station_after s i k (Ok step) =
    station (slice_set s.table i step.cabinet) s.owners s.limit (lists_by s.lists i (Ok step)) (trays_after s k (letter_after i step))
station_after s i k (Err e) = s

-- the founding configuration: these members, at epoch 0
abbrev pub founding_entry : ℕ → Entry
founding_entry members = record { epoch = 0; kind = Configuration; body = members }

-- a cabinet as a founding leaves it: running, all zeros, and the founding entry committed
abbrev pub new_cabinet : Cabinet
new_cabinet = record { promised = 0; accepted = 0; mark = 1; role = 0; gathered = 0; acknowledged = none_acknowledged; running = true }

-- founding: 1 for a part outside its bounds; 4 for members that are none, not all in the table, or no quorum of themselves
abbrev pub found_answer : (ℕ → ℕ → Bool) → Station → ℕ → Result (Unit {0}) Refusal
found_answer quorum s members =
    and_then (unless (in_bounds s) OutOfBounds) (λ _. unless (names_members (cabinets s) members && quorum members members) BadFounders)

-- the station after an accepted founding: every cabinet new, every list the founding entry alone, all trays zero
abbrev pub founded : Station → ℕ → Station
founded s members =
    station (replicate (cabinets s) new_cabinet) s.owners s.limit
    (λ p. cond (nat_lt p (cabinets s)) (founding_entry members ∷ []) (s.lists p)) (replicate (length s.trays) 0)

-- the station after a founding; as it was, where the founding is refused
abbrev pub station_founded : Station → ℕ → Result (Unit {0}) Refusal → Station
station_founded s members (Ok _) = founded s members
station_founded s members (Err e) = s

-- what a founding answers: 0, and that it wrote no frame
abbrev pub found_reply : Result (Unit {0}) Refusal → Result (ℕ × ℕ) Refusal
found_reply (Ok _) = Ok (0, 0)
found_reply (Err e) = Err e
