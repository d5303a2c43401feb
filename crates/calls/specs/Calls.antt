-- The calls on a station: the order of their checks, and what they do. Assumes nothing.
use Rattle.std.specs.Prelude.{ℕ, Bool, not, Ok, Option, Result, ◌==◌, slice_index}
use Rattle.refusal.specs.declared.Refusal.{Refusal}
use Rattle.refusal.specs.declared.Refusal.TheVariants.{EmptyTray}
use Rattle.refusal.specs.Answers.{and_then, unless}
use Rattle.orders.specs.Kinds.{code_answer}
use Rattle.entries.specs.Histories.{codes_of}
use Rattle.cabinet.specs.declared.Cabinet.{Cabinet}
use Rattle.cabinet.specs.declared.Reply.TheVariants.{Nothing}
use Rattle.cabinet.specs.Records.{stop_step, start_step}
use Rattle.cabinet.specs.Steps.{Outcome, leaves}
use Rattle.acts.specs.Acts.{stand_step, refresh_step, submit_step, change_step}
use Rattle.reactions.specs.Reactions.{hear_step}
use Rattle.calls.specs.Stations.{Station, cabinets, cabinet_at, tray_at, named, has_tray, ready_at, station_after}

-- what a kind of order means: which orders are proper, their codes, and the orders that numbers code
pub record Kind (A : Type 0) : Type 0 where
  pub proper : A → Bool
  pub encode : A → ℕ
  pub decode : ℕ → Option A

-- a kind of these meanings
abbrev pub kind_of : {A : Type 0} → (A → Bool) → (A → ℕ) → (ℕ → Option A) → Kind A
kind_of proper encode decode = record { proper = proper; encode = encode; decode = decode }

-- whether a number codes an order of the kind
abbrev pub codes : {A : Type 0} → Kind A → ℕ → Bool
codes k = codes_of k.decode

-- a cabinet's own step, behind the checks of every call that may write into a tray: 1, 2, 3, 6, 8
abbrev pub acting : (ℕ → Bool) → Station → ℕ → ℕ → Outcome → Outcome
acting codes s i k step = and_then (named s i) (λ _. and_then (has_tray s k) (λ _. and_then (ready_at codes s i) (λ _. step)))

-- a step that concerns the record alone, behind 1 and 2
abbrev pub switching : Station → ℕ → Result Cabinet Refusal → Outcome
switching s i step = and_then (named s i) (λ _. and_then step (λ d. Ok (leaves d (s.lists i) Nothing)))

-- cabinet i stands, and writes into tray k
abbrev pub stand_call : (ℕ → Bool) → (ℕ → ℕ → Bool) → Station → ℕ → ℕ → Outcome
stand_call codes quorum s i k = acting codes s i k (stand_step quorum i (s.lists i) (cabinet_at s i))

-- cabinet i is submitted an order
abbrev pub submit_call : {A : Type 0} → Kind A → (ℕ → ℕ → Bool) → Station → ℕ → A → ℕ → Outcome
submit_call kind quorum s i order k =
    acting (codes kind) s i k (submit_step quorum s.limit i (s.lists i) (cabinet_at s i) (code_answer (kind.proper order) (kind.encode order)))

-- cabinet i changes the members
abbrev pub change_call : (ℕ → Bool) → (ℕ → ℕ → Bool) → Station → ℕ → ℕ → ℕ → ℕ → Outcome
change_call codes quorum s i version members k =
    acting codes s i k (change_step quorum s.limit (cabinets s) i (s.lists i) (cabinet_at s i) version members)

-- cabinet i writes its history again
abbrev pub refresh_call : (ℕ → Bool) → Station → ℕ → ℕ → Outcome
refresh_call codes s i k = acting codes s i k (refresh_step (s.lists i) (cabinet_at s i))

-- a tray's frame is handed to cabinet i, whose answer goes into another tray or the same: 1, 2, 3 for either, 5 for an empty tray, 6, 8
abbrev pub hand_call : (ℕ → Bool) → (ℕ → ℕ → Bool) → Station → ℕ → ℕ → ℕ → Outcome
hand_call codes quorum s from i to =
    and_then (named s i) (λ _.
    and_then (has_tray s from) (λ _.
    and_then (has_tray s to) (λ _.
    and_then (unless (not (slice_index (tray_at s from) 0 == 0)) EmptyTray) (λ _.
    and_then (ready_at codes s i) (λ _.
    hear_step codes quorum (cabinets s) s.limit i (s.lists i) (cabinet_at s i) (tray_at s from))))))

-- cabinet i stops
abbrev pub stop_call : Station → ℕ → Outcome
stop_call s i = switching s i (stop_step (cabinet_at s i))

-- cabinet i starts
abbrev pub start_call : Station → ℕ → Outcome
start_call s i = switching s i (start_step (cabinet_at s i))

-- the calls of a service
pub data Call (A : Type 0) : Type 0 where
  submit : (cabinet : ℕ) → (order : A) → (tray : ℕ) → Call A
  change : (cabinet version members tray : ℕ) → Call A
  stand : (cabinet tray : ℕ) → Call A
  refresh : (cabinet tray : ℕ) → Call A
  hand : (from cabinet to : ℕ) → Call A
  stop : (cabinet : ℕ) → Call A
  start : (cabinet : ℕ) → Call A

-- the cabinet that a call names
abbrev pub cabinet_of : {A : Type 0} → Call A → ℕ
cabinet_of (submit i order k) = i
cabinet_of (change i version members k) = i
cabinet_of (stand i k) = i
cabinet_of (refresh i k) = i
cabinet_of (hand from i to) = i
cabinet_of (stop i) = i
cabinet_of (start i) = i

-- the tray that a call may write into; stop and start write none
abbrev pub tray_of : {A : Type 0} → Call A → ℕ
tray_of (submit i order k) = k
tray_of (change i version members k) = k
tray_of (stand i k) = k
tray_of (refresh i k) = k
tray_of (hand from i to) = to
tray_of (stop i) = 0
tray_of (start i) = 0

-- what becomes of the cabinet that a call names
abbrev pub outcome : {A : Type 0} → Kind A → (ℕ → ℕ → Bool) → Station → Call A → Outcome
outcome kind quorum s (submit i order k) = submit_call kind quorum s i order k
outcome kind quorum s (change i version members k) = change_call (codes kind) quorum s i version members k
outcome kind quorum s (stand i k) = stand_call (codes kind) quorum s i k
outcome kind quorum s (refresh i k) = refresh_call (codes kind) s i k
outcome kind quorum s (hand from i to) = hand_call (codes kind) quorum s from i to
outcome kind quorum s (stop i) = stop_call s i
outcome kind quorum s (start i) = start_call s i

-- the station after a call
abbrev pub after_call : {A : Type 0} → Kind A → (ℕ → ℕ → Bool) → Station → Call A → Station
after_call kind quorum s c = station_after s (cabinet_of c) (tray_of c) (outcome kind quorum s c)
