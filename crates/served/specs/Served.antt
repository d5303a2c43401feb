-- One service, call by call: two leaders, two orders and a change of members. Assumes nothing.
use Rattle.std.specs.Prelude.{◌≡◌, ℕ, ◌<◌, true, false, List, [], ◌∷◌, ◌++◌, length, replicate, pos, negsuc, is_ok, Ok}
use Rattle.orders.specs.declared.SetPoint.{SetPoint}
use Rattle.orders.specs.SetPoints.{proper, encode, decode}
use Rattle.quorum.specs.MajorityRule.{majority}
use Rattle.journal.specs.declared.Entry.{Entry}
use Rattle.journal.specs.declared.EntryKind.TheVariants.{Configuration, Order}
use Rattle.cabinet.specs.Steps.{Outcome}
use Rattle.calls.specs.Stations.{Station, station, no_cabinet, cabinet_at, found_answer, founded}
use Rattle.calls.specs.Calls.{Kind, kind_of, Call, submit, change, stand, refresh, hand, stop, start, outcome}
use Rattle.agreement.specs.Services.{committed, moment, call_at}

-- the kind of its orders: set points
abbrev pub points : Kind SetPoint
points = kind_of proper encode decode

-- the first order: effect 2, quantity 4, value -5
abbrev pub first_order : SetPoint
first_order = record { effect = 2; quantity = 4; value = negsuc 4 }

-- the second order: effect 1, quantity 1, value 0
abbrev pub second_order : SetPoint
second_order = record { effect = 1; quantity = 1; value = pos 0 }

-- its parts: three cabinets, lists of at most four entries, and one tray
abbrev pub parts : Station
parts = station (replicate 3 no_cabinet) 3 4 (λ _. []) (replicate 88 0)

-- cabinet 0 stands, cabinet 1 promises, and cabinet 0 wins; cabinet 1 accepts its history
abbrev pub electing : List (Call SetPoint)
electing = stand 0 0 ∷ hand 0 1 0 ∷ hand 0 0 0 ∷ hand 0 1 0 ∷ []

-- cabinet 0 is submitted the first order, cabinet 1 acknowledges it, cabinet 0 commits it, and cabinet 1 hears so
abbrev pub ordering : List (Call SetPoint)
ordering = submit 0 first_order 0 ∷ hand 0 1 0 ∷ hand 0 0 0 ∷ hand 0 1 0 ∷ []

-- cabinet 2 is brought up to date
abbrev pub refreshing : List (Call SetPoint)
refreshing = refresh 0 0 ∷ hand 0 2 0 ∷ hand 0 0 0 ∷ []

-- cabinet 0 changes the members to cabinets 1 and 2, cabinet 1 acknowledges that, and cabinet 0 stops
abbrev pub changing : List (Call SetPoint)
changing = change 0 1 6 0 ∷ hand 0 1 0 ∷ hand 0 0 0 ∷ stop 0 ∷ []

-- cabinet 1 stands, cabinet 2 promises, and cabinet 1 wins; cabinet 2 accepts its history, and cabinet 1 commits the change
abbrev pub electing_again : List (Call SetPoint)
electing_again = stand 1 0 ∷ hand 0 2 0 ∷ hand 0 1 0 ∷ hand 0 2 0 ∷ hand 0 1 0 ∷ []

-- cabinet 1 is submitted the second order, cabinet 2 acknowledges it, cabinet 1 commits it, and cabinet 2 hears so
abbrev pub ordering_again : List (Call SetPoint)
ordering_again = submit 1 second_order 0 ∷ hand 0 2 0 ∷ hand 0 1 0 ∷ hand 0 2 0 ∷ []

-- cabinet 0 starts, and is brought up to date
abbrev pub returning : List (Call SetPoint)
returning = start 0 ∷ refresh 1 0 ∷ hand 0 0 0 ∷ []

-- its calls: 4, 4, 3, 4, 5, 4 and 3
abbrev pub calls : List (Call SetPoint)
calls = electing ++ ordering ++ refreshing ++ changing ++ electing_again ++ ordering_again ++ returning

-- the station after the first n calls
abbrev pub after : ℕ → Station
after n = moment points majority (founded parts 7) calls n

-- what becomes of the call after the first n
abbrev pub next : ℕ → Outcome
next n = outcome points majority (after n) (call_at points majority (founded parts 7) calls n)

-- cabinet i leads an epoch
pub record Leads (s : Station) (i epoch : ℕ) : Type 0 where
  pub role : (cabinet_at s i).role ≡ 2
  pub promised : (cabinet_at s i).promised ≡ epoch

-- the founding configuration: cabinets 0, 1 and 2
abbrev pub founders : Entry
founders = record { epoch = 0; kind = Configuration; body = 7 }

-- the first order, entered at epoch 16
abbrev pub first : Entry
first = record { epoch = 16; kind = Order; body = 2220498092027 }

-- the change to cabinets 1 and 2, entered at epoch 16
abbrev pub changed : Entry
changed = record { epoch = 16; kind = Configuration; body = 6 }

-- the second order, entered at epoch 17
abbrev pub second : Entry
second = record { epoch = 17; kind = Order; body = 1103806595072 }

-- what comes of the service
pub record Served : Type 0 where
  -- the founding by cabinets 0, 1 and 2 is accepted
  pub founding_accepted : found_answer majority parts 7 ≡ Ok tt
  -- every call is accepted
  pub calls_accepted : (n : ℕ) → n < length calls → is_ok (next n) ≡ true
  -- after 3 calls cabinet 0 leads epoch 16
  pub first_leader : Leads (after 3) 0 16
  -- after 7 calls cabinet 0 has committed the first order
  pub order_committed : committed (after 7) 0 ≡ founders ∷ first ∷ []
  -- after 8 calls cabinet 1 has too
  pub order_heard : committed (after 8) 1 ≡ founders ∷ first ∷ []
  -- after 14 calls cabinet 0 holds the change
  pub change_held : (after 14).lists 0 ≡ founders ∷ first ∷ changed ∷ []
  -- and so does cabinet 1
  pub change_copied : (after 14).lists 1 ≡ founders ∷ first ∷ changed ∷ []
  -- but the change waits, since of the new members cabinet 1 alone holds it
  pub change_waits : committed (after 14) 0 ≡ founders ∷ first ∷ []
  -- after 15 calls cabinet 0 is stopped
  pub stopped : (cabinet_at (after 15) 0).running ≡ false
  -- after 18 calls cabinet 1 leads epoch 17
  pub next_leader : Leads (after 18) 1 17
  -- after 20 calls cabinet 1 has committed the change
  pub change_committed : committed (after 20) 1 ≡ founders ∷ first ∷ changed ∷ []
  -- after 24 calls the new members have committed the second order: cabinet 1
  pub second_committed : committed (after 24) 1 ≡ founders ∷ first ∷ changed ∷ second ∷ []
  -- and cabinet 2
  pub second_heard : committed (after 24) 2 ≡ founders ∷ first ∷ changed ∷ second ∷ []
  -- while the stopped cabinet 0 has what it had
  pub second_missed : committed (after 24) 0 ≡ founders ∷ first ∷ []
  -- after all 27 calls cabinet 0 has the same committed list
  pub returned : committed (after 27) 0 ≡ founders ∷ first ∷ changed ∷ second ∷ []
