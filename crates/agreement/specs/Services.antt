-- What is promised of every service: committed lists never disagree. Assumes nothing.
use Rattle.std.specs.Prelude.{◌≡◌, ℕ, ◌<◌, ◌≤◌, Bool, true, false, ◌⊎◌, List, [], ◌∷◌, ◌++◌, length, get_or, take, Some, None, Ok, Err, Option, slice_index_or}
use Rattle.journal.specs.declared.Entry.{Entry}
use Rattle.journal.specs.declared.EntryKind.TheVariants.{Configuration, Order}
use Rattle.journal.specs.Entries.{blank, members_of}
use Rattle.frames.specs.Letters.{Letter, entry}
use Rattle.writing.specs.Speaking.{letter_by, letter_after}
use Rattle.cabinet.specs.Steps.{Outcome}
use Rattle.calls.specs.Stations.{Station, cabinets, cabinet_at, found_answer, founded}
use Rattle.calls.specs.Calls.{Kind, Call, submit, change, stand, refresh, hand, stop, start, cabinet_of, outcome, after_call}

-- one list is the beginning of another
abbrev pub Begins : List Entry → List Entry → Type 0
Begins l m = (rest : List Entry) × (l ++ rest ≡ m)

-- a cabinet's committed list, running or stopped: the first mark entries of its list
abbrev pub committed : Station → ℕ → List Entry
committed s i = take (cabinet_at s i).mark (s.lists i)

-- the station after these calls, one after another
abbrev pub after_calls : {A : Type 0} → Kind A → (ℕ → ℕ → Bool) → Station → List (Call A) → Station
after_calls kind quorum s [] = s
after_calls kind quorum s (c ∷ cs) = after_calls kind quorum (after_call kind quorum s c) cs

-- the letter that a call writes into its tray, if it writes one
abbrev pub written_by : ℕ → Outcome → Option Letter
written_by i (Ok step) = letter_after i step
written_by i (Err e) = None

-- an entry reads back as what a call named: the order of a submit, the members of a change
abbrev pub ReadsAs : {A : Type 0} → Kind A → Call A → Entry → Type 0
ReadsAs kind (submit i order k) e = (e.kind ≡ Order) × (kind.decode e.body ≡ Some order)
ReadsAs kind (change i version members k) e = (e.kind ≡ Configuration) × (members_of e.body ≡ members)
ReadsAs kind (stand i k) e = ⊥
ReadsAs kind (refresh i k) e = ⊥
ReadsAs kind (hand from i to) e = ⊥
ReadsAs kind (stop i) e = ⊥
ReadsAs kind (start i) e = ⊥

-- whether a call enters what it names, once it is accepted
abbrev pub enters : {A : Type 0} → Call A → Bool
enters (submit i order k) = true
enters (change i version members k) = true
enters (stand i k) = false
enters (refresh i k) = false
enters (hand from i to) = false
enters (stop i) = false
enters (start i) = false

-- an accepted submit or change enters at the epoch and the position in the frame that it writes
pub record Entered {A : Type 0} (kind : Kind A) (quorum : ℕ → ℕ → Bool) (s : Station) (c : Call A) (epoch position : ℕ) : Type 0 where
  pub is_entering : enters c ≡ true
  pub mark : ℕ
  pub what : Entry
  pub frame : written_by (cabinet_of c) (outcome kind quorum s c) ≡ Some (letter_by (cabinet_of c) epoch (entry position mark what))

-- a service: a station that a founding was accepted for, and the calls that came then, in any order and number, refused ones among them
module _ {A : Type 0} (kind : Kind A) (quorum : ℕ → ℕ → Bool) (founding : Station) (calls : List (Call A)) where
  -- the station at a moment: once so many calls have been made
  abbrev pub moment : ℕ → Station
  moment n = after_calls kind quorum founding (take n calls)

  -- the call after a moment
  abbrev pub call_at : ℕ → Call A
  call_at n = slice_index_or calls n (start 0)

  -- by a moment, exactly one call has entered at an entry's epoch and this position, namely that entry, and it named what the entry reads back as
  pub record EnteredOnce (n position : ℕ) (e : Entry) : Type 0 where
    pub by_call : ℕ
    pub by_then : by_call < n
    pub made : by_call < length calls
    pub entered : Entered kind quorum (moment by_call) (call_at by_call) e.epoch position
    pub same : entered.what ≡ e
    pub reads_back : ReadsAs kind (call_at by_call) e
    pub no_other : (k : ℕ) → k < n → k < length calls → Entered kind quorum (moment k) (call_at k) e.epoch position → k ≡ by_call

  -- what is promised of the service, of all its cabinets and moments
  pub record NeverDisputed : Type 0 where
    -- of two committed lists one is the beginning of the other
    pub agree : (m n i j : ℕ) → i < cabinets founding → j < cabinets founding
        → Begins (committed (moment m) i) (committed (moment n) j) ⊎ Begins (committed (moment n) j) (committed (moment m) i)
    -- no committed list gets shorter
    pub kept : (m n i : ℕ) → m ≤ n → i < cabinets founding → Begins (committed (moment m) i) (committed (moment n) i)
    -- each committed entry after the founding one was entered by exactly one accepted submit or change
    pub entered_once : (n i p : ℕ) → i < cabinets founding → 1 ≤ p → p < length (committed (moment n) i)
        → EnteredOnce n p (slice_index_or (committed (moment n) i) p blank)
    -- along a committed list the epochs never fall
    pub epochs_rise : (n i p q : ℕ) → i < cabinets founding → p ≤ q → q < length (committed (moment n) i)
        → (get_or (committed (moment n) i) p blank).epoch ≤ (get_or (committed (moment n) i) q blank).epoch

-- on these parts, every service is without dispute, whatever members found it and whatever calls come
abbrev pub Agreement : {A : Type 0} → Kind A → (ℕ → ℕ → Bool) → Station → Type 0
Agreement {A} kind quorum s =
    (members : ℕ) → found_answer quorum s members ≡ Ok tt → (calls : List (Call A)) → NeverDisputed kind quorum (founded s members) calls
