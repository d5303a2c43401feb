-- What a cabinet does of itself: stand, enter orders and changes of members, refresh. Assumes nothing.
use Rattle.std.specs.Prelude.{ℕ, ◌+◌, ◌-◌, Bool, cond, List, [], ◌∷◌, ◌++◌, length, Ok, Err, Result, ◌==◌, nat_lt}
use Rattle.refusal.specs.declared.Refusal.{Refusal}
use Rattle.refusal.specs.declared.Refusal.TheVariants.{NotLeading, WrongVersion, ChangePending, BadMembers, MembersBehind, NotInPlay, Full}
use Rattle.refusal.specs.Answers.{and_then, unless}
use Rattle.journal.specs.declared.Entry.{Entry}
use Rattle.journal.specs.declared.EntryKind.TheVariants.{Configuration, Order}
use Rattle.entries.specs.Histories.{names_members}
use Rattle.cabinet.specs.declared.Cabinet.{Cabinet}
use Rattle.cabinet.specs.declared.Reply.TheVariants.{Candidate, History, Entry as Entered}
use Rattle.cabinet.specs.Epochs.{epoch_answer}
use Rattle.cabinet.specs.Records.{stands, raised, holders}
use Rattle.cabinet.specs.Steps.{Step, leaves, Outcome}
use Rattle.configurations.specs.Configurations.{last_before, version_before, in_play}
use Rattle.committing.specs.Committing.{elected, committing, winning}

-- a leader says its whole list
abbrev pub says_history : List Entry → Cabinet → Step
says_history l c = leaves c l (History c.mark)

-- who stands wins where its gathered set elects it, and says a candidate where not
abbrev pub stood : (ℕ → ℕ → Bool) → ℕ → List Entry → Cabinet → Step
stood quorum i l c = cond (elected quorum l c) (says_history l (winning quorum i l c)) (leaves c l (Candidate c.accepted (length l)))

-- standing: 36 in no configuration in play, 37 no epoch left
abbrev pub stand_step : (ℕ → ℕ → Bool) → ℕ → List Entry → Cabinet → Outcome
stand_step quorum i l c =
    and_then (unless (in_play l c.mark i) NotInPlay) (λ _.
    and_then (epoch_answer c.promised i) (λ epoch. Ok (stood quorum i l (stands i epoch c))))

-- 30 without leading
abbrev pub leading : Cabinet → Result (Unit {0}) Refusal
leading c = unless (c.role == 2) NotLeading

-- refreshing: 30
abbrev pub refresh_step : List Entry → Cabinet → Outcome
refresh_step l c = and_then (leading c) (λ _. Ok (says_history l c))

-- a new entry of the leader: acknowledged by itself, and committed where that suffices
abbrev pub entered : (ℕ → ℕ → Bool) → ℕ → List Entry → Cabinet → Entry → Cabinet
entered quorum i l c e = committing quorum i (l ++ e ∷ []) (raised i (length l + 1) c)

-- entering an entry at the list's end: 41 where the list is full
abbrev pub enter_step : (ℕ → ℕ → Bool) → ℕ → ℕ → List Entry → Cabinet → Entry → Outcome
enter_step quorum limit i l c e =
    cond (nat_lt (length l) limit)
    (Ok (leaves (entered quorum i l c e) (l ++ e ∷ []) (Entered (length l) (entered quorum i l c e).mark)))
    (Err Full)

-- the entry of an order's code, at the epoch that the leader leads
abbrev pub order_entry : Cabinet → ℕ → Entry
order_entry c code = record { epoch = c.promised; kind = Order; body = code }

-- the entry of a member set, at the epoch that the leader leads
abbrev pub members_entry : Cabinet → ℕ → Entry
members_entry c members = record { epoch = c.promised; kind = Configuration; body = members }

-- submitting an order, by its code or its refusal: 30, 31, 41
abbrev pub submit_step : (ℕ → ℕ → Bool) → ℕ → ℕ → List Entry → Cabinet → Result ℕ Refusal → Outcome
submit_step quorum limit i l c code =
    and_then (leading c) (λ _.
    and_then code (λ n. enter_step quorum limit i l c (order_entry c n)))

-- whether the members may be changed: 32 another version, 33 the last change is not committed, 34, 35 too few of the new hold what is committed
abbrev pub change_checks : (ℕ → ℕ → Bool) → ℕ → List Entry → Cabinet → ℕ → ℕ → Result (Unit {0}) Refusal
change_checks quorum cabinets l c version members =
    and_then (unless (version == version_before l (length l)) WrongVersion) (λ _.
    and_then (unless (nat_lt (last_before l (length l)) c.mark) ChangePending) (λ _.
    and_then (unless (names_members cabinets members) BadMembers) (λ _.
    unless (quorum members (holders c (c.mark - 1))) MembersBehind)))

-- changing the members: 30, then the checks, then 41
abbrev pub change_step : (ℕ → ℕ → Bool) → ℕ → ℕ → ℕ → List Entry → Cabinet → ℕ → ℕ → Outcome
change_step quorum limit cabinets i l c version members =
    and_then (leading c) (λ _.
    and_then (change_checks quorum cabinets l c version members) (λ _. enter_step quorum limit i l c (members_entry c members)))
