-- What a call asks of a cabinet before its step, and what receive does. Assumes nothing.
use Rattle.std.specs.Prelude.{◌≡◌, ℕ, Bool, ◌&&◌, List, length, Result, nat_le, nat_lt}
use Rattle.refusal.specs.declared.Refusal.{Refusal}
use Rattle.refusal.specs.declared.Refusal.TheVariants.{OutOfBounds, NoCabinet, NoTray, Stopped, Unsound}
use Rattle.refusal.specs.Answers.{and_then, unless}
use Rattle.orders.specs.Kinds.{between as in_range}
use Rattle.journal.specs.declared.Entry.{Entry}
use Rattle.journal.specs.Lists.{Relisted}
use Rattle.entries.specs.Histories.{may_hold}
use Rattle.frames.specs.Letters.{frame_length}
use Rattle.cabinet.specs.declared.Cabinet.{Cabinet}
use Rattle.cabinet.specs.Soundness.{record_sound}
use Rattle.cabinet.specs.Steps.{Outcome, left_by, lists_by}
use Rattle.writing.specs.Speaking.{answer_by, buffer_by}
use Rattle.reactions.specs.Reactions.{hear_step}

-- a sound cabinet: a record that goes with a list of its length, and a list that a history of its accepted epoch may hold
abbrev pub sound : (ℕ → Bool) → ℕ → ℕ → ℕ → List Entry → Cabinet → Bool
sound codes cabinets limit i l c = record_sound i (length l) c && may_hold codes cabinets limit c.accepted l

-- 6 for a cabinet that is stopped, 8 for one that is not sound
abbrev pub ready : (ℕ → Bool) → ℕ → ℕ → ℕ → List Entry → Cabinet → Result (Unit {0}) Refusal
ready codes cabinets limit i l c =
    and_then (unless c.running Stopped) (λ _. unless (sound codes cabinets limit i l c) Unsound)

-- 1 for a table outside its bounds, or a journal with fewer owners than cabinets; 2 for a cabinet that is not in the table
abbrev pub place : ℕ → ℕ → ℕ → Result (Unit {0}) Refusal
place cabinets owners i =
    and_then (unless (in_range 1 16 cabinets && nat_le cabinets owners) OutOfBounds) (λ _. unless (nat_lt i cabinets) NoCabinet)

-- how many bytes a tray has
abbrev pub tray_length : ℕ → ℕ
tray_length limit = frame_length limit

-- receiving bytes, with so much room for an answer: 1, 2, 3 for less than a tray, 6, 8, then what the bytes do
abbrev pub receive_step : (ℕ → Bool) → (ℕ → ℕ → Bool) → ℕ → ℕ → ℕ → ℕ → List Entry → Cabinet → List ℕ → ℕ → Outcome
receive_step codes quorum cabinets owners limit i l c bytes room =
    and_then (place cabinets owners i) (λ _.
    and_then (unless (nat_le (tray_length limit) room) NoTray) (λ _.
    and_then (ready codes cabinets limit i l c) (λ _.
    hear_step codes quorum cabinets limit i l c bytes)))

-- cabinet i has received bytes: the answer, and the record, the lists and the buffer that are left
pub record Received {S : Type 0} (owners_of limit_of : S → ℕ) (lists_of : S → ℕ → List Entry) (old new : S) (i : ℕ) (before after : Cabinet) (out filled : List ℕ) (said : Result (ℕ × ℕ) Refusal) (o : Outcome) : Type 0 where
  pub answer : said ≡ answer_by i o
  pub «record» : after ≡ left_by before o
  pub journal : Relisted owners_of limit_of lists_of old new (lists_by (lists_of old) i o)
  pub buffer : filled ≡ buffer_by out i o
