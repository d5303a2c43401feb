-- What a step leaves: a cabinet's record, its list, and what the cabinet says. Assumes nothing.
use Rattle.std.specs.Prelude.{◌≡◌, ℕ, cond, List, length, Ok, Err, Result, ◌==◌, nat_le}
use Rattle.refusal.specs.declared.Refusal.{Refusal}
use Rattle.refusal.specs.declared.Refusal.TheVariants.{NoPosition}
use Rattle.journal.specs.declared.Entry.{Entry}
use Rattle.journal.specs.Lists.{Relisted, owned}
use Rattle.cabinet.specs.declared.Cabinet.{Cabinet}
use Rattle.cabinet.specs.declared.Reply.{Reply}

-- what an accepted step leaves
pub record Step : Type 0 where
  pub cabinet : Cabinet
  pub list : List Entry
  pub reply : Reply

-- a step that leaves these
abbrev pub leaves : Cabinet → List Entry → Reply → Step
leaves c l reply = record { cabinet = c; list = l; reply = reply }

-- what becomes of a cabinet: a step, or a refusal
abbrev pub Outcome : Type 0
Outcome = Result Step Refusal

-- the record that is left: as it was, where the step is refused
abbrev pub left_by : Cabinet → Outcome → Cabinet
left_by c (Ok s) = s.cabinet
left_by c (Err e) = c

-- the lists that are left: only the cabinet's own may be another
abbrev pub lists_by : (ℕ → List Entry) → ℕ → Outcome → ℕ → List Entry
lists_by ls i (Ok s) p = cond (p == i) s.list (ls p)
lists_by ls i (Err e) p = ls p

-- what the cabinet says, or the refusal
abbrev pub said_by : Outcome → Result Reply Refusal
said_by (Ok s) = Ok s.reply
said_by (Err e) = Err e

-- what becomes of a cabinet whose list is there and reaches its mark; else 2 or 50, which no sound cabinet of a station gets
abbrev pub listed : {A : Type 0} → ℕ → (ℕ → List Entry) → ℕ → Cabinet → Result A Refusal → Result A Refusal
listed owners ls i c answer = owned owners i (cond (nat_le c.mark (length (ls i))) answer (Err NoPosition))

-- cabinet i has taken a step over a journal that it only read: the answer, and the record that it left
pub record Stepped {S : Type 0} (owners_of : S → ℕ) (lists_of : S → ℕ → List Entry) (journal : S) (i : ℕ) (before after : Cabinet) (said : Result Reply Refusal) (o : Outcome) : Type 0 where
  pub answer : said ≡ said_by (listed (owners_of journal) (lists_of journal) i before o)
  pub «record» : after ≡ left_by before (listed (owners_of journal) (lists_of journal) i before o)

-- cabinet i has taken a step over a journal that it may have changed: the answer, and the record and the lists that it left
pub record SteppedOver {S : Type 0} (owners_of limit_of : S → ℕ) (lists_of : S → ℕ → List Entry) (old new : S) (i : ℕ) (before after : Cabinet) (said : Result Reply Refusal) (o : Outcome) : Type 0 where
  pub answer : said ≡ said_by (listed (owners_of old) (lists_of old) i before o)
  pub «record» : after ≡ left_by before (listed (owners_of old) (lists_of old) i before o)
  pub journal : Relisted owners_of limit_of lists_of old new (lists_by (lists_of old) i (listed (owners_of old) (lists_of old) i before o))
