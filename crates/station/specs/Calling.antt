-- How the calls of a station end. Assumes nothing.
use Rattle.std.specs.Prelude.{◌≡◌, ℕ, Bool, List, Result}
use Rattle.refusal.specs.declared.Refusal.{Refusal}
use Rattle.journal.specs.declared.Entry.{Entry}
use Rattle.cabinet.specs.declared.Cabinet.{Cabinet}
use Rattle.cabinet.specs.Steps.{Outcome}
use Rattle.writing.specs.Speaking.{answer_by}
use Rattle.calls.specs.Stations.{Station, station, station_after, station_founded, found_answer, found_reply}

-- the station that a table, a journal and trays make up, by what the journal's owners, limit and lists are
abbrev pub parts : {S : Type 0} → (S → ℕ) → (S → ℕ) → (S → ℕ → List Entry) → List Cabinet → S → List ℕ → Station
parts owners limit lists table journal trays = station table (owners journal) (limit journal) (lists journal) trays

-- a call of cabinet i that may write into tray k has ended: its answer and the station that it left are those of the call's definition
pub record Ended (before after : Station) (i k : ℕ) (said : Result (ℕ × ℕ) Refusal) (call : Station → Outcome) : Type 0 where
  pub answer : said ≡ answer_by i (call before)
  pub station : after ≡ station_after before i k (call before)

-- and so has a founding with these members
pub record Founded (quorum : ℕ → ℕ → Bool) (before after : Station) (members : ℕ) (said : Result (ℕ × ℕ) Refusal) : Type 0 where
  pub answer : said ≡ found_reply (found_answer quorum before members)
  pub station : after ≡ station_founded before members (found_answer quorum before members)
