-- Committing and winning: what they make of a cabinet's record beside its list. Assumes nothing.
use Rattle.std.specs.Prelude.{ℕ, zero, suc, ◌+◌, ◌-◌, Bool, cond, not, ◌&&◌, List, length, Result, nat_lt}
use Rattle.refusal.specs.declared.Refusal.{Refusal}
use Rattle.quorum.specs.Sets.{has}
use Rattle.journal.specs.declared.Entry.{Entry}
use Rattle.cabinet.specs.declared.Cabinet.{Cabinet}
use Rattle.cabinet.specs.Records.{follows, marked, leads, holders_below}
use Rattle.configurations.specs.Configurations.{members_before, commits, elects, front_answer}
use Rattle.committing.specs.declared.Rest.{Rest}

-- the mark after at most n entries more: each is committed by the cabinets that acknowledged more than mark entries
unfoldable pub risen : (ℕ → ℕ → Bool) → List Entry → List ℕ → ℕ → ℕ → ℕ
risen quorum l lengths zero mark = mark
risen quorum l lengths (suc n) mark = cond (commits quorum l (holders_below lengths mark 16) mark) (risen quorum l lengths n (mark + 1)) mark

-- how far the acknowledged lengths carry a cabinet's mark
abbrev pub reached : (ℕ → ℕ → Bool) → List Entry → Cabinet → ℕ
reached quorum l c = risen quorum l c.acknowledged (length l - c.mark) c.mark

-- where a mark rests, and the members there
abbrev pub rest_at : List Entry → ℕ → Rest
rest_at l mark = record { mark = mark; members = members_before l mark }

-- once its mark has moved and rests, a cabinet outside the last committed configuration takes role 0
abbrev pub rested : ℕ → Rest → Cabinet → Cabinet
rested i rest c = cond (nat_lt c.mark rest.mark && not (has rest.members i)) (follows (marked rest.mark c)) (marked rest.mark c)

-- committing
abbrev pub committing : (ℕ → ℕ → Bool) → ℕ → List Entry → Cabinet → Cabinet
committing quorum i l c = rested i (rest_at l (reached quorum l c)) c

-- winning: it leads with its whole list, and commits
abbrev pub winning : (ℕ → ℕ → Bool) → ℕ → List Entry → Cabinet → Cabinet
winning quorum i l c = committing quorum i l (leads i (length l) c)

-- the gathered set is a quorum of every configuration in play
abbrev pub elected : (ℕ → ℕ → Bool) → List Entry → Cabinet → Bool
elected quorum l c = elects quorum l c.mark c.gathered

-- the record after its gathered set was looked at: it wins where the set elects it
abbrev pub perhaps_winning : (ℕ → ℕ → Bool) → ℕ → List Entry → Cabinet → Cabinet
perhaps_winning quorum i l c = cond (elected quorum l c) (winning quorum i l c) c

-- the record after committing, or the refusal of a list that is not there or ends before the mark
abbrev pub commit_answer : ℕ → (ℕ → List Entry) → (ℕ → ℕ → Bool) → ℕ → Cabinet → Result Cabinet Refusal
commit_answer owners ls quorum i c = front_answer owners ls i c.mark (committing quorum i (ls i) c)

-- the same of a cabinet whose gathered set is looked at
abbrev pub win_answer : ℕ → (ℕ → List Entry) → (ℕ → ℕ → Bool) → ℕ → Cabinet → Result Cabinet Refusal
win_answer owners ls quorum i c = front_answer owners ls i c.mark (perhaps_winning quorum i (ls i) c)
