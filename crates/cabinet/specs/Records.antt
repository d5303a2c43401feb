-- What the steps do to a cabinet's record, apart from its list. Assumes nothing.
use Rattle.std.specs.Prelude.{◌≡◌, ℕ, zero, suc, ◌+◌, ◌^◌, max, Bool, true, false, cond, List, replicate, Ok, Err, Result, bit_or, nat_lt, slice_index, slice_set}
use Rattle.refusal.specs.declared.Refusal.{Refusal}
use Rattle.refusal.specs.declared.Refusal.TheVariants.{Stopped, Running}
use Rattle.cabinet.specs.declared.Cabinet.{Cabinet}

-- no cabinet has acknowledged anything
abbrev pub none_acknowledged : List ℕ
none_acknowledged = replicate 16 0

-- it takes role 0, which empties the gathered set and the lengths
abbrev pub follows : Cabinet → Cabinet
follows c = record { promised = c.promised; accepted = c.accepted; mark = c.mark; role = 0; gathered = 0; acknowledged = none_acknowledged; running = c.running }

-- it promises an epoch and follows
abbrev pub promises : ℕ → Cabinet → Cabinet
promises e c = record { promised = e; accepted = c.accepted; mark = c.mark; role = 0; gathered = 0; acknowledged = none_acknowledged; running = c.running }

-- the set of one cabinet
abbrev pub only : ℕ → ℕ
only i = cond (nat_lt i 16) (2 ^ i) 0

-- it stands at an epoch, with itself alone gathered
abbrev pub stands : ℕ → ℕ → Cabinet → Cabinet
stands i e c = record { promised = e; accepted = c.accepted; mark = c.mark; role = 1; gathered = only i; acknowledged = c.acknowledged; running = c.running }

-- it gathers cabinet j's promise
abbrev pub gathers : ℕ → Cabinet → Cabinet
gathers j c = record { promised = c.promised; accepted = c.accepted; mark = c.mark; role = c.role; gathered = bit_or c.gathered (only j); acknowledged = c.acknowledged; running = c.running }

-- it knows that cabinet j holds that many entries, or more if it knew more
abbrev pub raised : ℕ → ℕ → Cabinet → Cabinet
raised j length c = record { promised = c.promised; accepted = c.accepted; mark = c.mark; role = c.role; gathered = c.gathered; acknowledged = slice_set c.acknowledged j (max (slice_index c.acknowledged j) length); running = c.running }

-- it leads the epoch that it promised: its own length acknowledged, of the others nothing
abbrev pub leads : ℕ → ℕ → Cabinet → Cabinet
leads i length c = raised i length (record { promised = c.promised; accepted = c.promised; mark = c.mark; role = 2; gathered = c.gathered; acknowledged = none_acknowledged; running = c.running })

-- its mark is another
abbrev pub marked : ℕ → Cabinet → Cabinet
marked m c = record { promised = c.promised; accepted = c.accepted; mark = m; role = c.role; gathered = c.gathered; acknowledged = c.acknowledged; running = c.running }

-- it is running or stopped
abbrev pub switched : Bool → Cabinet → Cabinet
switched on c = record { promised = c.promised; accepted = c.accepted; mark = c.mark; role = c.role; gathered = c.gathered; acknowledged = c.acknowledged; running = on }

-- a stop loses role, gathered set and lengths; 6 where it is stopped
abbrev pub stop_step : Cabinet → Result Cabinet Refusal
stop_step c = cond c.running (Ok (switched false (follows c))) (Err Stopped)

-- a start sets the flag; 7 where it is running
abbrev pub start_step : Cabinet → Result Cabinet Refusal
start_step c = cond c.running (Err Running) (Ok (switched true c))

-- the cabinets below n that acknowledged more than so many entries
unfoldable pub holders_below : List ℕ → ℕ → ℕ → ℕ
holders_below lengths entries zero = 0
holders_below lengths entries (suc n) = holders_below lengths entries n + cond (nat_lt entries (slice_index lengths n)) (2 ^ n) 0

-- the cabinets that acknowledged more than so many entries
abbrev pub holders : Cabinet → ℕ → ℕ
holders c entries = holders_below c.acknowledged entries 16

-- what a changed record is: what the step makes of it, or as it was
abbrev pub after : {A : Type 0} → A → Result A Refusal → A
after c (Ok d) = d
after c (Err e) = c

-- what a step that only changes the record answers
abbrev pub done : {A : Type 0} → Result A Refusal → Result (Unit {0}) Refusal
done (Ok d) = Ok tt
done (Err e) = Err e

-- a record has been changed by a step that concerns it alone: the answer, and the record that is left
pub record Changed (before left : Cabinet) (said : Result (Unit {0}) Refusal) (o : Result Cabinet Refusal) : Type 0 where
  pub answer : said ≡ done o
  pub «record» : left ≡ after before o
