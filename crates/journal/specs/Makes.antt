-- When a journal can be made over lent memory, and with which numbers: what the contracts of every make cite. Assumes nothing.
use Rattle.std.specs.Prelude.{◌≡◌, ℕ, Bool, cond, ◌&&◌, List, [], Ok, Err, Result, nat_le}
use Rattle.refusal.specs.declared.Refusal.{Refusal}
use Rattle.refusal.specs.declared.Refusal.TheVariants.{OutOfBounds, NoTray}

-- at most 65,535 owners, and a limit of 2 to 4,000
abbrev pub in_bounds : ℕ → ℕ → Bool
in_bounds owners limit = nat_le owners 65535 && nat_le 2 limit && nat_le limit 4000

-- 1 for a number of owners or a limit outside its bounds
abbrev pub bounds_answer : ℕ → ℕ → Result (Unit {0}) Refusal
bounds_answer owners limit = cond (in_bounds owners limit) (Ok tt) (Err OutOfBounds)

-- whether a journal can be made: 1 for its numbers, then 3 for too few places, or too few counts for one per owner
abbrev pub measure_answer : ℕ → ℕ → ℕ → ℕ → ℕ → Result (Unit {0}) Refusal
measure_answer owners limit needed places counts =
    cond (in_bounds owners limit) (cond (nat_le needed places && nat_le owners counts) (Ok tt) (Err NoTray)) (Err OutOfBounds)

-- the owners of a journal that is made: none in spite of a refusal
abbrev pub made_owners : ℕ → Result (Unit {0}) Refusal → ℕ
made_owners owners (Ok _) = owners
made_owners owners (Err _) = 0

-- the limit of a journal that is made: 2 in spite of a refusal
abbrev pub made_limit : ℕ → Result (Unit {0}) Refusal → ℕ
made_limit limit (Ok _) = limit
made_limit limit (Err _) = 2

-- what is laid after this measure has the owners and the limit that are made, and of each owner nothing yet
pub record Laid {S A : Type 0} (owners_of limit_of : S → ℕ) (lists_of : S → ℕ → List A) (made : S) (asked most : ℕ) (measure : Result (Unit {0}) Refusal) : Type 0 where
  pub owners : owners_of made ≡ made_owners asked measure
  pub limit : limit_of made ≡ made_limit most measure
  pub empty : (o : ℕ) → lists_of made o ≡ []
