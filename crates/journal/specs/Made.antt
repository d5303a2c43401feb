-- What holds of the numbers of every make. Assumes nothing.
use Rattle.std.specs.Prelude.{◌≡◌, ℕ, Bool, true, false, cond, Ok, Err, refl}
use Rattle.refusal.specs.declared.Refusal.TheVariants.{OutOfBounds, NoTray}
use Rattle.journal.specs.Makes.{made_owners, made_limit}

-- what holds of no owners and limit 2, and of numbers that suffice, holds of what is made
pub made_by : (n j : ℕ) (bounds room : Bool) (P : ℕ → ℕ → Type 0) → P 0 2 → (bounds ≡ true → room ≡ true → P n j) → P (made_owners n (cond bounds (cond room (Ok tt) (Err NoTray)) (Err OutOfBounds))) (made_limit j (cond bounds (cond room (Ok tt) (Err NoTray)) (Err OutOfBounds)))
made_by n j true true P none both = both refl refl
made_by n j true false P none both = none
made_by n j false room P none both = none
