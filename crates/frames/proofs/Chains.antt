-- What is known once a chain of checks has passed. Assumes nothing.
use Rattle.std.proofs.Common.{◌≡◌, ℕ, Bool, true, false, Ok, Err, Result, refl, arith}
use Rattle.refusal.specs.declared.Refusal.{Refusal}
use Rattle.refusal.specs.Answers.{and_then, unless}

-- a check that passed holds
pub unless_ok : (b : Bool) (e : Refusal) → unless b e ≡ Ok tt → b ≡ true
unless_ok true e h = refl
unless_ok false e h = absurd (let z : ◌≡◌ {A = ℕ} 0 1 = cc in omega arith)

-- a check that holds passes
pub ok_unless : (b : Bool) (e : Refusal) → b ≡ true → unless b e ≡ Ok tt
ok_unless true e h = refl
ok_unless false e h = absurd (let z : ◌≡◌ {A = ℕ} 0 1 = cc in omega arith)

-- a chain that ended well passed its first answer, and went on from it
pub and_then_ok : {X Y : Type 0} (r : Result X Refusal) (f : X → Result Y Refusal) (y : Y) → and_then r f ≡ Ok y → (x : X) × (r ≡ Ok x) × (f x ≡ Ok y)
and_then_ok (Ok x) f y h = (x, refl, h)
and_then_ok (Err e) f y h = absurd (let z : ◌≡◌ {A = ℕ} 0 1 = cc in omega arith)

-- the same of a check
pub checked : {Y : Type 0} (b : Bool) (e : Refusal) (f : Unit {0} → Result Y Refusal) (y : Y) → and_then (unless b e) f ≡ Ok y → (b ≡ true) × (f tt ≡ Ok y)
checked true e f y h = (refl, h)
checked false e f y h = absurd (let z : ◌≡◌ {A = ℕ} 0 1 = cc in omega arith)
