-- Answers that may be refusals, one after another. Assumes nothing.
use Rattle.std.specs.Prelude.{Bool, cond, Ok, Err, Result}
use Rattle.refusal.specs.declared.Refusal.{Refusal}

-- what follows an answer that is no refusal
abbrev pub and_then : {A B : Type 0} → Result A Refusal → (A → Result B Refusal) → Result B Refusal
and_then (Ok x) f = f x
and_then (Err e) f = Err e

-- nothing, or the refusal of what does not hold
abbrev pub unless : Bool → Refusal → Result (Unit {0}) Refusal
unless holds e = cond holds (Ok tt) (Err e)
