-- What the length of a cabinet's list tells, and what becomes of a cabinet without one. Assumes nothing.
use Rattle.std.proofs.Common.{◌≡◌, ℕ, ◌<◌, ◌≤◌, cond, ltb, leb, List, length, Ok, Err, Result, ◌∙◌, arith}
use Rattle.std.proofs.lemmas.Bool.{cond-true, lt-ltb, le-leb}
use Rattle.std.proofs.lemmas.Bool.Decides.{nat_tests}
use Rattle.refusal.specs.declared.Refusal.{Refusal}
use Rattle.refusal.specs.declared.Refusal.TheVariants.{NoCabinet, NoPosition}
use Rattle.journal.specs.declared.Entry.{Entry}
use Rattle.cabinet.specs.declared.Cabinet.{Cabinet}
use Rattle.cabinet.specs.Steps.{listed}

module _ (owners : ℕ) (ls : ℕ → List Entry) (i : ℕ) (c : Cabinet) where
  -- what becomes of a cabinet whose list is there
  pub listed_ok : {A : Type 0} (x : Result A Refusal) → i < owners → c.mark ≤ length (ls i) → listed owners ls i c x ≡ x
  listed_ok x h k =
      cond-true (ltb i owners) (cond (leb c.mark (length (ls i))) x (Err NoPosition)) (Err NoCabinet) (lt-ltb i owners h)
      ∙ cond-true (leb c.mark (length (ls i))) x (Err NoPosition) (le-leb c.mark (length (ls i)) k)

  -- an accepted length is that of a list that is there and reaches the mark
  pub listed_tells : {A : Type 0} (x y : A) → Ok x ≡ listed owners ls i c (Ok y) → (i < owners) × (c.mark ≤ length (ls i)) × (x ≡ y)
  listed_tells x y told = grind (arith, nat_tests)
