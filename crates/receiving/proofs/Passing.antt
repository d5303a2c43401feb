-- What the checks before a step tell. Assumes nothing.
use Rattle.std.proofs.Common.{◌≡◌, ℕ, ◌<◌, ◌≤◌, Bool, ltb, leb, List, length, Ok, Err, Result, sym, ap, ◌∙◌, arith}
use Rattle.std.proofs.lemmas.Bool.{cond-true, lt-ltb, le-leb}
use Rattle.std.proofs.lemmas.Bool.Decides.{nat_tests}
use Rattle.refusal.specs.declared.Refusal.{Refusal}
use Rattle.refusal.specs.declared.Refusal.TheVariants.{NoCabinet, NoTray}
use Rattle.refusal.specs.Answers.{and_then, unless}
use Rattle.journal.specs.declared.Entry.{Entry}
use Rattle.journal.specs.Lists.{owned}
use Rattle.cabinet.specs.declared.Cabinet.{Cabinet}
use Rattle.cabinet.specs.Steps.{Outcome, listed}
use Rattle.cabinet.proofs.Listed.{listed_ok}
use Rattle.receiving.specs.Readiness.{ready, place, tray_length, receive_step}
use Rattle.reactions.specs.Reactions.{hear_step}

-- a cabinet in its place has a list
pub place_tells : (cabinets owners i : ℕ) → Ok tt ≡ place cabinets owners i → i < owners
place_tells cabinets owners i told = grind (arith, nat_tests)

-- a cabinet that is ready has a list that reaches its mark
pub ready_tells : (codes : ℕ → Bool) (cabinets limit i : ℕ) (l : List Entry) (c : Cabinet) → Ok tt ≡ ready codes cabinets limit i l c → c.mark ≤ length l
ready_tells codes cabinets limit i l c told = grind (arith, nat_tests)

module _ (codes : ℕ → Bool) (quorum : ℕ → ℕ → Bool) (cabinets owners limit i : ℕ) (ls : ℕ → List Entry) (c : Cabinet) (bytes : List ℕ) (room : ℕ) (placed : Ok tt ≡ place cabinets owners i) (roomy : tray_length limit ≤ room) where
  -- what the bytes do to the cabinet
  abbrev heard : Outcome
  heard = hear_step codes quorum cabinets limit i (ls i) c bytes

  -- once place and room are there, the cabinet is looked at
  pub at_the_cabinet : receive_step codes quorum cabinets owners limit i (ls i) c bytes room ≡ and_then (ready codes cabinets limit i (ls i) c) (λ _. heard)
  at_the_cabinet =
      sym (ap (λ (r : Result (Unit {0}) Refusal). and_then r (λ _. and_then (unless (leb (tray_length limit) room) NoTray) (λ _. and_then (ready codes cabinets limit i (ls i) c) (λ _. heard)))) placed)
      ∙ ap (λ (b : Bool). and_then (unless b NoTray) (λ _. and_then (ready codes cabinets limit i (ls i) c) (λ _. heard))) (le-leb (tray_length limit) room roomy)

  -- what is asked of a cabinet that has a list
  pub of_an_owner : owned owners i (ready codes cabinets limit i (ls i) c) ≡ ready codes cabinets limit i (ls i) c
  of_an_owner = cond-true (ltb i owners) (ready codes cabinets limit i (ls i) c) (Err NoCabinet) (lt-ltb i owners (place_tells cabinets owners i placed))

  -- a cabinet that is not ready refuses
  pub not_ready : (e : Refusal) → Err e ≡ owned owners i (ready codes cabinets limit i (ls i) c) → receive_step codes quorum cabinets owners limit i (ls i) c bytes room ≡ Err e
  not_ready e told = at_the_cabinet ∙ sym (ap (λ (r : Result (Unit {0}) Refusal). and_then r (λ _. heard)) (told ∙ of_an_owner))

  -- one that is does what the bytes say
  pub is_heard : Ok tt ≡ owned owners i (ready codes cabinets limit i (ls i) c) → receive_step codes quorum cabinets owners limit i (ls i) c bytes room ≡ listed owners ls i c heard
  is_heard told =
      at_the_cabinet
      ∙ sym (ap (λ (r : Result (Unit {0}) Refusal). and_then r (λ _. heard)) (told ∙ of_an_owner))
      ∙ sym (listed_ok owners ls i c heard (place_tells cabinets owners i placed) (ready_tells codes cabinets limit i (ls i) c (told ∙ of_an_owner)))
