-- What entering an entry comes to, where there is room and where there is none. Assumes nothing.
use Rattle.std.proofs.Common.{◌≡◌, ℕ, ◌+◌, ◌<◌, ◌≤◌, Bool, cond, eqb, ltb, List, [], ◌∷◌, ◌++◌, length, Ok, Err, sym, ap, ◌∙◌, ap₂, arith}
use Rattle.std.proofs.lemmas.List.{length_push}
use Rattle.std.proofs.lemmas.Bool.{cond-true, lt-ltb}
use Rattle.std.proofs.lemmas.Bool.Decides.{nat_tests}
use Rattle.refusal.specs.declared.Refusal.TheVariants.{Full}
use Rattle.journal.specs.declared.Entry.{Entry}
use Rattle.journal.specs.Lists.{append_answer, append_lists}
use Rattle.cabinet.specs.declared.Cabinet.{Cabinet}
use Rattle.cabinet.specs.declared.Reply.TheVariants.{Entry as Entered}
use Rattle.cabinet.specs.Records.{raised}
use Rattle.cabinet.specs.Steps.{Step, Outcome, leaves, listed}
use Rattle.cabinet.proofs.Listed.{listed_ok}
use Rattle.configurations.proofs.Passes.{front_ok}
use Rattle.committing.specs.Committing.{committing, commit_answer}
use Rattle.acts.specs.Acts.{entered, enter_step}

-- an append that was accepted had an owner and room
pub append_told : (owners limit i : ℕ) (ls : ℕ → List Entry) → Ok tt ≡ append_answer owners limit ls i → (i < owners) × (length (ls i) < limit)
append_told owners limit i ls told = grind (arith, nat_tests)

module _ (owners limit : ℕ) (ls : ℕ → List Entry) (i : ℕ) (e : Entry) (owner : i < owners) where
  -- an append with room leaves the owner's list longer by the entry
  pub lists_with_room : length (ls i) < limit → (p : ℕ) → append_lists owners limit ls i e p ≡ cond (eqb p i) (ls i ++ e ∷ []) (ls p)
  lists_with_room room p = grind (arith, nat_tests)

module _ (quorum : ℕ → ℕ → Bool) (owners limit : ℕ) (ls : ℕ → List Entry) (i : ℕ) (c : Cabinet) (e : Entry) (owner : i < owners) (reaches : c.mark ≤ length (ls i)) where
  -- what entering the entry comes to
  abbrev outcome : Outcome
  outcome = listed owners ls i c (enter_step quorum limit i (ls i) c e)

  -- a step that is accepted
  abbrev step : Step
  step = leaves (entered quorum i (ls i) c e) (ls i ++ e ∷ []) (Entered (length (ls i)) (entered quorum i (ls i) c e).mark)

  -- where there is room, the entry is entered
  pub with_room : length (ls i) < limit → outcome ≡ Ok step
  with_room room = listed_ok owners ls i c (enter_step quorum limit i (ls i) c e) owner reaches ∙ cond-true (ltb (length (ls i)) limit) (Ok step) (Err Full) (lt-ltb (length (ls i)) limit room)

  -- committing after the append is accepted, and makes the record of the step
  pub commit_entered : (owners' : ℕ) (ls' : ℕ → List Entry) (d : Cabinet) → owners' ≡ owners → ls' i ≡ ls i ++ e ∷ [] → d ≡ raised i (length (ls i) + 1) c
      → commit_answer owners' ls' quorum i d ≡ Ok (entered quorum i (ls i) c e)
  commit_entered owners' ls' d same grown raise =
      let longer : length (ls' i) ≡ length (ls i) + 1 = ap length grown ∙ length_push (ls i) e in
      let mark : d.mark ≡ c.mark = ap (λ (x : Cabinet). x.mark) raise in
      sym (front_ok owners' i d.mark ls' (entered quorum i (ls i) c e) (committing quorum i (ls' i) d) (omega arith) (omega arith)
      (sym (ap₂ (λ l (x : Cabinet). committing quorum i l x) grown raise)))
