-- What a cabinet does of itself says only what its list has. Assumes nothing.
use Rattle.std.proofs.Common.{ℕ, Bool, ltb, List, [], ◌∷◌, ◌++◌, length, Ok, Err, refl, arith}
use Rattle.std.proofs.lemmas.List.{length_push}
use Rattle.std.proofs.lemmas.Bool.{lt-ltb}
use Rattle.refusal.specs.declared.Refusal.TheVariants.{NotInPlay, Full}
use Rattle.refusal.specs.Answers.{and_then, unless}
use Rattle.orders.specs.Kinds.{code_answer}
use Rattle.journal.specs.declared.Entry.{Entry}
use Rattle.cabinet.specs.declared.Cabinet.{Cabinet}
use Rattle.cabinet.specs.declared.Reply.TheVariants.{Candidate, Entry as Entered}
use Rattle.cabinet.specs.Epochs.{epoch_answer}
use Rattle.cabinet.specs.Records.{stands}
use Rattle.cabinet.specs.Steps.{leaves}
use Rattle.configurations.specs.Configurations.{in_play}
use Rattle.committing.specs.Committing.{elected, winning}
use Rattle.acts.specs.Acts.{says_history, stood, entered, enter_step, leading, order_entry, members_entry, change_checks}
use Rattle.receiving.proofs.Naming.{Names, then_names, cond_names, step_names}
use Rattle.calls.specs.Calls.{Kind}
use Rattle.station.specs.Acting.{act_step}
use Rattle.station.specs.declared.Act.{Act}
use Rattle.station.specs.declared.Act.TheVariants.{Stand, Submit, Change, Refresh}

module _ (quorum : ℕ → ℕ → Bool) (limit i : ℕ) (l : List Entry) (c : Cabinet) where
  -- an entry that is entered is in the list then
  enter_names : (e : Entry) → Names (enter_step quorum limit i l c e)
  enter_names e =
      cond_names (ltb (length l) limit) (Ok (leaves (entered quorum i l c e) (l ++ e ∷ []) (Entered (length l) (entered quorum i l c e).mark))) (Err Full)
      (lt-ltb (length l) (length (l ++ e ∷ [])) (omega (arith, length_push l e))) tt

  -- each act
  pub act_names : {A : Type 0} (kind : Kind A) (cabinets : ℕ) (a : Act A) → Names (act_step kind quorum limit cabinets i l c a)
  act_names kind cabinets Stand =
      then_names (unless (in_play l c.mark i) NotInPlay) (λ _. and_then (epoch_answer c.promised i) (λ epoch. Ok (stood quorum i l (stands i epoch c)))) (λ _.
      then_names (epoch_answer c.promised i) (λ epoch. Ok (stood quorum i l (stands i epoch c))) (λ epoch.
      let d : Cabinet = stands i epoch c in
      step_names (elected quorum l d) (says_history l (winning quorum i l d)) (leaves d l (Candidate d.accepted (length l))) refl refl))
  act_names kind cabinets (Submit order) =
      then_names (leading c) (λ _. and_then (code_answer (kind.proper order) (kind.encode order)) (λ n. enter_step quorum limit i l c (order_entry c n))) (λ _.
      then_names (code_answer (kind.proper order) (kind.encode order)) (λ n. enter_step quorum limit i l c (order_entry c n)) (λ n. enter_names (order_entry c n)))
  act_names kind cabinets (Change version members) =
      then_names (leading c) (λ _. and_then (change_checks quorum cabinets l c version members) (λ _. enter_step quorum limit i l c (members_entry c members))) (λ _.
      then_names (change_checks quorum cabinets l c version members) (λ _. enter_step quorum limit i l c (members_entry c members)) (λ _. enter_names (members_entry c members)))
  act_names kind cabinets Refresh = then_names (leading c) (λ _. Ok (says_history l c)) (λ _. refl)
