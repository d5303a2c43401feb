-- What an accepted step tells. Assumes nothing.
use Rattle.std.proofs.Common.{◌≡◌, ℕ, ◌+◌, ◌-◌, ◌%◌, ◌^◌, ◌<◌, ◌≤◌, Bool, true, false, cond, not, ◌&&◌, ◌||◌, eqb, ltb, leb, ◌⊎◌, List, [], ◌∷◌, ◌++◌, length, Ok, Err, Result, sym, refl, ap, ◌∙◌, inl, inr, arith}
use Rattle.std.proofs.lemmas.Bool.{and_from, both_ways, cases_Bool, cases_lt, cond-true, cond-false, ltb-true, ltb-false, eqb-true, not-true, lt-ltb, le-ltb, or_cases, or_parts, eq-eqb}
use Rattle.refusal.specs.declared.Refusal.{Refusal}
use Rattle.refusal.specs.declared.Refusal.TheVariants.{NotInPlay, NotLeading, EpochsSpent, Full, Gap, VoterAhead, FrameField, CommittedAltered}
use Rattle.refusal.specs.Answers.{and_then, unless}
use Rattle.journal.specs.declared.Entry.{Entry}
use Rattle.cabinet.specs.declared.Cabinet.{Cabinet}
use Rattle.cabinet.specs.declared.Reply.TheVariants.{Acknowledge, Promise, Entry as EnteredReply}
use Rattle.cabinet.specs.Epochs.{owner_of, next_epoch, epoch_answer, later}
use Rattle.cabinet.specs.Records.{stands, promises}
use Rattle.cabinet.specs.Steps.{Step, leaves}
use Rattle.configurations.specs.Configurations.{in_play}
use Rattle.acts.specs.Acts.{stood, stand_step, refresh_step, says_history, enter_step, entered, submit_step, order_entry, change_checks, change_step, members_entry}
use Rattle.messages.specs.Messages.{candidate_step, history_step, entry_step, keeps_committed, follows_with, goes_on_with, accepts}

-- a refusal is no step
never : {A : Type 0} (e : Refusal) (s : A) → Err e ≡ Ok s → ⊥
never {A} e s h = let z : ◌≡◌ {A = ℕ} 0 1 = cc in omega arith

-- an accepted answer is the one given
same_ok : {A : Type 0} (x y : A) → ◌≡◌ {A = Result A Refusal} (Ok x) (Ok y) → x ≡ y
same_ok x y h = cc

-- what follows a check was accepted where the check held
pub guarded : {B : Type 0} (b : Bool) (e : Refusal) (f : Unit {0} → Result B Refusal) (s : B) → and_then (unless b e) f ≡ Ok s → (b ≡ true) × (f tt ≡ Ok s)
guarded true e f s h = (refl, h)
guarded false e f s h = absurd (never e s h)

-- what follows an answer was accepted where the answer was
pub answered : {A B : Type 0} (x : Result A Refusal) (f : A → Result B Refusal) (s : B) → and_then x f ≡ Ok s → (a : A) × (x ≡ Ok a) × (f a ≡ Ok s)
answered (Ok a) f s h = (a, refl, h)
answered (Err e) f s h = absurd (never e s h)

-- an answer that is refused unless a test holds
pub chosen_ok : {A : Type 0} (b : Bool) (x : Result A Refusal) (e : Refusal) (s : A) → cond b x (Err e) ≡ Ok s → (b ≡ true) × (x ≡ Ok s)
chosen_ok true x e s h = (refl, h)
chosen_ok false x e s h = absurd (never e s h)

-- the epoch at which a cabinet stands next is above the promised one and its own
pub next_is : (promised i : ℕ) → i < 16 → (promised < next_epoch promised i) × (owner_of (next_epoch promised i) ≡ i)
next_is promised i small =
    elim (cases_lt (owner_of promised) i) [
      | inl less ↦ let at : next_epoch promised i ≡ promised - promised % 16 + i = ap (λ (k : ℕ). promised - promised % 16 + i + k) (cond-true _ 0 16 (lt-ltb (owner_of promised) i less)) ∙ (let z : promised - promised % 16 + i + 0 ≡ promised - promised % 16 + i = omega arith in z) in
          (omega arith, let z : (promised - promised % 16 + i) % 16 ≡ i = omega arith in ap owner_of at ∙ z)
      | inr more ↦ let at : next_epoch promised i ≡ promised - promised % 16 + i + 16 = ap (λ (k : ℕ). promised - promised % 16 + i + k) (cond-false _ 0 16 (le-ltb (owner_of promised) i more)) in
          (omega arith, let z : (promised - promised % 16 + i + 16) % 16 ≡ i = omega arith in ap owner_of at ∙ z)
    ]

-- what an accepted stand was: at an own epoch above the promised one
pub record Stood (quorum : ℕ → ℕ → Bool) (i : ℕ) (l : List Entry) (c : Cabinet) (s : Step) : Type 0 where
  pub epoch : ℕ
  pub above : c.promised < epoch
  pub owned : owner_of epoch ≡ i
  pub is : stood quorum i l (stands i epoch c) ≡ s

-- every accepted stand is one
pub stood_is : (quorum : ℕ → ℕ → Bool) (i : ℕ) (l : List Entry) (c : Cabinet) (s : Step) → i < 16 → stand_step quorum i l c ≡ Ok s → Stood quorum i l c s
stood_is quorum i l c s small h =
    let first = guarded (in_play l c.mark i) NotInPlay (λ _. and_then (epoch_answer c.promised i) (λ epoch. Ok (stood quorum i l (stands i epoch c)))) s h in
    let second = answered (epoch_answer c.promised i) (λ epoch. Ok (stood quorum i l (stands i epoch c))) s first.1 in
    let third = chosen_ok (ltb (next_epoch c.promised i) (2 ^ 32)) (Ok (next_epoch c.promised i)) EpochsSpent second.0 second.1 in
    let at : next_epoch c.promised i ≡ second.0 = same_ok _ _ third.1 in
    let next = next_is c.promised i small in
    record { epoch = second.0; above = omega (arith, next.0); owned = ap owner_of (sym at) ∙ next.1; is = same_ok _ _ second.2 }

-- an accepted refresh is a leader's history
pub refresh_is : (l : List Entry) (c : Cabinet) (s : Step) → refresh_step l c ≡ Ok s → (c.role ≡ 2) × (says_history l c ≡ s)
refresh_is l c s h =
    let first = guarded (eqb c.role 2) NotLeading (λ _. Ok (says_history l c)) s h in
    (eqb-true c.role 2 first.0, same_ok _ _ first.1)

-- what a leader leaves that enters an entry
abbrev pub enters : (ℕ → ℕ → Bool) → ℕ → List Entry → Cabinet → Entry → Step
enters quorum i l c x = leaves (entered quorum i l c x) (l ++ x ∷ []) (EnteredReply (length l) (entered quorum i l c x).mark)

-- an entry that a leader entered
pub record Enters (quorum : ℕ → ℕ → Bool) (i : ℕ) (l : List Entry) (c : Cabinet) (x : Entry) (s : Step) : Type 0 where
  pub role : c.role ≡ 2
  pub is : enters quorum i l c x ≡ s

-- an accepted entry was entered
enters_is : (quorum : ℕ → ℕ → Bool) (limit i : ℕ) (l : List Entry) (c : Cabinet) (x : Entry) (s : Step) → c.role ≡ 2 → enter_step quorum limit i l c x ≡ Ok s
    → Enters quorum i l c x s
enters_is quorum limit i l c x s role h =
    let first = chosen_ok (ltb (length l) limit) (Ok (enters quorum i l c x)) Full s h in
    record { role = role; is = same_ok _ _ first.1 }

-- an accepted order was entered
pub submit_is : (quorum : ℕ → ℕ → Bool) (limit i : ℕ) (l : List Entry) (c : Cabinet) (code : ℕ) (s : Step) → submit_step quorum limit i l c (Ok code) ≡ Ok s
    → Enters quorum i l c (order_entry c code) s
submit_is quorum limit i l c code s h =
    let first = guarded (eqb c.role 2) NotLeading (λ _. enter_step quorum limit i l c (order_entry c code)) s h in
    enters_is quorum limit i l c (order_entry c code) s (eqb-true c.role 2 first.0) first.1

-- an accepted change of members was entered
pub change_is : (quorum : ℕ → ℕ → Bool) (limit cabinets i : ℕ) (l : List Entry) (c : Cabinet) (version members : ℕ) (s : Step)
    → change_step quorum limit cabinets i l c version members ≡ Ok s → Enters quorum i l c (members_entry c members) s
change_is quorum limit cabinets i l c version members s h =
    let first = guarded (eqb c.role 2) NotLeading (λ _. and_then (change_checks quorum cabinets l c version members) (λ _. enter_step quorum limit i l c (members_entry c members))) s h in
    let second = answered (change_checks quorum cabinets l c version members) (λ _. enter_step quorum limit i l c (members_entry c members)) s first.1 in
    enters_is quorum limit i l c (members_entry c members) s (eqb-true c.role 2 first.0) second.2

-- a voter that is not later has not accepted a later epoch, nor more under the same
not_later_is : (a n b m : ℕ) → not (later (a, n) (b, m)) ≡ true → (a ≤ b) × (a ≡ b → n ≤ m)
not_later_is a n b m h =
    let parts = or_parts (ltb b a) (eqb a b && ltb m n) (not-true (later (a, n) (b, m)) h) in
    let longer : a ≡ b → m < n → (eqb a b && ltb m n) ≡ true = λ same less. and_from (eqb a b) (ltb m n) (eq-eqb a b same) (lt-ltb m n less) in
    (ltb-false b a parts.0, λ same. elim (cases_lt m n) [ inl less ↦ absurd (both_ways (eqb a b && ltb m n) parts.1 (longer same less)) | inr more ↦ more ])

-- an accepted candidate was not behind
pub candidate_is : (l : List Entry) (c : Cabinet) (e a n : ℕ) (s : Step) → candidate_step l c e a n ≡ Ok s
    → (c.accepted ≤ a) × (c.accepted ≡ a → length l ≤ n) × (leaves (promises e c) l Promise ≡ s)
candidate_is l c e a n s h =
    let first = guarded (not (later (c.accepted, length l) (a, n))) VoterAhead (λ _. Ok (leaves (promises e c) l Promise)) s h in
    let order = not_later_is c.accepted (length l) a n first.0 in
    (order.0, order.1, same_ok _ _ first.1)

-- an accepted history became the list, where it was of a later epoch or longer; else the list stayed
pub history_is : (limit : ℕ) (l : List Entry) (c : Cabinet) (e m : ℕ) (r : List Entry) (s : Step) → history_step limit l c e m r ≡ Ok s
    → (((c.accepted < e) ⊎ (length l < length r)) × (leaves (accepts e m c) r (Acknowledge (length r)) ≡ s)) ⊎ ((e ≤ c.accepted) × (length r ≤ length l) × (leaves (accepts e m c) l (Acknowledge (length l)) ≡ s))
history_is limit l c e m r s h =
    let put_in = and_then (unless (leb (length r) limit) Full) (λ _. and_then (unless (keeps_committed l c r) CommittedAltered) (λ _. follows_with e m c r)) in
    let first = guarded (leb m (length r)) FrameField (λ _. cond (ltb c.accepted e || ltb (length l) (length r)) put_in (follows_with e m c l)) s h in
    elim (cases_Bool (ltb c.accepted e || ltb (length l) (length r))) [
      | inl newer ↦
          let second = guarded (leb (length r) limit) Full (λ _. and_then (unless (keeps_committed l c r) CommittedAltered) (λ _. follows_with e m c r)) s (sym (cond-true _ put_in (follows_with e m c l) newer) ∙ first.1) in
          let third = guarded (keeps_committed l c r) CommittedAltered (λ _. follows_with e m c r) s second.1 in
          inl (
            elim (or_cases (ltb c.accepted e) (ltb (length l) (length r)) newer) [
              | inl later ↦ inl (ltb-true c.accepted e later)
              | inr longer ↦ inr (ltb-true (length l) (length r) longer)
            ],
            same_ok _ _ third.1,
          )
      | inr older ↦
          let parts = or_parts (ltb c.accepted e) (ltb (length l) (length r)) older in
          inr (ltb-false c.accepted e parts.0, ltb-false (length l) (length r) parts.1, same_ok _ _ (sym (cond-false _ put_in (follows_with e m c l) older) ∙ first.1))
    ]

-- an accepted entry was in the list already, or stands at its end
pub entry_is : (limit : ℕ) (l : List Entry) (c : Cabinet) (q m : ℕ) (x : Entry) (s : Step) → entry_step limit l c q m x ≡ Ok s
    → (goes_on_with m c l ≡ Ok s) ⊎ ((q ≡ length l) × (length l < limit) × (goes_on_with m c (l ++ x ∷ []) ≡ Ok s))
entry_is limit l c q m x s h =
    elim (cases_Bool (ltb q (length l))) [
      | inl before ↦ inl (sym (cond-true _ _ _ before) ∙ h)
      | inr from ↦
          elim (cases_Bool (ltb (length l) q)) [
            | inl beyond ↦ absurd (never Gap s (sym (cond-false _ _ _ from ∙ cond-true _ _ _ beyond) ∙ h))
            | inr at ↦
                let second = chosen_ok (ltb (length l) limit) (goes_on_with m c (l ++ x ∷ [])) Full s (sym (cond-false _ _ _ from ∙ cond-false _ _ _ at) ∙ h) in
                let here : q ≡ length l = omega (arith, ltb-false q (length l) from, ltb-false (length l) q at) in
                inr (here, ltb-true (length l) limit second.0, second.1)
          ]
    ]
