-- The numbers of records, lists and letters stay within their fields. Assumes nothing.
use Rattle.std.proofs.Common.{◌≡◌, ℕ, zero, suc, ◌+◌, ◌^◌, ◌<◌, ◌≤◌, Bool, not, ◌&&◌, eqb, ltb, leb, List, [], ◌∷◌, ◌++◌, length, get_or, Some, Ok, sym, refl, ap, subst, inl, inr, arith}
use Rattle.std.proofs.lemmas.List.{length_push, get_or_push, get_or_append_left}
use Rattle.std.proofs.lemmas.Bool.{cases_lt, cond_both, ltb-true, leb-true, and_parts}
use Rattle.std.proofs.lemmas.Bool.Decides.{nat_tests}
use Rattle.refusal.specs.declared.Refusal.TheVariants.{Stopped, Unsound, NotInPlay, NotLeading, EpochsSpent, Full, TooMuchAcknowledged}
use Rattle.refusal.specs.Answers.{and_then, unless}
use Rattle.orders.specs.Kinds.{between as in_range}
use Rattle.quorum.specs.Sets.{has}
use Rattle.journal.specs.declared.Entry.{Entry}
use Rattle.journal.specs.Entries.{blank}
use Rattle.entries.specs.Histories.{faultless, opens, goes_on}
use Rattle.entries.proofs.Trips.{FitsFields}
use Rattle.entries.proofs.ListTrips.{goes_on_each}
use Rattle.frames.specs.Letters.{Letter, Content, candidate, promise, history, entry, acknowledge, commit, carried, entries_in}
use Rattle.roundtrip.proofs.Back.{body_small}
use Rattle.roundtrip.proofs.Wide.{Wide}
use Rattle.cabinet.specs.declared.Cabinet.{Cabinet}
use Rattle.cabinet.specs.declared.Reply.{Reply}
use Rattle.cabinet.specs.declared.Reply.TheVariants.{Nothing, Candidate, Promise, History, Entry as EnteredReply, Acknowledge, Commit}
use Rattle.cabinet.specs.Epochs.{next_epoch, epoch_answer}
use Rattle.cabinet.specs.Records.{follows, marked, stands, gathers, raised, leads}
use Rattle.cabinet.specs.Soundness.{record_sound}
use Rattle.cabinet.specs.Steps.{Step, leaves, Outcome}
use Rattle.configurations.specs.Configurations.{in_play, members_before}
use Rattle.committing.specs.Committing.{elected, reached, committing, winning}
use Rattle.acts.specs.Acts.{stood, says_history, stand_step, refresh_step, enter_step, entered, submit_step, order_entry, change_checks, change_step, members_entry}
use Rattle.messages.specs.Messages.{counted, says_commit}
use Rattle.reactions.specs.Reactions.{content_step, admitted, react}
use Rattle.receiving.specs.Readiness.{sound, ready}
use Rattle.writing.specs.Speaking.{letter_after, letter_said}
use Rattle.agreement.proofs.Accepted.{guarded, answered, chosen_ok, refresh_is, candidate_is, history_is, entry_is}

-- a list within the limit, whose entries fit their fields
pub record Fitting (limit : ℕ) (l : List Entry) : Type 0 where
  pub short : length l ≤ limit
  pub fits : (k : ℕ) → k < length l → FitsFields (get_or l k blank)

-- a letter whose numbers fit their fields, with no more entries than the limit
pub record Carries (limit : ℕ) (t : Letter) : Type 0 where
  pub wide : Wide t
  pub few : length (entries_in t.content) ≤ limit

-- what a cabinet says is of its own record and list
abbrev pub OwnReply : Cabinet → List Entry → Reply → Type 0
OwnReply c l Nothing = Unit {0}
OwnReply c l (Candidate accepted n) = (accepted < 4294967296) × (n ≡ length l)
OwnReply c l Promise = Unit {0}
OwnReply c l (History mark) = mark ≡ c.mark
OwnReply c l (EnteredReply position mark) = (position < length l) × (mark ≡ c.mark)
OwnReply c l (Acknowledge n) = n ≡ length l
OwnReply c l (Commit mark) = mark ≡ c.mark

-- a step that leaves a 32-bit epoch, a list within its bounds, and says its own
pub record Sized (limit : ℕ) (s : Step) : Type 0 where
  pub narrow : s.cabinet.promised < 4294967296
  pub fitting : Fitting limit s.list
  pub own : OwnReply s.cabinet s.list s.reply

-- a letter without entries fits its fields where its three numbers do
wide_bare : (i e : ℕ) (t : Content) → e < 4294967296 → (carried t).first < 4294967296 → (carried t).second < 4294967296 → entries_in t ≡ [] → Carries 0 (record { sender = i; epoch = e; content = t })
wide_bare i e t narrow first second none =
    let empty : length (entries_in t) ≡ 0 = ap length none in
    record { wide = record { epoch = narrow; first = first; second = second; count = omega arith; entries = λ k there. absurd (let z : ⊥ = omega arith in z) }; few = omega arith }

-- a letter of few entries is one of more
carries_more : {limit limit' : ℕ} {t : Letter} → limit ≤ limit' → Carries limit t → Carries limit' t
carries_more more c = record { wide = c.wide; few = omega (arith, c.few) }

-- what a reply of a cabinet's own record and list says fits its fields
reply_wide : (limit i : ℕ) (c : Cabinet) (l : List Entry) (reply : Reply) (t : Letter) → limit ≤ 4000 → 1 ≤ limit → c.promised < 4294967296 → c.mark ≤ length l
    → Fitting limit l → OwnReply c l reply → letter_said i c.promised l reply ≡ Some t → Carries limit t
reply_wide limit i c l Nothing t most least narrow there f own said = absurd (let z : ◌≡◌ {A = ℕ} 0 1 = cc in let y : ⊥ = omega arith in y)
reply_wide limit i c l (Candidate accepted n) t most least narrow there f own said =
    subst (Carries limit) (let z : record { sender = i; epoch = c.promised; content = candidate accepted n } ≡ t = cc in z) (carries_more (omega arith) (wide_bare i c.promised (candidate accepted n) narrow own.0 (omega (arith, own.1, f.short)) refl))
reply_wide limit i c l Promise t most least narrow there f own said =
    subst (Carries limit) (let z : record { sender = i; epoch = c.promised; content = promise } ≡ t = cc in z) (carries_more (omega arith) (wide_bare i c.promised promise narrow (omega arith) (omega arith) refl))
reply_wide limit i c l (History mark) t most least narrow there f own said =
    subst (Carries limit) (let z : record { sender = i; epoch = c.promised; content = history mark l } ≡ t = cc in z)
    (record { wide = record { epoch = narrow; first = omega (arith, f.short); second = omega arith; count = omega (arith, f.short); entries = f.fits }; few = f.short })
reply_wide limit i c l (EnteredReply position mark) t most least narrow there f own said =
    subst (Carries limit) (let z : record { sender = i; epoch = c.promised; content = entry position mark (get_or l position blank) } ≡ t = cc in z)
    (record { wide = record { epoch = narrow; first = omega (arith, f.short, own.0); second = omega (arith, f.short, own.1); count = omega arith; entries = one }; few = omega arith })
  where
    one : (k : ℕ) → k < 1 → FitsFields (get_or (get_or l position blank ∷ []) k blank)
    one zero h = f.fits position own.0
    one (suc k) h = absurd (let z : ⊥ = omega arith in z)
reply_wide limit i c l (Acknowledge n) t most least narrow there f own said =
    subst (Carries limit) (let z : record { sender = i; epoch = c.promised; content = acknowledge n } ≡ t = cc in z) (carries_more (omega arith) (wide_bare i c.promised (acknowledge n) narrow (omega (arith, f.short)) (omega arith) refl))
reply_wide limit i c l (Commit mark) t most least narrow there f own said =
    subst (Carries limit) (let z : record { sender = i; epoch = c.promised; content = commit mark } ≡ t = cc in z) (carries_more (omega arith) (wide_bare i c.promised (commit mark) narrow (omega (arith, f.short)) (omega arith) refl))

-- the letter after such a step fits its fields
pub said_wide : (limit i : ℕ) (s : Step) (t : Letter) → limit ≤ 4000 → 1 ≤ limit → Sized limit s → s.cabinet.mark ≤ length s.list → letter_after i s ≡ Some t → Carries limit t
said_wide limit i s t most least z there said = reply_wide limit i s.cabinet s.list s.reply t most least z.narrow there z.fitting z.own said

-- a list with one entry more
fitting_push : {limit : ℕ} {l : List Entry} (x : Entry) → Fitting limit l → length l < limit → FitsFields x → Fitting limit (l ++ x ∷ [])
fitting_push {limit} {l} x f room fits =
    record {
      short = omega (arith, length_push l x);
      fits = λ k there. elim (cases_lt k (length l)) [
        | inl before ↦ subst FitsFields (sym (get_or_append_left l (x ∷ []) blank k before)) (f.fits k before)
        | inr from ↦ subst FitsFields (sym (get_or_push l x blank k (let z : length l ≡ k = omega (arith, length_push l x) in z))) fits
      ];
    }

-- a cabinet that is ready has a list within its bounds
pub ready_fitting : (codes : ℕ → Bool) (cabinets limit i : ℕ) (l : List Entry) (c : Cabinet) → c.promised < 4294967296 → ready codes cabinets limit i l c ≡ Ok tt → (c.accepted ≤ c.promised) × Fitting limit l
ready_fitting codes cabinets limit i l c narrow h =
    let first = guarded c.running Stopped (λ _. unless (sound codes cabinets limit i l c) Unsound) tt h in
    let second = (chosen_ok (sound codes cabinets limit i l c) (Ok tt) Unsound tt first.1).0 in
    let parts = and_parts (record_sound i (length l) c) (in_range 1 limit (length l) && faultless codes cabinets c.accepted l) second in
    let own = parts.0 in
    let order : c.accepted ≤ c.promised = grind (arith, nat_tests) in
    let held = and_parts (in_range 1 limit (length l)) (faultless codes cabinets c.accepted l) parts.1 in
    let on = (and_parts (opens l) (goes_on codes cabinets c.accepted 0 l) held.1).1 in
    let most = (and_parts (leb 1 (length l)) (leb (length l) limit) held.0).1 in (
      order,
      record {
        short = leb-true (length l) limit most;
        fits = λ k there.
            let each = goes_on_each codes cabinets c.accepted 0 l on k there in
            (omega (arith, each.0), body_small codes cabinets (get_or l k blank).kind (get_or l k blank).body each.1);
      },
    )

-- an accepted step is the one given
same_step : (limit : ℕ) (x s : Step) → ◌≡◌ {A = Outcome} (Ok x) (Ok s) → Sized limit x → Sized limit s
same_step limit x s h = subst (Sized limit) (let z : x ≡ s = cc in z)

-- committing promises nothing
pub committing_promised : (quorum : ℕ → ℕ → Bool) (i : ℕ) (l : List Entry) (c : Cabinet) → (committing quorum i l c).promised ≡ c.promised
committing_promised quorum i l c =
    let m = reached quorum l c in
    cond_both (ltb c.mark m && not (has (members_before l m) i)) (follows (marked m c)) (marked m c) (λ (d : Cabinet). d.promised ≡ c.promised) (λ _. refl) (λ _. refl)

-- who wins says its own history
wins_sized : (quorum : ℕ → ℕ → Bool) (limit i : ℕ) (l : List Entry) (c : Cabinet) → c.promised < 4294967296 → Fitting limit l → Sized limit (says_history l (winning quorum i l c))
wins_sized quorum limit i l c narrow f =
    record { narrow = omega (arith, committing_promised quorum i l (leads i (length l) c)); fitting = f; own = refl }

-- a cabinet of a 32-bit epoch with a list within its bounds
module _ (quorum : ℕ → ℕ → Bool) (limit i : ℕ) (l : List Entry) (c : Cabinet) (narrow : c.promised < 4294967296) (order : c.accepted ≤ c.promised) (f : Fitting limit l) where
  -- standing
  pub stand_sized : (s : Step) → stand_step quorum i l c ≡ Ok s → Sized limit s
  stand_sized s h =
      let first = guarded (in_play l c.mark i) NotInPlay (λ _. and_then (epoch_answer c.promised i) (λ epoch. Ok (stood quorum i l (stands i epoch c)))) s h in
      let second = answered (epoch_answer c.promised i) (λ epoch. Ok (stood quorum i l (stands i epoch c))) s first.1 in
      let third = chosen_ok (ltb (next_epoch c.promised i) (2 ^ 32)) (Ok (next_epoch c.promised i)) EpochsSpent second.0 second.1 in
      let ok = third.1 in
      let at : next_epoch c.promised i ≡ second.0 = cc in
      let below : next_epoch c.promised i < 4294967296 = ltb-true (next_epoch c.promised i) (2 ^ 32) third.0 in
      let d = stands i second.0 c in
      let small : second.0 < 4294967296 = omega (arith, at, below) in
      same_step limit (stood quorum i l d) s second.2
      (cond_both (elected quorum l d) (says_history l (winning quorum i l d)) (leaves d l (Candidate c.accepted (length l))) (Sized limit) (λ _. wins_sized quorum limit i l d small f)
      (λ _. record { narrow = small; fitting = f; own = (omega arith, refl) }))

  -- refreshing
  pub refresh_sized : (s : Step) → refresh_step l c ≡ Ok s → Sized limit s
  refresh_sized s h = subst (Sized limit) (refresh_is l c s h).1 (record { narrow = narrow; fitting = f; own = refl })

  -- entering an entry
  enter_sized : (x : Entry) (s : Step) → FitsFields x → enter_step quorum limit i l c x ≡ Ok s → Sized limit s
  enter_sized x s fits h =
      let first = chosen_ok (ltb (length l) limit) (Ok (leaves (entered quorum i l c x) (l ++ x ∷ []) (EnteredReply (length l) (entered quorum i l c x).mark))) Full s h in
      same_step limit _ s first.1
      (record {
        narrow = omega (arith, committing_promised quorum i (l ++ x ∷ []) (raised i (length l + 1) c));
        fitting = fitting_push x f (ltb-true (length l) limit first.0) fits;
        own = (omega (arith, length_push l x), refl);
      })

  -- submitting an order
  pub submit_sized : (code : ℕ) (s : Step) → code < 18446744073709551616 → submit_step quorum limit i l c (Ok code) ≡ Ok s → Sized limit s
  submit_sized code s fits h =
      let first = guarded (eqb c.role 2) NotLeading (λ _. enter_step quorum limit i l c (order_entry c code)) s h in
      enter_sized (order_entry c code) s (narrow, fits) first.1

  -- changing the members
  pub change_sized : (cabinets version members : ℕ) (s : Step) → members < 65536 → change_step quorum limit cabinets i l c version members ≡ Ok s → Sized limit s
  change_sized cabinets version members s fits h =
      let first = guarded (eqb c.role 2) NotLeading (λ _. and_then (change_checks quorum cabinets l c version members) (λ _. enter_step quorum limit i l c (members_entry c members))) s h in
      let second = answered (change_checks quorum cabinets l c version members) (λ _. enter_step quorum limit i l c (members_entry c members)) s first.1 in
      enter_sized (members_entry c members) s (narrow, omega arith) second.2

  -- what the content of a letter leaves
  content_sized : (sender e : ℕ) (t : Content) (s : Step) → Carries limit (record { sender = sender; epoch = e; content = t }) → content_step quorum limit i l c sender e t ≡ Ok s → Sized limit s
  content_sized sender e (candidate a k) s v h =
      subst (Sized limit) (candidate_is l c e a k s h).2 (record { narrow = v.wide.epoch; fitting = f; own = tt })
  content_sized sender e promise s v h =
      let d = gathers sender c in
      same_step limit (counted quorum i l d) s h
      (cond_both (elected quorum l d) (says_history l (winning quorum i l d)) (leaves d l Nothing) (Sized limit) (λ _. wins_sized quorum limit i l d narrow f) (λ _. record { narrow = narrow; fitting = f; own = tt }))
  content_sized sender e (history m r) s v h =
      elim (history_is limit l c e m r s h) [
        | inl newer ↦ subst (Sized limit) newer.1 (record { narrow = v.wide.epoch; fitting = record { short = v.few; fits = v.wide.entries }; own = refl })
        | inr older ↦ subst (Sized limit) older.2 (record { narrow = v.wide.epoch; fitting = f; own = refl })
      ]
  content_sized sender e (entry q m x) s v h =
      elim (entry_is limit l c q m x s h) [
        | inl known ↦ same_step limit _ s known (record { narrow = narrow; fitting = f; own = refl })
        | inr next ↦ same_step limit _ s next.2 (record { narrow = narrow; fitting = fitting_push x f next.1 (v.wide.entries 0 (omega arith)); own = refl })
      ]
  content_sized sender e (acknowledge k) s v h =
      let d = committing quorum i l (raised sender k c) in
      let first = guarded (leb k (length l)) TooMuchAcknowledged (λ _. Ok (leaves d l (says_commit c.mark d))) s h in
      same_step limit _ s first.1
      (record {
        narrow = omega (arith, committing_promised quorum i l (raised sender k c));
        fitting = f;
        own = cond_both (ltb c.mark d.mark) (Commit d.mark) Nothing (OwnReply d l) (λ _. refl) (λ _. tt);
      })
  content_sized sender e (commit m) s v h = same_step limit _ s h (record { narrow = narrow; fitting = f; own = tt })

  -- a letter that is handed
  pub react_sized : (t : Letter) (s : Step) → Carries limit t → react quorum limit i l c t ≡ Ok s → Sized limit s
  react_sized t s v h =
      let admits = answered (admitted i c t) (λ _. content_step quorum limit i l c t.sender t.epoch t.content) s h in
      content_sized t.sender t.epoch t.content s v admits.2
