-- What each call of a service enters, and that all holds after it. Assumes nothing.
use Rattle.std.proofs.Common.{◌≡◌, ℕ, ◌+◌, ◌-◌, ◌<◌, ◌≤◌, Bool, true, false, cond, not, eqb, ltb, List, [], ◌∷◌, ◌++◌, length, get_or, Some, None, Ok, Err, Option, sym, refl, ap, ◌∙◌, subst, arith}
use Rattle.std.proofs.lemmas.List.{get_or_push}
use Rattle.std.proofs.lemmas.Bool.{false≢true, ltb-true, eqb-true, eqb-false, not-true, and_parts}
use Rattle.refusal.specs.declared.Refusal.{Refusal}
use Rattle.refusal.specs.declared.Refusal.TheVariants.{NoTray, EmptyTray, Stopped, Running, NotLeading, WrongVersion, ChangePending, BadMembers, MembersBehind}
use Rattle.refusal.specs.Answers.{and_then, unless}
use Rattle.orders.specs.Kinds.{code_answer, ReadsBack, CodesFit}
use Rattle.quorum.specs.Rules.{ShareMember}
use Rattle.journal.specs.declared.Entry.{Entry}
use Rattle.journal.specs.Entries.{blank, members_of}
use Rattle.entries.specs.Histories.{names_members}
use Rattle.frames.specs.Letters.{Letter, Content, candidate, promise, history, entry, acknowledge, commit}
use Rattle.frames.specs.Reading.{decode}
use Rattle.writing.specs.Speaking.{letter_by, letter_after}
use Rattle.cabinet.specs.declared.Cabinet.{Cabinet}
use Rattle.cabinet.specs.declared.Reply.TheVariants.{Nothing}
use Rattle.cabinet.specs.Records.{holders, raised, follows, switched, stop_step, start_step}
use Rattle.cabinet.specs.Steps.{Step, leaves, Outcome}
use Rattle.configurations.specs.Configurations.{version_before, last_before}
use Rattle.acts.specs.Acts.{stand_step, refresh_step, submit_step, change_step, change_checks, enter_step, entered, order_entry, members_entry}
use Rattle.reactions.specs.Reactions.{react, hear_step}
use Rattle.calls.specs.Stations.{Station, cabinets, cabinet_at, tray_count, tray_at, named, has_tray, ready_at, station_after}
use Rattle.calls.specs.Calls.{Kind, codes, Call, submit, change, stand, refresh, hand, stop, start, cabinet_of, tray_of, outcome}
use Rattle.agreement.specs.Services.{written_by, ReadsAs, enters}
use Rattle.agreement.proofs.Ghost.{Ghost, Event, event_of}
use Rattle.agreement.proofs.Accepted.{guarded, answered, chosen_ok, Enters, submit_is, change_is}
use Rattle.agreement.proofs.Steps.{Stepped, stand_kept, refresh_kept, submit_kept, change_kept, react_kept, stop_kept, start_kept}
use Rattle.agreement.proofs.Widths.{Fitting, ready_fitting, committing_promised, stand_sized, refresh_sized, submit_sized, change_sized, react_sized}
use Rattle.agreement.proofs.Service.{Bounded, Acted, acting_is, switching_is, named_is, becomes, Service, Next, refused, accepted}

-- the event of a content: an entry at its position
abbrev pub content_event : Content → Option Event
content_event (candidate a n) = None
content_event promise = None
content_event (history m l) = None
content_event (entry q m x) = Some (event_of q x)
content_event (acknowledge n) = None
content_event (commit m) = None

-- the event of a letter that may be there
abbrev pub letter_event : Option Letter → Option Event
letter_event (Some t) = content_event t.content
letter_event None = None

-- what a call enters: the entry in the frame of an accepted submit or change
abbrev pub event_by : {A : Type 0} → Call A → Outcome → Option Event
event_by (submit i order k) o = letter_event (written_by i o)
event_by (change i version members k) o = letter_event (written_by i o)
event_by (stand i k) o = None
event_by (refresh i k) o = None
event_by (hand from i to) o = None
event_by (stop i) o = None
event_by (start i) o = None

-- a refused call enters nothing
refused_none : {A : Type 0} (c : Call A) (e : Refusal) → event_by c (Err e) ≡ None
refused_none (submit i order k) e = refl
refused_none (change i version members k) e = refl
refused_none (stand i k) e = refl
refused_none (refresh i k) e = refl
refused_none (hand from i to) e = refl
refused_none (stop i) e = refl
refused_none (start i) e = refl

-- what an accepted submit or change has written: the entry, at its epoch and position
pub record Entering {A : Type 0} (kind : Kind A) (c : Call A) (step : Step) : Type 0 where
  pub what : Entry
  pub position : ℕ
  pub mark : ℕ
  pub frame : letter_after (cabinet_of c) step ≡ Some (letter_by (cabinet_of c) what.epoch (entry position mark what))
  pub reads : ReadsAs kind c what

-- the letter of an entry that a leader entered
entered_letter : (quorum : ℕ → ℕ → Bool) (i : ℕ) (l : List Entry) (c : Cabinet) (x : Entry) (step : Step) → c.promised ≡ x.epoch → Enters quorum i l c x step
    → letter_after i step ≡ Some (letter_by i x.epoch (entry (length l) (entered quorum i l c x).mark x))
entered_letter quorum i l c x step at e =
    let epoch : (entered quorum i l c x).promised ≡ x.epoch = committing_promised quorum i (l ++ x ∷ []) (raised i (length l + 1) c) ∙ at in
    let what : get_or (l ++ x ∷ []) (length l) blank ≡ x = get_or_push l x blank (length l) refl in
    ap (letter_after i) (sym e.is)
    ∙ ap (λ (p : ℕ). Some (letter_by i p (entry (length l) (entered quorum i l c x).mark (get_or (l ++ x ∷ []) (length l) blank)))) epoch
    ∙ ap (λ (y : Entry). Some (letter_by i x.epoch (entry (length l) (entered quorum i l c x).mark y))) what

-- an accepted order was proper
submit_proper : (quorum : ℕ → ℕ → Bool) (limit i : ℕ) (l : List Entry) (c : Cabinet) (p : Bool) (code : ℕ) (step : Step) → submit_step quorum limit i l c (code_answer p code) ≡ Ok step
    → (p ≡ true) × (submit_step quorum limit i l c (Ok code) ≡ Ok step)
submit_proper quorum limit i l c true code step h = (refl, h)
submit_proper quorum limit i l c false code step h =
    let first = guarded (eqb c.role 2) NotLeading (λ _. and_then (code_answer false code) (λ n. enter_step quorum limit i l c (order_entry c n))) step h in
    let clash = first.1 in
    absurd (let z : ◌≡◌ {A = ℕ} 0 1 = cc in let y : ⊥ = omega arith in y)

-- members that are named are nothing else
names_tell : (n members : ℕ) → names_members n members ≡ true → members_of members ≡ members
names_tell n members h = eqb-true (members_of members) members (and_parts _ _ (and_parts _ _ h).0).0

-- an accepted change names members
change_named : (quorum : ℕ → ℕ → Bool) (limit n i : ℕ) (l : List Entry) (c : Cabinet) (version members : ℕ) (step : Step) → change_step quorum limit n i l c version members ≡ Ok step
    → members_of members ≡ members
change_named quorum limit n i l c version members step h =
    let last = λ (_ : Unit {0}). unless (quorum members (holders c (c.mark - 1))) MembersBehind in
    let third = λ (_ : Unit {0}). and_then (unless (names_members n members) BadMembers) last in
    let second = λ (_ : Unit {0}). and_then (unless (ltb (last_before l (length l)) c.mark) ChangePending) third in
    let led = guarded (eqb c.role 2) NotLeading (λ _. and_then (change_checks quorum n l c version members) (λ _. enter_step quorum limit i l c (members_entry c members))) step h in
    let checks = answered (change_checks quorum n l c version members) (λ _. enter_step quorum limit i l c (members_entry c members)) step led.1 in
    let a = guarded (eqb version (version_before l (length l))) WrongVersion second checks.0 checks.1 in
    let b = guarded (ltb (last_before l (length l)) c.mark) ChangePending third checks.0 a.1 in
    names_tell n members (guarded (names_members n members) BadMembers last checks.0 b.1).0

module _ {A : Type 0} (kind : Kind A) (quorum : ℕ → ℕ → Bool) (back : ReadsBack kind.proper kind.encode kind.decode) where
  -- every accepted submit or change has written what it named
  pub entering : (s : Station) (c : Call A) (step : Step) → enters c ≡ true → outcome kind quorum s c ≡ Ok step → Entering kind c step
  entering s (submit i order k) step asked h =
      let l = s.lists i in
      let c = cabinet_at s i in
      let a = acting_is (codes kind) s i k (submit_step quorum s.limit i l c (code_answer (kind.proper order) (kind.encode order))) step h in
      let p = submit_proper quorum s.limit i l c (kind.proper order) (kind.encode order) step a.1 in
      let x = order_entry c (kind.encode order) in
      record {
        what = x;
        position = length l;
        mark = (entered quorum i l c x).mark;
        frame = entered_letter quorum i l c x step refl (submit_is quorum s.limit i l c (kind.encode order) step p.1);
        reads = (refl, back order p.0);
      }
  entering s (change i version members k) step asked h =
      let l = s.lists i in
      let c = cabinet_at s i in
      let a = acting_is (codes kind) s i k (change_step quorum s.limit (cabinets s) i l c version members) step h in
      let x = members_entry c members in
      record {
        what = x;
        position = length l;
        mark = (entered quorum i l c x).mark;
        frame = entered_letter quorum i l c x step refl (change_is quorum s.limit (cabinets s) i l c version members step a.1);
        reads = (refl, change_named quorum s.limit (cabinets s) i l c version members step a.1);
      }
  entering s (stand i k) step asked h = absurd (false≢true asked)
  entering s (refresh i k) step asked h = absurd (false≢true asked)
  entering s (hand from i to) step asked h = absurd (false≢true asked)
  entering s (stop i) step asked h = absurd (false≢true asked)
  entering s (start i) step asked h = absurd (false≢true asked)

-- a cabinet that starts has promised what it had
started_promised : (b : Bool) (c d : Cabinet) → cond b (Err Running) (Ok (switched true c)) ≡ Ok d → c.promised ≡ d.promised
started_promised true c d h = absurd (let z : ◌≡◌ {A = ℕ} 0 1 = cc in let y : ⊥ = omega arith in y)
started_promised false c d h = cc

module _ {A : Type 0} (kind : Kind A) (quorum : ℕ → ℕ → Bool) (fit : CodesFit kind.proper kind.encode) (share : ShareMember quorum quorum) (event : ℕ → Option Event) (n : ℕ) where
  -- what is told of a cabinet that is ready
  ready_told : {now : ℕ} {g : Ghost} {s : Station} (i : ℕ) → Service (codes kind) quorum event n now g s → i < cabinets s → ready_at (codes kind) s i ≡ Ok tt
      → ((cabinet_at s i).promised < 4294967296) × ((cabinet_at s i).accepted ≤ (cabinet_at s i).promised) × Fitting s.limit (s.lists i)
  ready_told {s = s} i x there is_ready =
      let narrow = x.narrow i (omega (arith, x.size)) in
      let r = ready_fitting (codes kind) (cabinets s) s.limit i (s.lists i) (cabinet_at s i) narrow is_ready in
      (narrow, r.0, r.1)

  -- what an accepted hand tells: the tray's frame reads as a letter, which the cabinet takes
  record Handed (s : Station) (from i to : ℕ) (step : Step) : Type 0 where
    acted : Acted (codes kind) s i to
    filled : get_or (tray_at s from) 0 0 ≡ 0 → ⊥
    letter : Letter
    read : decode (codes kind) (cabinets s) s.limit (tray_at s from) ≡ Ok letter
    taken : react quorum s.limit i (s.lists i) (cabinet_at s i) letter ≡ Ok step

  -- every accepted hand is one
  handed : (s : Station) (from i to : ℕ) (step : Step) → outcome kind quorum s (hand from i to) ≡ Ok step → Handed s from i to step
  handed s from i to step h =
      let heard = hear_step (codes kind) quorum (cabinets s) s.limit i (s.lists i) (cabinet_at s i) (tray_at s from) in
      let fifth = λ (_ : Unit {0}). heard in
      let fourth = λ (_ : Unit {0}). and_then (ready_at (codes kind) s i) fifth in
      let third = λ (_ : Unit {0}). and_then (unless (not (eqb (get_or (tray_at s from) 0 0) 0)) EmptyTray) fourth in
      let second = λ (_ : Unit {0}). and_then (has_tray s to) third in
      let a = answered (named s i) (λ _. and_then (has_tray s from) second) step h in
      let b = guarded (ltb from (tray_count s)) NoTray second step a.2 in
      let c = guarded (ltb to (tray_count s)) NoTray third step b.1 in
      let d = guarded (not (eqb (get_or (tray_at s from) 0 0) 0)) EmptyTray fourth step c.1 in
      let e = answered (ready_at (codes kind) s i) fifth step d.1 in
      let f = answered (decode (codes kind) (cabinets s) s.limit (tray_at s from)) (react quorum s.limit i (s.lists i) (cabinet_at s i)) step e.2 in
      let name = named_is s i a.0 a.1 in
      record {
        acted = record { bounds = name.0; there = name.1; tray = ltb-true to (tray_count s) c.0; is_ready = e.1 };
        filled = eqb-false (get_or (tray_at s from) 0 0) 0 (not-true (eqb (get_or (tray_at s from) 0 0) 0) d.0);
        letter = f.0;
        read = f.1;
        taken = f.2;
      }

  -- a call that says nothing and promises no other epoch
  switched_next : {now : ℕ} {g : Ghost} {s : Station} (i : ℕ) (d : Cabinet) → Service (codes kind) quorum event n now g s → Bounded s → i < cabinets s
      → (cabinet_at s i).promised ≡ d.promised
      → Stepped event quorum n now g (cabinet_at s) s.lists (cabinet_at (station_after s i 0 (Ok (leaves d (s.lists i) Nothing)))) (station_after s i 0 (Ok (leaves d (s.lists i) Nothing))).lists i (leaves d (s.lists i) Nothing)
      → Next (codes kind) quorum event n now g s (station_after s i 0 (Ok (leaves d (s.lists i) Nothing)))
  switched_next {s = s} i d x bounds there epoch stepped =
      accepted (codes kind) quorum event n i 0 (leaves d (s.lists i) Nothing) x bounds there (omega (arith, epoch, x.narrow i (omega (arith, x.size))))
      (λ t said. absurd (let z : ◌≡◌ {A = ℕ} 0 1 = cc in let y : ⊥ = omega arith in y)) stepped

  -- all holds after a call, accepted or refused
  pub call_next : {now : ℕ} {g : Ghost} {s : Station} (c : Call A) (o : Outcome) → outcome kind quorum s c ≡ o → event now ≡ event_by c o → Service (codes kind) quorum event n now g s
      → Next (codes kind) quorum event n now g s (station_after s (cabinet_of c) (tray_of c) o)
  call_next c (Err e) is at x = refused (codes kind) quorum event n (at ∙ refused_none c e) x
  call_next {s = s} (submit i order k) (Ok step) is at x =
      let a = acting_is (codes kind) s i k (submit_step quorum s.limit i (s.lists i) (cabinet_at s i) (code_answer (kind.proper order) (kind.encode order))) step is in
      let p = submit_proper quorum s.limit i (s.lists i) (cabinet_at s i) (kind.proper order) (kind.encode order) step a.1 in
      let r = ready_told i x a.0.there a.0.is_ready in
      let letter = entered_letter quorum i (s.lists i) (cabinet_at s i) (order_entry (cabinet_at s i) (kind.encode order)) step refl (submit_is quorum s.limit i (s.lists i) (cabinet_at s i) (kind.encode order) step p.1) in
      let sized = submit_sized quorum s.limit i (s.lists i) (cabinet_at s i) r.0 r.1 r.2 (kind.encode order) step (fit order p.0) p.1 in
      accepted (codes kind) quorum event n i k step x a.0.bounds a.0.there sized.narrow (λ t said. (a.0.tray, sized))
      (submit_kept (omega (arith, x.size, a.0.bounds.few)) (omega (arith, x.size, a.0.there)) x.inv (becomes s i k step a.0.there) s.limit (kind.encode order) (at ∙ ap letter_event letter) p.1)
  call_next {s = s} (change i version members k) (Ok step) is at x =
      let a = acting_is (codes kind) s i k (change_step quorum s.limit (cabinets s) i (s.lists i) (cabinet_at s i) version members) step is in
      let r = ready_told i x a.0.there a.0.is_ready in
      let named = change_named quorum s.limit (cabinets s) i (s.lists i) (cabinet_at s i) version members step a.1 in
      let small : members < 65536 = omega (arith, named) in
      let letter = entered_letter quorum i (s.lists i) (cabinet_at s i) (members_entry (cabinet_at s i) members) step refl (change_is quorum s.limit (cabinets s) i (s.lists i) (cabinet_at s i) version members step a.1) in
      let sized = change_sized quorum s.limit i (s.lists i) (cabinet_at s i) r.0 r.1 r.2 (cabinets s) version members step small a.1 in
      accepted (codes kind) quorum event n i k step x a.0.bounds a.0.there sized.narrow (λ t said. (a.0.tray, sized))
      (change_kept (omega (arith, x.size, a.0.bounds.few)) (omega (arith, x.size, a.0.there)) x.inv (becomes s i k step a.0.there) s.limit (cabinets s) version members (at ∙ ap letter_event letter) a.1)
  call_next {s = s} (stand i k) (Ok step) is at x =
      let a = acting_is (codes kind) s i k (stand_step quorum i (s.lists i) (cabinet_at s i)) step is in
      let r = ready_told i x a.0.there a.0.is_ready in
      let sized = stand_sized quorum s.limit i (s.lists i) (cabinet_at s i) r.0 r.1 r.2 step a.1 in
      accepted (codes kind) quorum event n i k step x a.0.bounds a.0.there sized.narrow (λ t said. (a.0.tray, sized))
      (stand_kept (omega (arith, x.size, a.0.bounds.few)) (omega (arith, x.size, a.0.there)) x.inv (becomes s i k step a.0.there) at a.1)
  call_next {s = s} (refresh i k) (Ok step) is at x =
      let a = acting_is (codes kind) s i k (refresh_step (s.lists i) (cabinet_at s i)) step is in
      let r = ready_told i x a.0.there a.0.is_ready in
      let sized = refresh_sized quorum s.limit i (s.lists i) (cabinet_at s i) r.0 r.1 r.2 step a.1 in
      accepted (codes kind) quorum event n i k step x a.0.bounds a.0.there sized.narrow (λ t said. (a.0.tray, sized))
      (refresh_kept (omega (arith, x.size, a.0.bounds.few)) (omega (arith, x.size, a.0.there)) x.inv (becomes s i k step a.0.there) at a.1)
  call_next {s = s} (hand from i to) (Ok step) is at x =
      let d = handed s from i to step is in
      let a = d.acted in
      let r = ready_told i x a.there a.is_ready in
      let told = x.trays from d.letter d.filled (subst (λ (m : ℕ). decode (codes kind) m s.limit (tray_at s from) ≡ Ok d.letter) x.size d.read) in
      let sized = react_sized quorum s.limit i (s.lists i) (cabinet_at s i) r.0 r.1 r.2 d.letter step told.carries d.taken in
      accepted (codes kind) quorum event n i to step x a.bounds a.there sized.narrow (λ t said. (a.tray, sized))
      (react_kept (omega (arith, x.size, a.bounds.few)) (omega (arith, x.size, a.there)) x.inv (becomes s i to step a.there) share s.limit d.letter at told.valid d.taken)
  call_next {now} {g} {s} (stop i) (Ok step) is at x =
      let w = switching_is s i (stop_step (cabinet_at s i)) step is in
      let d = w.2 in
      let same = (chosen_ok (cabinet_at s i).running (Ok (switched false (follows (cabinet_at s i)))) Stopped d w.3).1 in
      let epoch : (cabinet_at s i).promised ≡ d.promised = cc in
      subst (λ (st : Step). Next (codes kind) quorum event n now g s (station_after s i 0 (Ok st))) w.4
      (switched_next i d x w.0 w.1 epoch
      (stop_kept (omega (arith, x.size, w.0.few)) (omega (arith, x.size, w.1)) x.inv (becomes s i 0 (leaves d (s.lists i) Nothing) w.1) at w.3))
  call_next {now} {g} {s} (start i) (Ok step) is at x =
      let w = switching_is s i (start_step (cabinet_at s i)) step is in
      let d = w.2 in
      let epoch : (cabinet_at s i).promised ≡ d.promised = started_promised (cabinet_at s i).running (cabinet_at s i) d w.3 in
      subst (λ (st : Step). Next (codes kind) quorum event n now g s (station_after s i 0 (Ok st))) w.4
      (switched_next i d x w.0 w.1 epoch
      (start_kept (omega (arith, x.size, w.0.few)) (omega (arith, x.size, w.1)) x.inv (becomes s i 0 (leaves d (s.lists i) Nothing) w.1) at w.3))
