-- The promise of agreement, over whole services. Assumes nothing.
use Rattle.std.proofs.Common.{◌≡◌, ℕ, ◌+◌, ◌-◌, ◌<◌, ◌≤◌, Bool, true, ◌⊎◌, List, length, get_or, Some, Ok, Err, sym, refl, ap, ◌∙◌, subst, inl, inr, arith}
use Rattle.std.proofs.lemmas.List.{length-take, get_or-take}
use Rattle.std.proofs.lemmas.Bool.{cases_lt, false≢true}
use Rattle.orders.specs.Kinds.{ReadsBack, CodesFit}
use Rattle.quorum.specs.Rules.{ShareMember}
use Rattle.journal.specs.declared.Entry.{Entry}
use Rattle.journal.specs.Entries.{blank}
use Rattle.frames.specs.Letters.{Letter, entry}
use Rattle.writing.specs.Speaking.{letter_by}
use Rattle.cabinet.specs.Steps.{Outcome}
use Rattle.calls.specs.Stations.{Station, cabinets, cabinet_at, founding_entry, founded}
use Rattle.calls.specs.Calls.{Kind, codes, Call, submit, change, stand, refresh, hand, stop, start, cabinet_of, outcome}
use Rattle.agreement.specs.Services.{Begins, committed, written_by, ReadsAs, enters, Entered, EnteredOnce, NeverDisputed, Agreement}
use Rattle.agreement.proofs.Ghost.{Ghost, founding_ghost, Event, event_of}
use Rattle.agreement.proofs.Committed.{front_goes_on, committed_comparable, committed_there, committed_once, epochs_rise}
use Rattle.agreement.proofs.Calling.{letter_event, event_by, entering}
use Rattle.agreement.proofs.Service.{Service}
use Rattle.agreement.proofs.Moments.{at, the_call, event_at, event_past, Later, later, founded_service}

-- a call that enters something is a submit or a change
event_enters : {A : Type 0} (c : Call A) (o : Outcome) (v : Event) → event_by c o ≡ Some v → enters c ≡ true
event_enters (submit i order k) o v is = refl
event_enters (change i version members k) o v is = refl
event_enters (stand i k) o v is = absurd (let z : ◌≡◌ {A = ℕ} 0 1 = cc in let y : ⊥ = omega arith in y)
event_enters (refresh i k) o v is = absurd (let z : ◌≡◌ {A = ℕ} 0 1 = cc in let y : ⊥ = omega arith in y)
event_enters (hand from i to) o v is = absurd (let z : ◌≡◌ {A = ℕ} 0 1 = cc in let y : ⊥ = omega arith in y)
event_enters (stop i) o v is = absurd (let z : ◌≡◌ {A = ℕ} 0 1 = cc in let y : ⊥ = omega arith in y)
event_enters (start i) o v is = absurd (let z : ◌≡◌ {A = ℕ} 0 1 = cc in let y : ⊥ = omega arith in y)

-- what such a call enters is what it writes
event_written : {A : Type 0} (c : Call A) (o : Outcome) → enters c ≡ true → event_by c o ≡ letter_event (written_by (cabinet_of c) o)
event_written (submit i order k) o asked = refl
event_written (change i version members k) o asked = refl
event_written (stand i k) o asked = absurd (false≢true asked)
event_written (refresh i k) o asked = absurd (false≢true asked)
event_written (hand from i to) o asked = absurd (false≢true asked)
event_written (stop i) o asked = absurd (false≢true asked)
event_written (start i) o asked = absurd (false≢true asked)

-- letters of entries that are the same have the same epoch and position
same_letter : (i e e' q q' m m' : ℕ) (x x' : Entry) → Some (letter_by i e (entry q m x)) ≡ Some (letter_by i e' (entry q' m' x')) → (e ≡ e') × (q ≡ q')
same_letter i e e' q q' m m' x x' same =
    let inner : letter_by i e (entry q m x) ≡ letter_by i e' (entry q' m' x') = cc in
    let content : entry q m x ≡ entry q' m' x' = ap (λ (t : Letter). t.content) inner in
    (ap (λ (t : Letter). t.epoch) inner, cc)

module _ {A : Type 0} (kind : Kind A) (quorum : ℕ → ℕ → Bool) (back : ReadsBack kind.proper kind.encode kind.decode) where
  -- what an event tells of its call: it wrote the entry at its epoch and position, which reads back as what it named
  record EventOf (s : Station) (c : Call A) (v : Event) : Type 0 where
    entered : Entered kind quorum s c v.entry.epoch v.position
    same : entered.what ≡ v.entry
    reads : ReadsAs kind c v.entry

  -- every event is one
  event_is : (s : Station) (c : Call A) (o : Outcome) (v : Event) → outcome kind quorum s c ≡ o → event_by c o ≡ Some v → EventOf s c v
  event_is s c (Err e) v is made =
      let asked = event_enters c (Err e) v made in
      let clash = sym (event_written c (Err e) asked) ∙ made in
      absurd (let z : ◌≡◌ {A = ℕ} 0 1 = cc in let y : ⊥ = omega arith in y)
  event_is s c (Ok step) v is made =
      let asked = event_enters c (Ok step) v made in
      let w = entering kind quorum back s c step asked is in
      let some : Some (event_of w.position w.what) ≡ Some v = sym (event_written c (Ok step) asked ∙ ap letter_event w.frame) ∙ made in
      let same : event_of w.position w.what ≡ v = cc in
      subst (EventOf s c) same
      (record {
        entered = record { is_entering = asked; mark = w.mark; what = w.what; frame = ap (written_by (cabinet_of c)) is ∙ w.frame };
        same = refl;
        reads = w.reads;
      })

  -- whatever a call entered at an epoch and a position is its event
  entered_event : (s : Station) (c : Call A) (o : Outcome) (epoch position : ℕ) → outcome kind quorum s c ≡ o → Entered kind quorum s c epoch position
      → (v : Event) × (event_by c o ≡ Some v) × (v.epoch ≡ epoch) × (v.position ≡ position)
  entered_event s c (Err e) epoch position is x =
      let clash = sym (ap (written_by (cabinet_of c)) is) ∙ x.frame in
      absurd (let z : ◌≡◌ {A = ℕ} 0 1 = cc in let y : ⊥ = omega arith in y)
  entered_event s c (Ok step) epoch position is x =
      let w = entering kind quorum back s c step x.is_entering is in
      let same = same_letter (cabinet_of c) w.what.epoch epoch w.position position w.mark x.mark w.what x.what (sym w.frame ∙ sym (ap (written_by (cabinet_of c)) is) ∙ x.frame) in
      (event_of w.position w.what, event_written c (Ok step) x.is_entering ∙ ap letter_event w.frame, same.0, same.1)

  module _ (fit : CodesFit kind.proper kind.encode) (share : ShareMember quorum quorum) (founding : Station) (calls : List (Call A)) (g : Ghost)
      (first : Service (codes kind) quorum (event_at kind quorum founding calls) (cabinets founding) 0 g founding) where
    -- all holds at a moment
    reached : (n : ℕ) → Later kind quorum founding calls fit share 0 g n
    reached n = subst (Later kind quorum founding calls fit share 0 g) (let z : 0 + n ≡ n = omega arith in z) (later kind quorum founding calls fit share 0 g first n)

    -- and from there on at every later one
    onward : (m n : ℕ) → m ≤ n → Later kind quorum founding calls fit share m (reached m).ghost n
    onward m n order =
        subst (Later kind quorum founding calls fit share m (reached m).ghost) (let z : m + (n - m) ≡ n = omega arith in z) (later kind quorum founding calls fit share m (reached m).ghost (reached m).service (n - m))

    -- the station at a moment
    abbrev now : ℕ → Station
    now n = at kind quorum founding calls n

    -- of two moments in their order, committed lists agree
    agree_onward : (m n i j : ℕ) → m ≤ n → i < cabinets founding → j < cabinets founding
        → Begins (committed (now m) i) (committed (now n) j) ⊎ Begins (committed (now n) j) (committed (now m) i)
    agree_onward m n i j order in-i in-j =
        let x = reached m in
        let y = onward m n order in
        let both = committed_comparable share x.service.inv y.service.inv y.grow i j in-i in-j in
        elim (cases_lt (cabinet_at (now m) i).mark (cabinet_at (now n) j).mark) [
          | inl less ↦ inl (front_goes_on (cabinet_at (now n) j).mark (omega arith) (both.shorter (omega arith)))
          | inr more ↦ inr (front_goes_on (cabinet_at (now m) i).mark more (both.longer more))
        ]

    -- a place of a committed list is one before the mark
    before_mark : (n i p : ℕ) → p < length (committed (now n) i) → p < (cabinet_at (now n) i).mark
    before_mark n i p there = omega (arith, length-take (cabinet_at (now n) i).mark ((now n).lists i))

    -- and has the list's entry
    committed_at : (n i p : ℕ) → p < length (committed (now n) i) → get_or ((now n).lists i) p blank ≡ get_or (committed (now n) i) p blank
    committed_at n i p there = sym (get_or-take (cabinet_at (now n) i).mark ((now n).lists i) p blank (before_mark n i p there))

    -- each committed entry was entered by exactly one call
    once : (n i p : ℕ) → i < cabinets founding → 1 ≤ p → p < length (committed (now n) i) → EnteredOnce kind quorum founding calls n p (get_or (committed (now n) i) p blank)
    once n i p in-i least there =
        let o = committed_once (reached n).service.inv i in-i p least (before_mark n i p there) in
        let e = get_or ((now n).lists i) p blank in
        let k = o.call in
        let c = the_call kind quorum founding calls k in
        let w = event_is (now k) c (outcome kind quorum (now k) c) (event_of p e) refl o.entered in
        subst (EnteredOnce kind quorum founding calls n p) (committed_at n i p there)
        (record {
          by_call = k;
          by_then = o.past;
          made = elim (cases_lt k (length calls)) [
            | inl made ↦ made
            | inr past ↦ absurd (let clash = sym (event_past kind quorum founding calls k past) ∙ o.entered in let z : ◌≡◌ {A = ℕ} 0 1 = cc in let y : ⊥ = omega arith in y)
          ];
          entered = w.entered;
          same = w.same;
          reads_back = w.reads;
          no_other = λ m past made x.
              let d = the_call kind quorum founding calls m in
              let v = entered_event (now m) d (outcome kind quorum (now m) d) e.epoch p refl x in
              o.only_one m v.0 past v.1 v.2 v.3;
        })

    -- the service is without dispute
    undisputed : NeverDisputed kind quorum founding calls
    undisputed =
        record {
          agree = λ m n i j in-i in-j. elim (cases_lt n m) [
            | inl less ↦ elim (agree_onward n m j i (omega arith) in-j in-i) [ inl begins ↦ inr begins | inr begins ↦ inl begins ]
            | inr order ↦ agree_onward m n i j order in-i in-j
          ];
          kept = λ m n i order in-i.
              let y = onward m n order in
              front_goes_on (cabinet_at (now n) i).mark (y.rises i) (y.keeps i in-i);
          entered_once = once;
          epochs_rise = λ n i p q in-i order there.
              let inv = (reached n).service.inv in
              let at_p = ap (λ (x : Entry). x.epoch) (committed_at n i p (omega arith)) in
              let at-q = ap (λ (x : Entry). x.epoch) (committed_at n i q there) in
              omega (arith, at_p, at-q, epochs_rise inv i in-i p q order (omega (arith, before_mark n i q there, committed_there inv i in-i)));
        }

-- every service of a lawful kind and rule is without dispute
pub agreement : {A : Type 0} (kind : Kind A) (quorum : ℕ → ℕ → Bool) → ReadsBack kind.proper kind.encode kind.decode → CodesFit kind.proper kind.encode
    → ShareMember quorum quorum → (s : Station) → Agreement kind quorum s
agreement kind quorum back fit share s members accepted calls =
    undisputed kind quorum back fit share (founded s members) calls (founding_ghost (founding_entry members))
    (founded_service (codes kind) quorum (event_at kind quorum (founded s members) calls) s members)
