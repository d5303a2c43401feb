-- What holds of a station in a service, and that every call keeps it. Assumes nothing.
use Rattle.std.proofs.Common.{◌≡◌, ℕ, ◌+◌, ◌-◌, ◌*◌, ◌%◌, ◌<◌, ◌≤◌, Bool, true, ◌&&◌, eqb, ltb, leb, List, ◌++◌, length, get_or, replicate, Some, None, Ok, Option, Result, sym, refl, ap, ◌∙◌, subst, inl, inr, arith}
use Rattle.std.specs.List.{between}
use Rattle.std.proofs.lemmas.List.Edits.{length-between}
use Rattle.std.proofs.lemmas.List.{length-append, length-replicate, length-set, get_or-set_same, get_or-set_other}
use Rattle.std.proofs.lemmas.Bool.{cases_eq, cond-true, cond-false, ltb-true, eq-eqb, ne_eqb}
use Rattle.std.proofs.lemmas.Bool.Decides.{nat_tests}
use Rattle.refusal.specs.declared.Refusal.{Refusal}
use Rattle.refusal.specs.declared.Refusal.TheVariants.{OutOfBounds, NoCabinet, NoTray}
use Rattle.refusal.specs.Answers.{and_then, unless}
use Rattle.orders.specs.Kinds.{between as in_range}
use Rattle.journal.specs.declared.Entry.{Entry}
use Rattle.entries.proofs.ListTrips.{bytes_length}
use Rattle.frames.specs.Letters.{Letter, entries_in, fields_of, frame_length, frame_bytes}
use Rattle.frames.specs.Reading.{decode}
use Rattle.roundtrip.proofs.Wide.{wide_back}
use Rattle.writing.specs.Speaking.{letter_after, spoken_into}
use Rattle.writing.specs.Writing.{over}
use Rattle.cabinet.specs.declared.Cabinet.{Cabinet}
use Rattle.cabinet.specs.declared.Reply.TheVariants.{Nothing}
use Rattle.cabinet.specs.Steps.{Step, leaves, Outcome}
use Rattle.receiving.specs.Readiness.{tray_length}
use Rattle.calls.specs.Stations.{Station, cabinets, cabinet_at, no_cabinet, tray_count, tray_at, in_bounds, named, has_tray, ready_at, trays_after, station_after}
use Rattle.calls.specs.Calls.{acting, switching}
use Rattle.agreement.proofs.Prefix.{Agree, agree_refl}
use Rattle.agreement.proofs.Ghost.{Ghost, Valid, Event, Inv}
use Rattle.agreement.proofs.Growth.{Grow, grow_refl, valid_grows, said_valid}
use Rattle.agreement.proofs.Accepted.{guarded, answered, chosen_ok}
use Rattle.agreement.proofs.Steps.{Becomes, Stepped, next_call}
use Rattle.agreement.proofs.Committed.{committed_there}
use Rattle.calls.proofs.Trays.{part_written, tray_within, tray_other}
use Rattle.agreement.proofs.Widths.{Carries, Sized, said_wide}

-- the bytes of tray k among all of them
abbrev pub tray_in : ℕ → List ℕ → ℕ → List ℕ
tray_in limit bytes k = between (k * tray_length limit) (k * tray_length limit + tray_length limit) bytes

-- what a letter says is true, and it fits its fields
pub record Told (g : Ghost) (limit : ℕ) (t : Letter) : Type 0 where
  pub valid : Valid g t
  pub carries : Carries limit t

-- whatever a tray with a frame is read as was told
abbrev pub TraysTold : (ℕ → Bool) → ℕ → ℕ → Ghost → List ℕ → Type 0
TraysTold codes n limit g bytes =
    (k : ℕ) (t : Letter) → (get_or (tray_in limit bytes k) 0 0 ≡ 0 → ⊥) → decode codes n limit (tray_in limit bytes k) ≡ Ok t → Told g limit t

-- what was told stays told
told_grows : {g h : Ghost} {limit : ℕ} {t : Letter} → Grow g h → Told g limit t → Told h limit t
told_grows grow x = record { valid = valid_grows grow x.valid; carries = x.carries }

-- a letter in a tray takes all of it
frame_fills : (limit size : ℕ) (t : Letter) → Carries limit t → size ≡ tray_length limit → length (frame_bytes t ++ replicate (size - frame_length (fields_of t).count) 0) ≡ tray_length limit
frame_fills limit size t c is =
    let es = entries_in t.content in
    let rest : ℕ = size - frame_length (length es) in
    omega (arith, length-append (frame_bytes t) (replicate {A = ℕ} rest 0), length-replicate {A = ℕ} rest 0, bytes_length es, c.few)

-- a letter that was told, written into a tray, leaves told trays
trays_next : (codes : ℕ → Bool) (n : ℕ) (s : Station) (g h : Ghost) (k : ℕ) (o : Option Letter) → Grow g h → TraysTold codes n s.limit g s.trays
    → ((t : Letter) → o ≡ Some t → (k < tray_count s) × Told h s.limit t) → TraysTold codes n s.limit h (trays_after s k o)
trays_next codes n s g h k None grow old new j u filled read = told_grows grow (old j u filled read)
trays_next codes n s g h k (Some t) grow old new j u filled read =
    let limit = s.limit in
    let L = tray_length limit in
    let out = s.trays in
    let told = new t refl in
    let within : k * L + L ≤ length out = tray_within k L (length out) told.0 in
    let bs = spoken_into (tray_at s k) (Some t) in
    let size : length (tray_at s k) ≡ L = length-between out (k * L) (k * L + L) within ∙ (let z : k * L + L - k * L ≡ L = omega arith in z) in
    let long : length bs ≡ L = frame_fills limit (length (tray_at s k)) t told.1.carries size in
    elim (cases_eq j k) [
      | inl same ↦
          let is : tray_in limit (over out (k * L) bs) j ≡ bs = ap (tray_in limit (over out (k * L) bs)) same ∙ part_written out (k * L) L bs long (omega arith) in
          let only = wide_back codes n limit t u _ told.1.carries.wide (sym (ap (decode codes n limit) is) ∙ read) in
          subst (Told h limit) only told.1
      | inr apart ↦
          let is : tray_in limit (over out (k * L) bs) j ≡ tray_in limit out j = tray_other out j k L bs long within apart in
          told_grows grow (old j u (λ empty. filled (ap (λ (b : List ℕ). get_or b 0 0) is ∙ empty)) (sym (ap (decode codes n limit) is) ∙ read))
    ]

-- what the bounds of a station tell
pub record Bounded (s : Station) : Type 0 where
  pub few : cabinets s ≤ 16
  pub least : 2 ≤ s.limit
  pub most : s.limit ≤ 4000

-- bounds that hold, of any numbers
bounds_tell : (n o m x y : ℕ) → (in_range 1 16 n && leb n o && in_range 2 4000 m && eqb x 0 && in_range 1 64 y) ≡ true → (n ≤ 16) × (2 ≤ m) × (m ≤ 4000)
bounds_tell n o m x y h = grind (arith, nat_tests)

-- a station whose parts are within their bounds
pub bounded : (s : Station) → in_bounds s ≡ true → Bounded s
bounded s h =
    let x = bounds_tell (cabinets s) s.owners s.limit (length s.trays % tray_length s.limit) (tray_count s) h in
    record { few = x.0; least = x.1; most = x.2 }

-- a cabinet that is named is in the table of a station within its bounds
pub named_is : (s : Station) (i : ℕ) (u : Unit {0}) → named s i ≡ Ok u → Bounded s × (i < cabinets s)
named_is s i u h =
    let first = guarded (in_bounds s) OutOfBounds (λ _. unless (ltb i (cabinets s)) NoCabinet) u h in
    (bounded s first.0, ltb-true i (cabinets s) (chosen_ok (ltb i (cabinets s)) (Ok tt) NoCabinet u first.1).0)

-- what the checks before a cabinet's own step tell
pub record Acted (codes : ℕ → Bool) (s : Station) (i k : ℕ) : Type 0 where
  pub bounds : Bounded s
  pub there : i < cabinets s
  pub tray : k < tray_count s
  pub is_ready : ready_at codes s i ≡ Ok tt

-- an accepted call of a cabinet passed its checks, and its step was accepted
pub acting_is : (codes : ℕ → Bool) (s : Station) (i k : ℕ) (step : Outcome) (st : Step) → acting codes s i k step ≡ Ok st → Acted codes s i k × (step ≡ Ok st)
acting_is codes s i k step st h =
    let first = answered (named s i) (λ _. and_then (has_tray s k) (λ _. and_then (ready_at codes s i) (λ _. step))) st h in
    let second = guarded (ltb k (tray_count s)) NoTray (λ _. and_then (ready_at codes s i) (λ _. step)) st first.2 in
    let third = answered (ready_at codes s i) (λ _. step) st second.1 in
    let name = named_is s i first.0 first.1 in
    (record { bounds = name.0; there = name.1; tray = ltb-true k (tray_count s) second.0; is_ready = third.1 }, third.2)

-- the same of a call that concerns the record alone
pub switching_is : (s : Station) (i : ℕ) (step : Result Cabinet Refusal) (st : Step) → switching s i step ≡ Ok st → Bounded s × (i < cabinets s) × (d : Cabinet) × (step ≡ Ok d) × (leaves d (s.lists i) Nothing ≡ st)
switching_is s i step st h =
    let first = answered (named s i) (λ _. and_then step (λ d. Ok (leaves d (s.lists i) Nothing))) st h in
    let second = answered step (λ d. Ok (leaves d (s.lists i) Nothing)) st first.2 in
    let name = named_is s i first.0 first.1 in
    let ok = second.2 in
    let same : leaves second.0 (s.lists i) Nothing ≡ st = cc in
    (name.0, name.1, second.0, second.1, same)

-- what an accepted step leaves of table and lists
pub becomes : (s : Station) (i k : ℕ) (step : Step) → i < cabinets s
    → Becomes (cabinet_at s) s.lists (cabinet_at (station_after s i k (Ok step))) (station_after s i k (Ok step)).lists i step
becomes s i k step there =
    record {
      cabinet = get_or-set_same s.table i step.cabinet no_cabinet there;
      list = cond-true (eqb i i) _ _ (eq-eqb i i refl);
      other_cabinets = λ j apart. get_or-set_other s.table i j step.cabinet no_cabinet apart;
      other_lists = λ j apart. cond-false (eqb j i) _ _ (ne_eqb j i apart);
    }

module _ (codes : ℕ → Bool) (quorum : ℕ → ℕ → Bool) (event : ℕ → Option Event) (n : ℕ) where
  -- what holds of a station with so many cabinets, after so many calls
  pub record Service (now : ℕ) (g : Ghost) (s : Station) : Type 0 where
    pub inv : Inv event quorum quorum n now g (cabinet_at s) s.lists
    pub size : cabinets s ≡ n
    pub narrow : (i : ℕ) → i < n → (cabinet_at s i).promised < 4294967296
    pub trays : TraysTold codes n s.limit g s.trays

  -- what a call leaves: all still holds, and no committed list shrinks
  pub record Next (now : ℕ) (g : Ghost) (s s' : Station) : Type 0 where
    pub ghost : Ghost
    pub grow : Grow g ghost
    pub service : Service (now + 1) ghost s'
    pub rises : (j : ℕ) → (cabinet_at s j).mark ≤ (cabinet_at s' j).mark
    pub keeps : (j : ℕ) → j < n → Agree (cabinet_at s j).mark (s.lists j) (s'.lists j)

  -- a call that leaves the station as it was
  pub refused : {now : ℕ} {g : Ghost} {s : Station} → event now ≡ None → Service now g s → Next now g s s
  refused {now} {g} {s} none x =
      record {
        ghost = g;
        grow = grow_refl g;
        service = record { inv = next_call none x.inv; size = x.size; narrow = x.narrow; trays = x.trays };
        rises = λ j. omega arith;
        keeps = λ j there. agree_refl (cabinet_at s j).mark (s.lists j) (committed_there x.inv j there);
      }

  -- a call whose step was accepted
  pub accepted : {now : ℕ} {g : Ghost} {s : Station} (i k : ℕ) (step : Step) → Service now g s → Bounded s → i < cabinets s
      → step.cabinet.promised < 4294967296 → ((t : Letter) → letter_after i step ≡ Some t → (k < tray_count s) × Sized s.limit step)
      → Stepped event quorum n now g (cabinet_at s) s.lists (cabinet_at (station_after s i k (Ok step))) (station_after s i k (Ok step)).lists i step
      → Next now g s (station_after s i k (Ok step))
  accepted {now} {g} {s} i k step x bounds there small said stepped =
      let h = stepped.ghost in
      let after = becomes s i k step there in
      let in_table : i < n = omega (arith, x.size) in
      let marked : step.cabinet.mark ≤ length step.list = subst (λ (l : List Entry). step.cabinet.mark ≤ length l) after.list (subst (λ (c : Cabinet). c.mark ≤ length ((station_after s i k (Ok step)).lists i)) after.cabinet (committed_there stepped.inv i in_table)) in
      record {
        ghost = h;
        grow = stepped.grow;
        service = record {
          inv = stepped.inv;
          size = length-set s.table i step.cabinet ∙ x.size;
          narrow = λ j at. elim (cases_eq j i) [
            | inl same ↦ subst (λ (m : ℕ). (cabinet_at (station_after s i k (Ok step)) m).promised < 4294967296) (sym same) (subst (λ (c : Cabinet). c.promised < 4294967296) (sym after.cabinet) small)
            | inr apart ↦ subst (λ (c : Cabinet). c.promised < 4294967296) (sym (after.other_cabinets j apart)) (x.narrow j at)
          ];
          trays = trays_next codes n s g h k (letter_after i step) stepped.grow x.trays
              (λ t is. ((said t is).0, record { valid = said_valid (letter_after i step) stepped.said is; carries = said_wide s.limit i step t bounds.most (omega (arith, bounds.least)) (said t is).1 marked is }));
        };
        rises = stepped.rises;
        keeps = stepped.keeps;
      }
