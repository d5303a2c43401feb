-- The steps of a service: all holds at its founding, and after each call. Assumes nothing.
use Rattle.std.proofs.Common.{◌≡◌, ℕ, ◌+◌, ◌<◌, ◌≤◌, Bool, true, false, cond, eqb, List, [], ◌∷◌, length, get_or, Some, None, Ok, Err, Option, sym, refl, ap, ◌∙◌, subst, inl, inr, arith}
use Rattle.std.proofs.lemmas.Bool.{false≢true, cases_lt, cases_eq, eqb-true, ne_eqb, cond-false, and_parts}
use Rattle.refusal.specs.declared.Refusal.TheVariants.{Stopped, Running}
use Rattle.quorum.specs.Rules.{ShareMember}
use Rattle.journal.specs.declared.Entry.{Entry}
use Rattle.journal.specs.Entries.{blank}
use Rattle.entries.specs.Histories.{is_configuration, founding}
use Rattle.frames.specs.Letters.{Letter}
use Rattle.cabinet.specs.declared.Cabinet.{Cabinet}
use Rattle.cabinet.specs.declared.Reply.TheVariants.{Nothing}
use Rattle.cabinet.specs.Records.{follows, switched, stop_step, start_step}
use Rattle.cabinet.specs.Steps.{Step, leaves}
use Rattle.acts.specs.Acts.{stand_step, refresh_step, submit_step, change_step, order_entry, members_entry}
use Rattle.reactions.specs.Reactions.{react}
use Rattle.writing.specs.Speaking.{letter_after}
use Rattle.agreement.proofs.Prefix.{Agree, agree_refl}
use Rattle.agreement.proofs.Ghost.{Ghost, founding_ghost, Cover, Follows, Valid, ValidSaid, Holds, Event, event_of, Inv}
use Rattle.agreement.proofs.Growth.{Grow, grow_refl}
use Rattle.agreement.proofs.Moves.{put, put_is, entries_later}
use Rattle.agreement.proofs.Acting.{At, quiet_move, follower}
use Rattle.agreement.proofs.Accepted.{chosen_ok, submit_is, change_is}
use Rattle.agreement.proofs.Stepping.{Done, stand_done, refresh_done, enter_done, react_done}

-- the cabinets and lists after a step of cabinet i: its own as the step leaves them, the others as they were
pub record Becomes (cabs : ℕ → Cabinet) (lists : ℕ → List Entry) (cabs' : ℕ → Cabinet) (lists' : ℕ → List Entry) (i : ℕ) (s : Step) : Type 0 where
  pub cabinet : cabs' i ≡ s.cabinet
  pub list : lists' i ≡ s.list
  pub other_cabinets : (j : ℕ) → (j ≡ i → ⊥) → cabs' j ≡ cabs j
  pub other_lists : (j : ℕ) → (j ≡ i → ⊥) → lists' j ≡ lists j

-- what a call that makes a step of cabinet i leaves: all still holds, what is said is true, and no committed list shrinks
pub record Stepped (event : ℕ → Option Event) (quorum : ℕ → ℕ → Bool) (n now : ℕ) (g : Ghost) (cabs : ℕ → Cabinet) (lists : ℕ → List Entry) (cabs' : ℕ → Cabinet) (lists' : ℕ → List Entry) (i : ℕ) (s : Step) : Type 0 where
  pub ghost : Ghost
  pub grow : Grow g ghost
  pub inv : Inv event quorum quorum n (now + 1) ghost cabs' lists'
  pub said : ValidSaid ghost (letter_after i s)
  pub rises : (j : ℕ) → (cabs j).mark ≤ (cabs' j).mark
  pub keeps : (j : ℕ) → j < n → Agree (cabs j).mark (lists j) (lists' j)

-- a call that enters nothing, refused or not, lets all hold at the next
pub next_call : {event : ℕ → Option Event} {elects commits : ℕ → ℕ → Bool} {n now : ℕ} {g : Ghost} {cabs : ℕ → Cabinet} {lists : ℕ → List Entry}
    → event now ≡ None → Inv event elects commits n now g cabs lists → Inv event elects commits n (now + 1) g cabs lists
next_call {event} {now = now} none inv =
    let old : (k : ℕ) (v : Event) → k < now + 1 → event k ≡ Some v → k < now
    = λ k v past is. elim (cases_lt k now) [
      | inl less ↦ less
      | inr more ↦ absurd (let at : k ≡ now = omega arith in let clash : ◌≡◌ {A = Option Event} None (Some v) = sym none ∙ ap event (sym at) ∙ is in let z : ◌≡◌ {A = ℕ} 0 1 = cc in let y : ⊥ = omega arith in y)
    ] in
    record {
      cabinets = inv.cabinets;
      votes = inv.votes;
      stands = inv.stands;
      founded = inv.founded;
      winners = inv.winners;
      reach = inv.reach;
      carried = inv.carried;
      entries = λ e w. entries_later (now + 1) (omega arith) (inv.entries e w);
      events = λ k v past is. inv.events k v (old k v past is) is;
      unique = λ k m v w past-k past-m is-k is_m. inv.unique k m v w (old k v past-k is-k) (old m w past-m is_m) is-k is_m;
    }

-- at the founding every cabinet of the table has the founding entry committed, and no call has entered anything
pub founded_all : (event : ℕ → Option Event) (elects commits : ℕ → ℕ → Bool) (n now : ℕ) (x : Entry) (cabs : ℕ → Cabinet) (lists : ℕ → List Entry)
    → founding x ≡ true → ((k : ℕ) → k < now → event k ≡ None)
    → ((i : ℕ) → i < n → ((cabs i).accepted ≡ 0) × ((cabs i).mark ≡ 1) × ((cabs i).role ≡ 0) × (lists i ≡ x ∷ [])) → Inv event elects commits n now (founding_ghost x) cabs lists
founded_all event elects commits n now x cabs lists found silent start =
    let parts = and_parts (is_configuration x.kind) (eqb x.epoch 0) found in
    let never : (k : ℕ) (v : Event) → k < now → event k ≡ Some v → ⊥ = λ k v past is. let clash : ◌≡◌ {A = Option Event} None (Some v) = sym (silent k past) ∙ is in let z : ◌≡◌ {A = ℕ} 0 1 = cc in omega arith in
    let whole = agree_refl 1 (x ∷ []) (omega arith) in
    record {
      cabinets = λ i in_table.
          let s = start i in_table in
          let g = founding_ghost x in
          let follow : Follows g 0 (x ∷ []) = record { is_won = refl; from_base = whole; in_log = whole } in
          let cover : Cover g 0 1 (x ∷ []) = record { source = 0; is_won = refl; below = omega arith; within = omega arith; agrees = whole } in
          subst (λ (r : List Entry). Holds g i (cabs i) r) (sym s.3)
          (follower (cabs i) (x ∷ []) s.2 (subst (λ (e : ℕ). Follows g e (x ∷ [])) (sym s.0) follow) (omega (arith, s.0)) (subst (λ (e : ℕ). g.held e i ≡ 1) (sym s.0) refl)
          (λ e after. cond-false _ _ _ (ne_eqb e 0 (λ same. let z : ⊥ = omega arith in z))) (omega (arith, s.1)) (subst (λ (e : ℕ). Cover g e (cabs i).mark (x ∷ [])) (sym s.0) (subst (λ (m : ℕ). Cover g 0 m (x ∷ [])) (sym s.1) cover)));
      votes = λ e j cast. absurd (false≢true cast);
      stands = λ e stood. absurd (false≢true stood);
      founded = record { is_won = refl; top_one = refl; filled = omega arith; configured = parts.0 };
      winners = λ e w positive. absurd (let z : ⊥ = omega (arith, eqb-true e 0 w) in z);
      reach = λ e w. omega arith;
      carried = λ e q w positive first below. absurd (let z : ⊥ = omega arith in z);
      entries = λ e w. record {
        origin = λ q first there. absurd (let z : ⊥ = omega arith in z);
        rising = λ p q order there. subst (λ (k : ℕ). (get_or (x ∷ []) p blank).epoch ≤ (get_or (x ∷ []) k blank).epoch) (let z : 0 ≡ q = omega arith in z) (subst (λ (k : ℕ). (get_or (x ∷ []) k blank).epoch ≤ x.epoch) (let z : 0 ≡ p = omega arith in z) (omega arith));
        most = λ q there. subst (λ (k : ℕ). (get_or (x ∷ []) k blank).epoch ≤ e) (let z : 0 ≡ q = omega arith in z) (omega (arith, eqb-true x.epoch 0 parts.1));
      };
      events = λ k v past is. absurd (never k v past is);
      unique = λ k m v w past-k past-m is-k is_m same-epoch same_place. absurd (never k v past-k is-k);
    }

module _ {event : ℕ → Option Event} {quorum : ℕ → ℕ → Bool} {n now : ℕ} {g : Ghost} {cabs : ℕ → Cabinet} {lists : ℕ → List Entry} {cabs' : ℕ → Cabinet}
    {lists' : ℕ → List Entry} {i : ℕ} {s : Step}
    (small : n ≤ 16) (within : i < n) (inv : Inv event quorum quorum n now g cabs lists) (becomes : Becomes cabs lists cabs' lists' i s) where
  -- all holds where cabinet i has the record and list that it has
  start : At event quorum quorum n cabs lists i now g (cabs i) (lists i)
  start =
      record { all = subst (λ (f : ℕ → Cabinet). Inv event quorum quorum n now g f (put lists i (lists i))) (sym (put_is cabs cabs i (cabs i) refl (λ x apart. refl))) (subst (λ (f : ℕ → List Entry). Inv event quorum quorum n now g cabs f) (sym (put_is lists lists i (lists i) refl (λ x apart. refl))) inv) }

  -- what a step leaves is left of all
  stepped : Done event quorum n cabs lists i (now + 1) g (cabs i) (lists i) s → Stepped event quorum n now g cabs lists cabs' lists' i s
  stepped d =
      record {
        ghost = d.ghost;
        grow = d.grow;
        said = d.said;
        inv = subst (λ (f : ℕ → Cabinet). Inv event quorum quorum n (now + 1) d.ghost f lists') (put_is cabs cabs' i s.cabinet becomes.cabinet becomes.other_cabinets) (subst (λ (f : ℕ → List Entry). Inv event quorum quorum n (now + 1) d.ghost (put cabs i s.cabinet) f) (put_is lists lists' i s.list becomes.list becomes.other_lists) d.state.all);
        rises = λ j. elim (cases_eq j i) [
          | inl same ↦ subst (λ (k : ℕ). (cabs k).mark ≤ (cabs' k).mark) (sym same) (subst (λ (c : Cabinet). (cabs i).mark ≤ c.mark) (sym becomes.cabinet) d.rises)
          | inr apart ↦ subst (λ (c : Cabinet). (cabs j).mark ≤ c.mark) (sym (becomes.other_cabinets j apart)) (omega arith)
        ];
        keeps = λ j in_table. elim (cases_eq j i) [
          | inl same ↦ subst (λ (k : ℕ). Agree (cabs k).mark (lists k) (lists' k)) (sym same) (subst (Agree (cabs i).mark (lists i)) (sym becomes.list) d.keeps)
          | inr apart ↦ subst (Agree (cabs j).mark (lists j)) (sym (becomes.other_lists j apart)) (agree_refl (cabs j).mark (lists j) (inv.cabinets j in_table).cover.agrees.right)
        ];
      }

  -- what a step leaves holds at the next call, where the call enters nothing
  ticked : event now ≡ None → Done event quorum n cabs lists i now g (cabs i) (lists i) s → Stepped event quorum n now g cabs lists cabs' lists' i s
  ticked none d =
      stepped (record { ghost = d.ghost; grow = d.grow; state = record { all = next_call none d.state.all }; said = d.said; rises = d.rises; keeps = d.keeps })

  -- standing
  pub stand_kept : event now ≡ None → stand_step quorum i (lists i) (cabs i) ≡ Ok s → Stepped event quorum n now g cabs lists cabs' lists' i s
  stand_kept none h = ticked none (stand_done event quorum n cabs lists i small within start s h)

  -- refreshing
  pub refresh_kept : event now ≡ None → refresh_step (lists i) (cabs i) ≡ Ok s → Stepped event quorum n now g cabs lists cabs' lists' i s
  refresh_kept none h = ticked none (refresh_done event quorum n cabs lists i small within start s h)

  -- submitting an order
  pub submit_kept : (limit code : ℕ) → event now ≡ Some (event_of (length (lists i)) (order_entry (cabs i) code))
      → submit_step quorum limit i (lists i) (cabs i) (Ok code) ≡ Ok s → Stepped event quorum n now g cabs lists cabs' lists' i s
  submit_kept limit code entered h =
      stepped (enter_done event quorum n cabs lists i small within start (order_entry (cabs i) code) s refl entered (submit_is quorum limit i (lists i) (cabs i) code s h))

  -- changing the members
  pub change_kept : (limit cabinets version members : ℕ) → event now ≡ Some (event_of (length (lists i)) (members_entry (cabs i) members))
      → change_step quorum limit cabinets i (lists i) (cabs i) version members ≡ Ok s → Stepped event quorum n now g cabs lists cabs' lists' i s
  change_kept limit cabinets version members entered h =
      stepped (enter_done event quorum n cabs lists i small within start (members_entry (cabs i) members) s refl entered (change_is quorum limit cabinets i (lists i) (cabs i) version members s h))

  -- a letter that is handed
  pub react_kept : ShareMember quorum quorum → (limit : ℕ) (t : Letter) → event now ≡ None → Valid g t → react quorum limit i (lists i) (cabs i) t ≡ Ok s
      → Stepped event quorum n now g cabs lists cabs' lists' i s
  react_kept share limit t none v h = ticked none (react_done event quorum n cabs lists i small within start share limit t s v h)

module _ {event : ℕ → Option Event} {quorum : ℕ → ℕ → Bool} {n now : ℕ} {g : Ghost} {cabs : ℕ → Cabinet} {lists : ℕ → List Entry} {cabs' : ℕ → Cabinet}
    {lists' : ℕ → List Entry} {i : ℕ} {d : Cabinet}
    (small : n ≤ 16) (within : i < n) (inv : Inv event quorum quorum n now g cabs lists) (becomes : Becomes cabs lists cabs' lists' i (leaves d (lists i) Nothing)) (none : event now ≡ None) where
  -- a change of the record that keeps its mark and promises no lower epoch
  record_kept : (cabs i).promised ≤ d.promised → (cabs i).mark ≡ d.mark → Holds g i d (lists i)
      → Stepped event quorum n now g cabs lists cabs' lists' i (leaves d (lists i) Nothing)
  record_kept more same holds =
      let here = start small within inv becomes in
      ticked small within inv becomes none
      (record {
        ghost = g;
        grow = grow_refl g;
        state = quiet_move event quorum quorum n cabs lists i small within here d (lists i) more holds;
        said = tt;
        rises = omega arith;
        keeps = agree_refl (cabs i).mark (lists i) (inv.cabinets i within).cover.agrees.right;
      })

  -- stopping
  pub stop_kept : stop_step (cabs i) ≡ Ok d → Stepped event quorum n now g cabs lists cabs' lists' i (leaves d (lists i) Nothing)
  stop_kept h =
      let x = inv.cabinets i within in
      let c = cabs i in
      let is : switched false (follows c) ≡ d = let t = (chosen_ok c.running (Ok (switched false (follows c))) Stopped d h).1 in cc in
      record_kept (subst (λ (e : Cabinet). c.promised ≤ e.promised) is (omega arith)) (ap (λ (e : Cabinet). e.mark) is)
      (subst (λ (e : Cabinet). Holds g i e (lists i)) is (follower (switched false (follows c)) (lists i) refl x.follows x.accepted_most x.holds x.no_later x.mark_least x.cover))

  -- starting
  pub start_kept : start_step (cabs i) ≡ Ok d → Stepped event quorum n now g cabs lists cabs' lists' i (leaves d (lists i) Nothing)
  start_kept h =
      let x = inv.cabinets i within in
      let c = cabs i in
      let is : switched true c ≡ d = started c.running c d h in
      record_kept (subst (λ (e : Cabinet). c.promised ≤ e.promised) is (omega arith)) (ap (λ (e : Cabinet). e.mark) is)
      (subst (λ (e : Cabinet). Holds g i e (lists i)) is
      (record {
        follows = x.follows;
        accepted_most = x.accepted_most;
        holds = x.holds;
        no_later = x.no_later;
        mark_least = x.mark_least;
        cover = x.cover;
        standing = λ r. let y = x.standing r in record {
          owned = y.owned;
          above = y.above;
          unwon = y.unwon;
          stood = y.stood;
          accepted = y.accepted;
          list = y.list;
          gathered = y.gathered;
        };
        leading = λ r. let y = x.leading r in record {
          owned = y.owned;
          positive = y.positive;
          accepted = y.accepted;
          whole = y.whole;
          topmost = y.topmost;
          known = y.known;
        };
      }))
    where
      started : (b : Bool) (c e : Cabinet) → cond b (Err Running) (Ok (switched true c)) ≡ Ok e → switched true c ≡ e
      started true c e k = absurd (let z : ◌≡◌ {A = ℕ} 0 1 = cc in let y : ⊥ = omega arith in y)
      started false c e k = cc
