-- The moves of one cabinet that stand, and those that change its list. Assumes nothing.
use Rattle.std.proofs.Common.{◌≡◌, ℕ, ◌+◌, ◌<◌, ◌≤◌, max, Bool, true, false, List, [], ◌∷◌, ◌++◌, length, get_or, set, Some, Option, sym, refl, ap, ◌∙◌, subst, inl, inr, arith}
use Rattle.std.proofs.lemmas.List.{length_push, get_or_push, get_or_append_left}
use Rattle.std.proofs.lemmas.Bool.{cases_lt, cases_Bool}
use Rattle.journal.specs.declared.Entry.{Entry}
use Rattle.journal.specs.Entries.{blank}
use Rattle.cabinet.specs.declared.Cabinet.{Cabinet}
use Rattle.cabinet.specs.Epochs.{owner_of}
use Rattle.cabinet.specs.Records.{promises, stands, raised, marked}
use Rattle.messages.specs.Messages.{accepts}
use Rattle.agreement.proofs.Prefix.{Agree, agree_refl, agree_sym, agree_trans, agree_down, agree_on, agree_push, agree_more}
use Rattle.agreement.proofs.Ghost.{Ghost, Cover, Follows, Holds, Event, event_of, Entered, Origin, Entries, Inv}
use Rattle.agreement.proofs.Growth.{grow_trans, cover_grows, follows_grows}
use Rattle.agreement.proofs.Moves.{put, put_same}
use Rattle.agreement.proofs.Changes.{put_at, at_same, at_other, put_was, voted_ghost, stood_ghost, entered_ghost, held_ghost, voted_move, stood_move, entered_move}
use Rattle.agreement.proofs.Sets.{has_only, set_cases}
use Rattle.agreement.proofs.Acting.{At, Reaches, mine, follows_at, held_at, hold_move, not_cast, moved, follower, cover_on, quiet_move, vote_move}

-- fewer entries are covered where more are
pub cover_down : {g : Ghost} {a m : ℕ} {l : List Entry} (k : ℕ) → k ≤ m → Cover g a m l → Cover g a k l
cover_down k h c = record { source = c.source; is_won = c.is_won; below = c.below; within = omega (arith, c.within); agrees = agree_down k h c.agrees }

-- the entries of a list and one more, of epoch e, that is entered by this call
entries_push : {event : ℕ → Option Event} {now e : ℕ} (l : List Entry) (x : Entry) → x.epoch ≡ e → event now ≡ Some (event_of (length l) x)
    → Entries event now e l → Entries event (now + 1) e (l ++ x ∷ [])
entries_push {event} {now} {e} l x own entered so_far =
    let last : get_or (l ++ x ∷ []) (length l) blank ≡ x = get_or_push l x blank (length l) refl in
    let old : (q : ℕ) → q < length l → get_or (l ++ x ∷ []) q blank ≡ get_or l q blank = λ q there. get_or_append_left l (x ∷ []) blank q there in
    let size = length_push l x in
    let most : (q : ℕ) → q < length (l ++ x ∷ []) → (get_or (l ++ x ∷ []) q blank).epoch ≤ e
    = λ q there. elim (cases_lt q (length l)) [
      | inl less ↦ let z : (get_or (l ++ x ∷ []) q blank).epoch ≤ e = omega (arith, ap (λ (y : Entry). y.epoch) (old q less), so_far.most q less) in z
      | inr more ↦ let at : q ≡ length l = omega arith in let z : (get_or (l ++ x ∷ []) q blank).epoch ≤ e = omega (arith, ap (λ (k : ℕ). (get_or (l ++ x ∷ []) k blank).epoch) at, ap (λ (y : Entry). y.epoch) last) in z
    ] in
    record {
      origin = λ q first there.
          elim (cases_lt q (length l)) [
            | inl less ↦ let o = so_far.origin q first less in subst (Origin event (now + 1) q) (sym (old q less)) (record { call = o.call; past = omega (arith, o.past); entered = o.entered })
            | inr more ↦ let at : length l ≡ q = omega arith in subst (λ (k : ℕ). Origin event (now + 1) k (get_or (l ++ x ∷ []) k blank)) at (subst (Origin event (now + 1) (length l)) (sym last) (record { call = now; past = omega arith; entered = entered }))
          ];
      rising = λ p q order there.
          elim (cases_lt q (length l)) [
            | inl less ↦ let z : (get_or (l ++ x ∷ []) p blank).epoch ≤ (get_or (l ++ x ∷ []) q blank).epoch = omega (arith, ap (λ (y : Entry). y.epoch) (old q less), ap (λ (y : Entry). y.epoch) (old p (omega arith)), so_far.rising p q order less) in z
            | inr more ↦ let at : q ≡ length l = omega arith in let z : (get_or (l ++ x ∷ []) p blank).epoch ≤ (get_or (l ++ x ∷ []) q blank).epoch = omega (arith, ap (λ (k : ℕ). (get_or (l ++ x ∷ []) k blank).epoch) at, ap (λ (y : Entry). y.epoch) last, most p (omega arith)) in z
          ];
      most = most;
    }

module _ (event : ℕ → Option Event) (elects commits : ℕ → ℕ → Bool) (n : ℕ) (cabs : ℕ → Cabinet) (lists : ℕ → List Entry) (i : ℕ) (small : n ≤ 16)
    (within : i < n) {now : ℕ} {g : Ghost} {c : Cabinet} {l : List Entry} (state : At event elects commits n cabs lists i now g c l) where
  -- all that holds
  abbrev inv : Inv event elects commits n now g (put cabs i c) (put lists i l)
  inv = state.all

  -- what holds of the cabinet
  abbrev here : Holds g i c l
  here = mine event elects commits n cabs lists i small within state

  -- a cabinet's own epoch above the promised one was not stood at
  not_stood : (e : ℕ) → c.promised < e → owner_of e ≡ i → g.stood e ≡ true → ⊥
  not_stood e above own was =
      let top : e ≤ c.promised = subst (λ (d : Cabinet). e ≤ d.promised) (put_same cabs i c) (subst (λ (k : ℕ). e ≤ (put cabs i c k).promised) own (inv.stands e was)) in
      omega arith

  -- nor was it won
  not_won : (e : ℕ) → c.promised < e → owner_of e ≡ i → g.won e ≡ false
  not_won e above own =
      elim (cases_Bool (g.won e)) [ inl was ↦ absurd (not_stood e above own (inv.winners e was (let z : 0 < e = omega arith in z)).stood) | inr fresh ↦ fresh ]

  -- what is known after the cabinet stood at an epoch
  abbrev pub standing_ghost : ℕ → Ghost
  standing_ghost e = voted_ghost (stood_ghost g e c.accepted l) e i c.accepted (length l)

  -- it stands at an epoch of its own above the promised one
  pub stand_move : (e : ℕ) → c.promised < e → owner_of e ≡ i → Reaches event elects commits n cabs lists i now g (standing_ghost e) (stands i e c) l
  stand_move e above own =
      let x = here in
      let a = c.accepted in
      let g1 = stood_ghost g e a l in
      let move1 = stood_move g i e c.promised e a l own (omega arith) (not_stood e above own) in
      let first = moved event elects commits n cabs lists i small within state e now (promises e c) l (omega arith) (omega arith) move1
      (record {
        holds = follower (promises e c) l refl (follows_grows move1.grow x.follows) (omega (arith, x.accepted_most)) x.holds x.no_later x.mark_least (cover_grows move1.grow x.cover);
        stands = λ k s. elim (put_was g.stood e k s) [ inl old ↦ inl old | inr new ↦ inr (ap owner_of new ∙ own, let z : k ≤ e = omega arith in z) ];
        votes = λ k j s. inl s;
        winner = λ w. inl w;
        reach = inv.reach e;
        carried = λ w q r s. inl (w, s);
        entries = inv.entries e;
        events = λ k v past is. inl past;
        unique = inv.unique;
      }) in
      let fresh = not_cast event elects commits n cabs lists i small within state e above in
      let grow = (voted_move g1 i e c.promised e a (length l) own (omega arith) fresh).grow in
      let ca : g1.cand_accepted e ≡ a = put_same g.cand_accepted e a in
      let cl : g1.cand_list e ≡ l = put_same g.cand_list e l in
      let second = vote_move event elects commits n cabs lists i small within first.state e (stands i e c) fresh (omega arith) (omega (arith, x.accepted_most)) (put_same g.stood e true) (record { order = omega arith; longer = λ _. omega (arith, ap length cl) }) refl
      (record {
        follows = follows_grows grow (follows_grows move1.grow x.follows);
        accepted_most = omega (arith, x.accepted_most);
        holds = x.holds;
        no_later = x.no_later;
        mark_least = x.mark_least;
        cover = cover_grows grow (cover_grows move1.grow x.cover);
        standing = λ r. record {
          owned = own;
          above = omega (arith, x.accepted_most);
          unwon = not_won e above own;
          stood = put_same g.stood e true;
          accepted = ca;
          list = cl;
          gathered = λ j there. subst (λ (k : ℕ). put_at g.cast e i true e k ≡ true) (sym (has_only i j there)) (at_same g.cast e i true);
        };
        leading = λ r. absurd (let z : ⊥ = omega arith in z);
      }) in
      record { grow = grow_trans first.grow second.grow; state = second.state }

  -- a leader enters an entry of its epoch at the end of its list
  pub enter_move : c.role ≡ 2 → (x : Entry) → x.epoch ≡ c.promised → event now ≡ Some (event_of (length l) x)
      → Reaches event elects commits n cabs lists i (now + 1) g (entered_ghost g c.promised i (l ++ x ∷ [])) (raised i (length l + 1) c) (l ++ x ∷ [])
  enter_move role x own entered =
      let y = here in
      let s = y.leading role in
      let e = c.promised in
      let r = l ++ x ∷ [] in
      let h = entered_ghost g e i r in
      let size = length_push l x in
      let held_was : g.held e i ≡ length l = held_at y s.accepted in
      let is_won : g.won e ≡ true = (follows_at y s.accepted).is_won in
      let log-was : g.log e ≡ l = sym s.whole in
      let move = entered_move g i e r s.owned s.positive (subst (λ (b : List Entry). Agree (length b) b r) s.whole (agree_push l x)) (omega arith) in
      let log_is : r ≡ h.log e = sym (put_same g.log e r) in
      let held-is : h.held e i ≡ length r = at_same g.held e i (length r) in
      let base_on = (follows_at y s.accepted).from_base in
      let follow : Follows h e r = record {
        is_won = is_won;
        from_base = agree_on base_on (agree_push l x) base_on.right;
        in_log = subst (Agree (length r) r) log_is (agree_refl (length r) r (omega arith));
      } in
      let lengths = set c.acknowledged i (max (get_or c.acknowledged i 0) (length l + 1)) in
      let known : (j : ℕ) → get_or lengths j 0 ≤ h.held e j
      = λ j. elim (set_cases c.acknowledged i (max (get_or c.acknowledged i 0) (length l + 1)) j) [
        | inl same ↦ subst (λ (k : ℕ). get_or lengths j 0 ≤ h.held e k) (sym same.0) (omega (arith, same.1, s.known i))
        | inr other ↦ let z : get_or lengths j 0 ≤ h.held e j = omega (arith, other, s.known j, move.grow.held e j) in z
      ] in
      let now-entered : Entered h (event_of (length l) x) = record {
        is_won = subst (λ (k : ℕ). g.won k ≡ true) (sym own) is_won;
        late = subst (λ (k : ℕ). length (g.base k) ≤ length l) (sym own) (omega (arith, base_on.right));
        there = subst (λ (k : ℕ). length l < length (put g.log e r k)) (sym own) (subst (λ (b : List Entry). length l < length b) log_is (omega arith));
        at = subst (λ (k : ℕ). get_or (put g.log e r k) (length l) blank ≡ x) (sym own) (subst (λ (b : List Entry). get_or b (length l) blank ≡ x) log_is (get_or_push l x blank (length l) refl));
        own = refl;
      } in
      let before : (k : ℕ) (v : Event) → k < now → event k ≡ Some v → v.epoch ≡ x.epoch → v.position ≡ length l → ⊥
      = λ k v past is same at. let w = inv.events k v past is in let there : v.position < length (g.log e) = subst (λ (b : ℕ). v.position < length (g.log b)) (same ∙ own) w.there in omega (arith, ap length log-was) in
      let this : (v : Event) (k : ℕ) → k ≡ now → event k ≡ Some v → event_of (length l) x ≡ v
      = λ v k at is. let same : event k ≡ Some (event_of (length l) x) = ap event at ∙ entered in cc in
      moved event elects commits n cabs lists i small within state e (now + 1) (raised i (length l + 1) c) r (omega arith) (omega arith) move
      (record {
        holds = record {
          follows = subst (λ (k : ℕ). Follows h k r) (sym s.accepted) follow;
          accepted_most = y.accepted_most;
          holds = subst (λ (k : ℕ). h.held k i ≡ length r) (sym s.accepted) held-is;
          no_later = λ k after. at_other g.held e i (length r) k i (λ same _. let z : ⊥ = omega (arith, s.accepted) in z) ∙ y.no_later k after;
          mark_least = y.mark_least;
          cover = cover_on c.accepted (cover_grows move.grow y.cover) (omega arith) (agree_push l x) y.cover.agrees.right;
          standing = λ q. absurd (let z : ⊥ = omega arith in z);
          leading = λ q. record { owned = s.owned; positive = s.positive; accepted = s.accepted; whole = log_is; topmost = s.topmost; known = known };
        };
        stands = λ k q. inl q;
        votes = λ k j q. inl q;
        winner = λ w. inl w;
        reach = λ w. subst (λ (b : List Entry). g.top e ≤ length b) log_is (omega (arith, inv.reach e is_won, ap length log-was));
        carried = λ w q a b. inl (w, b);
        entries = λ w. subst (Entries event (now + 1) e) log_is (entries_push l x own entered (subst (Entries event now e) log-was (inv.entries e is_won)));
        events = λ k v past is. elim (cases_lt k now) [
          | inl old ↦ inl old
          | inr late ↦ inr (subst (Entered h) (this v k (let z : k ≡ now = omega arith in z) is) now-entered)
        ];
        unique = λ k m v w past-k past-m is-k is_m same-epoch same_place.
            elim (cases_lt k now) [
              | inl old-k ↦ elim (cases_lt m now) [
                | inl old-m ↦ inv.unique k m v w old-k old-m is-k is_m same-epoch same_place
                | inr new-m ↦ let t = this w m (let z : m ≡ now = omega arith in z) is_m in absurd (before k v old-k is-k (same-epoch ∙ ap (λ (u : Event). u.epoch) (sym t)) (same_place ∙ ap (λ (u : Event). u.position) (sym t)))
              ]
              | inr new-k ↦ elim (cases_lt m now) [
                | inl old-m ↦ let t = this v k (let z : k ≡ now = omega arith in z) is-k in absurd (before m w old-m is_m (sym same-epoch ∙ ap (λ (u : Event). u.epoch) (sym t)) (sym same_place ∙ ap (λ (u : Event). u.position) (sym t)))
                | inr new-m ↦ let z : k ≡ m = omega arith in z
              ]
            ];
      })

  -- a follower's list grows by the entry that the leader's has next
  pub append_move : c.accepted ≡ c.promised → (x : Entry) → length l < length (g.log c.promised) → get_or (g.log c.promised) (length l) blank ≡ x
      → Reaches event elects commits n cabs lists i now g (held_ghost g c.promised i (length (l ++ x ∷ []))) c (l ++ x ∷ [])
  append_move same x there at =
      let y = here in
      let e = c.promised in
      let r = l ++ x ∷ [] in
      let h = held_ghost g e i (length r) in
      let size = length_push l x in
      let held_was = held_at y same in
      let log-on = (follows_at y same).in_log in
      let pushed = agree_push l x in
      let more : Agree (length l + 1) r (g.log e) = agree_more (agree_trans (agree_sym pushed) log-on) (omega arith) there (get_or_push l x blank (length l) refl ∙ sym at) in
      hold_move event elects commits n cabs lists i small within state e (length r) c r (omega arith) (omega arith) (omega arith)
      (λ grow. record {
        follows = record {
          is_won = y.follows.is_won;
          from_base = agree_on y.follows.from_base pushed y.follows.from_base.right;
          in_log = subst (λ (k : ℕ). Agree (length r) r (g.log k)) (sym same) (subst (λ (k : ℕ). Agree k r (g.log e)) (sym size) more);
        };
        accepted_most = y.accepted_most;
        holds = subst (λ (k : ℕ). h.held k i ≡ length r) (sym same) (at_same g.held e i (length r));
        no_later = λ k after. at_other g.held e i (length r) k i (λ q _. let z : ⊥ = omega arith in z) ∙ y.no_later k after;
        mark_least = y.mark_least;
        cover = cover_on c.accepted (cover_grows grow y.cover) (omega arith) pushed y.cover.agrees.right;
        standing = λ q. absurd (let z : ⊥ = omega (arith, (y.standing q).above) in z);
        leading = λ q. absurd (let z : ⊥ = omega (arith, ap length (y.leading q).whole) in z);
      })

  -- it accepts a list of an epoch that it has not accepted, or a longer one
  pub accept_move : (e m : ℕ) (r : List Entry) → c.promised ≤ e → g.held e i ≤ length r → Follows g e r → Cover g e (max c.mark m) r
      → Reaches event elects commits n cabs lists i now g (held_ghost g e i (length r)) (accepts e m c) r
  accept_move e m r late longer follow cover =
      let y = here in
      let none : (k : ℕ) → e < k → put_at g.held e i (length r) k i ≡ 0
      = λ k after. at_other g.held e i (length r) k i (λ q _. let z : ⊥ = omega arith in z) ∙ y.no_later k (omega (arith, y.accepted_most)) in
      hold_move event elects commits n cabs lists i small within state e (length r) (accepts e m c) r late longer late
      (λ grow. follower (accepts e m c) r refl (follows_grows grow follow) (omega arith) (at_same g.held e i (length r)) none (omega (arith, y.mark_least)) (cover_grows grow cover))

  -- it accepts an epoch's list that it has already, with a mark
  pub again_move : (e m : ℕ) → c.promised ≤ e → c.accepted ≡ e → Cover g e (max c.mark m) l → At event elects commits n cabs lists i now g (accepts e m c) l
  again_move e m late same cover =
      let y = here in
      quiet_move event elects commits n cabs lists i small within state (accepts e m c) l late
      (follower (accepts e m c) l refl (follows_at y same) (omega arith) (held_at y same) (λ k after. y.no_later k (omega arith)) (omega (arith, y.mark_least)) cover)

  -- who does not lead takes a higher mark that is covered
  pub told_move : (m : ℕ) → (c.role ≡ 2 → ⊥) → c.mark ≤ m → Cover g c.accepted m l → At event elects commits n cabs lists i now g (marked m c) l
  told_move m role more cover =
      let y = here in
      quiet_move event elects commits n cabs lists i small within state (marked m c) l (omega arith)
      (record {
        follows = y.follows;
        accepted_most = y.accepted_most;
        holds = y.holds;
        no_later = y.no_later;
        mark_least = omega (arith, y.mark_least);
        cover = cover;
        standing = λ q. let s = y.standing q in record {
          owned = s.owned;
          above = s.above;
          unwon = s.unwon;
          stood = s.stood;
          accepted = s.accepted;
          list = s.list;
          gathered = s.gathered;
        };
        leading = λ q. absurd (role q);
      })
