-- The moves of one cabinet: what each asks, and that all still holds after it. Assumes nothing.
use Rattle.std.proofs.Common.{◌≡◌, ℕ, ◌+◌, ◌<◌, ◌≤◌, max, Bool, true, false, List, length, get_or, set, Option, sym, refl, ap, ◌∙◌, subst, inl, inr, arith}
use Rattle.std.proofs.lemmas.Bool.{cases_eq, cases_lt}
use Rattle.quorum.specs.Sets.{has}
use Rattle.journal.specs.declared.Entry.{Entry}
use Rattle.cabinet.specs.declared.Cabinet.{Cabinet}
use Rattle.cabinet.specs.Epochs.{owner_of}
use Rattle.cabinet.specs.Records.{follows, promises, gathers, raised, leads, marked, only, none_acknowledged}
use Rattle.configurations.specs.Configurations.{configures, members_at, members_before}
use Rattle.agreement.proofs.Prefix.{Agree, agree_refl, agree_sym, agree_down, agree_on, agree_at}
use Rattle.agreement.proofs.Ghost.{Ghost, Cover, Follows, Holds, Vote, Winner, Event, Origin, Entries, Inv}
use Rattle.agreement.proofs.Growth.{Grow, cover_grows, follows_grows}
use Rattle.agreement.proofs.Moves.{put, put_same, put_other, put_is, Move, New, kept}
use Rattle.agreement.proofs.Changes.{held_ghost, held_move, at_same, at_other, at_was, voted_ghost, won_ghost, raised_ghost, idle_move, voted_move, won_move, raised_move}
use Rattle.agreement.proofs.Sets.{has_or, has_only, set_cases, none_known}

-- a later value at the same number is the one that counts
pub put_put : {A : Type 0} (f : ℕ → A) (k : ℕ) (v w : A) → put (put f k v) k w ≡ put f k w
put_put f k v w = put_is (put f k v) (put f k w) k w (put_same f k w) (λ x apart. put_other f k w x apart ∙ sym (put_other f k v x apart))

-- what is covered on a list is covered on one that goes on from it, and up to any later epoch
pub cover_on : {g : Ghost} {a m k : ℕ} {l r : List Entry} (b : ℕ) → Cover g a m l → a ≤ b → Agree k l r → m ≤ k → Cover g b m r
cover_on b c h s less = record { source = c.source; is_won = c.is_won; below = omega (arith, c.below); within = c.within; agrees = agree_on c.agrees s less }

-- entries that are a beginning of others have what those have
entries_front : {event : ℕ → Option Event} {now a : ℕ} {l r : List Entry} (e : ℕ) → Entries event now a r → Agree (length l) l r → a ≤ e → Entries event now e l
entries_front {event} {now} e x s more =
    record {
      origin = λ q first there. subst (Origin event now q) (sym (agree_at s q there)) (x.origin q first (omega (arith, s.right)));
      rising = λ p q order there. omega (arith, x.rising p q order (omega (arith, s.right)), ap (λ (y : Entry). y.epoch) (agree_at s p (omega arith)), ap (λ (y : Entry). y.epoch) (agree_at s q there));
      most = λ q there. omega (arith, x.most q (omega (arith, s.right)), ap (λ (y : Entry). y.epoch) (agree_at s q there));
    }

-- what holds of a cabinet of role 0
pub follower : {g : Ghost} {i : ℕ} (c : Cabinet) (l : List Entry) → c.role ≡ 0 → Follows g c.accepted l → c.accepted ≤ c.promised
    → g.held c.accepted i ≡ length l → ((e : ℕ) → c.accepted < e → g.held e i ≡ 0) → 1 ≤ c.mark → Cover g c.accepted c.mark l → Holds g i c l
follower c l role f most h later least cover =
    record {
      follows = f;
      accepted_most = most;
      holds = h;
      no_later = later;
      mark_least = least;
      cover = cover;
      standing = λ r. absurd (let z : ⊥ = omega arith in z);
      leading = λ r. absurd (let z : ⊥ = omega arith in z);
    }

-- the list is one of the epoch that the cabinet has accepted
pub follows_at : {g : Ghost} {i e : ℕ} {c : Cabinet} {l : List Entry} → Holds g i c l → c.accepted ≡ e → Follows g e l
follows_at {g} {l = l} x same = subst (λ (k : ℕ). Follows g k l) same x.follows

-- and held as such
pub held_at : {g : Ghost} {i e : ℕ} {c : Cabinet} {l : List Entry} → Holds g i c l → c.accepted ≡ e → g.held e i ≡ length l
held_at {g} {i} {l = l} x same = subst (λ (k : ℕ). g.held k i ≡ length l) same x.holds

-- the candidate at e is not behind who has accepted a and holds k entries
pub record NotBehind (g : Ghost) (e a k : ℕ) : Type 0 where
  pub order : a ≤ g.cand_accepted e
  pub longer : a ≡ g.cand_accepted e → k ≤ length (g.cand_list e)

-- an epoch of a cabinet, above 0, that stands for none
abbrev pub spare : ℕ → ℕ
spare i = i + 16

-- it belongs to the cabinet
pub spare_owned : (i : ℕ) → i < 16 → owner_of (spare i) ≡ i
spare_owned i h = omega arith

-- and is above 0
pub spare_positive : (i : ℕ) → 0 < spare i
spare_positive i = omega arith

module _ (event : ℕ → Option Event) (elects commits : ℕ → ℕ → Bool) (n : ℕ) (cabs : ℕ → Cabinet) (lists : ℕ → List Entry) (i : ℕ) where
  -- all holds, where cabinet i has this record and list
  pub record At (now : ℕ) (g : Ghost) (c : Cabinet) (l : List Entry) : Type 0 where
    pub all : Inv event elects commits n now g (put cabs i c) (put lists i l)

  -- where a move leads: the ghost state has grown, and all holds
  pub record Reaches (now : ℕ) (g h : Ghost) (c : Cabinet) (l : List Entry) : Type 0 where
    pub grow : Grow g h
    pub state : At now h c l

  module _ (small : n ≤ 16) (within : i < n) where
    -- what holds of cabinet i
    pub mine : {now : ℕ} {g : Ghost} {c : Cabinet} {l : List Entry} → At now g c l → Holds g i c l
    mine {g = g} {c = c} {l = l} state =
        subst (λ (r : List Entry). Holds g i c r) (put_same lists i l) (subst (λ (d : Cabinet). Holds g i d (put lists i l i)) (put_same cabs i c) (state.all.cabinets i within))

    module _ {now : ℕ} {g : Ghost} {c : Cabinet} {l : List Entry} (state : At now g c l) where
      -- all that holds
      abbrev inv : Inv event elects commits n now g (put cabs i c) (put lists i l)
      inv = state.all

      -- all still holds after a move
      pub moved : {h : Ghost} (t now' : ℕ) (c' : Cabinet) (l' : List Entry) → now ≤ now' → c.promised ≤ c'.promised → Move i t c.promised g h
          → New event elects commits i t now now' g h c' l' → Reaches now' g h c' l'
      moved {h} t now' c' l' time more move new =
          let p = put_same cabs i c in
          let here = kept inv i t now' within c' l' time (subst (λ (d : Cabinet). d.promised ≤ c'.promised) (sym p) more) (subst (λ (d : Cabinet). Move i t d.promised g h) (sym p) move) new in
          let records-put = subst (λ (f : ℕ → List Entry). Inv event elects commits n now' h (put (put cabs i c) i c') f) (put_put lists i l l') here in
          record {
            grow = move.grow;
            state = record { all = subst (λ (f : ℕ → Cabinet). Inv event elects commits n now' h f (put lists i l')) (put_put cabs i c c') records-put };
          }

      -- a move of the record alone
      pub quiet_move : (c' : Cabinet) (l' : List Entry) → c.promised ≤ c'.promised → Holds g i c' l' → At now g c' l'
      quiet_move c' l' more x =
          (moved (spare i) now c' l' (omega arith) more (idle_move g i (spare i) c.promised (spare_owned i (omega arith)) (spare_positive i))
          (record {
            holds = x;
            stands = λ e s. inl s;
            votes = λ e j s. inl s;
            winner = λ w. inl w;
            reach = inv.reach (spare i);
            carried = λ w q a b. inl (w, b);
            entries = inv.entries (spare i);
            events = λ k v past is. inl past;
            unique = inv.unique;
          })
          ).state

      -- it holds more of an epoch's list
      pub hold_move : (e k : ℕ) (c' : Cabinet) (l' : List Entry) → c.promised ≤ e → g.held e i ≤ k → c.promised ≤ c'.promised
          → (Grow g (held_ghost g e i k) → Holds (held_ghost g e i k) i c' l') → Reaches now g (held_ghost g e i k) c' l'
      hold_move e k c' l' late longer more x =
          let move = held_move g i (spare i) c.promised e k (spare_owned i (omega arith)) (spare_positive i) late longer in
          moved (spare i) now c' l' (omega arith) more move
          (record {
            holds = x move.grow;
            stands = λ b s. inl s;
            votes = λ b j s. inl s;
            winner = λ w. inl w;
            reach = inv.reach (spare i);
            carried = λ w q a b. inl (w, b);
            entries = inv.entries (spare i);
            events = λ b v past is. inl past;
            unique = inv.unique;
          })

      -- it takes role 0
      pub follows_move : At now g (follows c) l
      follows_move =
          let x = mine state in
          quiet_move (follows c) l (omega arith) (follower (follows c) l refl x.follows x.accepted_most x.holds x.no_later x.mark_least x.cover)

      -- it votes at an epoch, for a candidate that is not behind
      pub vote_move : (e : ℕ) (c' : Cabinet) → (g.cast e i ≡ true → ⊥) → c.promised ≤ e → c.accepted < e → g.stood e ≡ true
          → NotBehind g e c.accepted (length l) → c'.promised ≡ e → Holds (voted_ghost g e i c.accepted (length l)) i c' l
          → Reaches now g (voted_ghost g e i c.accepted (length l)) c' l
      vote_move e c' fresh late above stood passes at holds =
          let x = mine state in
          let a = c.accepted in
          let h = voted_ghost g e i a (length l) in
          let va : h.vote_accepted e i ≡ a = at_same g.vote_accepted e i a in
          let vl : h.vote_length e i ≡ length l = at_same g.vote_length e i (length l) in
          let vote : Vote h c'.promised e i = record {
            stood = stood;
            before = omega arith;
            kept = omega arith;
            nothing_between = λ k after before. x.no_later k (omega arith);
            no_more = subst (λ (b : ℕ). g.held b i ≤ h.vote_length e i) (sym va) (omega (arith, x.holds));
            not_later = omega (arith, passes.order);
            not_longer = λ same. omega (arith, passes.longer (omega arith));
          } in
          moved (spare i) now c' l (omega arith) (omega arith) (voted_move g i (spare i) c.promised e a (length l) (spare_owned i (omega arith)) (spare_positive i) fresh)
          (record {
            holds = holds;
            stands = λ k s. inl s;
            votes = λ k j s. elim (at_was g.cast e i k j s) [
              | inl old ↦ inl old
              | inr new ↦ inr (new.1, subst (λ (y : ℕ). Vote h c'.promised y i) (sym new.0) vote)
            ];
            winner = λ w. inl w;
            reach = inv.reach (spare i);
            carried = λ w q r s. inl (w, s);
            entries = inv.entries (spare i);
            events = λ k v past is. inl past;
            unique = inv.unique;
          })

      -- it has not voted at an epoch above the promised one
      pub not_cast : (e : ℕ) → c.promised < e → g.cast e i ≡ true → ⊥
      not_cast e above was =
          let top : e ≤ c.promised = subst (λ (d : Cabinet). e ≤ d.promised) (put_same cabs i c) (inv.votes e i was).kept in
          omega arith

      -- it promises an epoch to a candidate that is not behind
      pub promise_move : (e : ℕ) → c.promised < e → g.stood e ≡ true → NotBehind g e c.accepted (length l)
          → Reaches now g (voted_ghost g e i c.accepted (length l)) (promises e c) l
      promise_move e above stood passes =
          let x = mine state in
          let grow = (voted_move g i (spare i) c.promised e c.accepted (length l) (spare_owned i (omega arith)) (spare_positive i) (not_cast e above)).grow in
          vote_move e (promises e c) (not_cast e above) (omega arith) (omega (arith, x.accepted_most)) stood passes refl
          (follower (promises e c) l refl (follows_grows grow x.follows) (omega (arith, x.accepted_most)) x.holds x.no_later x.mark_least (cover_grows grow x.cover))

      -- it gathers the vote of a cabinet that voted for it
      pub gather_move : (j : ℕ) → c.role ≡ 1 → g.cast c.promised j ≡ true → At now g (gathers j c) l
      gather_move j role voted =
          let x = mine state in
          let s = x.standing role in
          quiet_move (gathers j c) l (omega arith)
          (record {
            follows = x.follows;
            accepted_most = x.accepted_most;
            holds = x.holds;
            no_later = x.no_later;
            mark_least = x.mark_least;
            cover = x.cover;
            standing = λ r. record {
              owned = s.owned;
              above = s.above;
              unwon = s.unwon;
              stood = s.stood;
              accepted = s.accepted;
              list = s.list;
              gathered = λ k there. elim (has_or c.gathered (only j) k there) [
                | inl old ↦ s.gathered k old
                | inr new ↦ subst (λ (y : ℕ). g.cast c.promised y ≡ true) (sym (has_only j k new)) voted
              ];
            };
            leading = λ r. absurd (let z : ⊥ = omega arith in z);
          })

      -- the list opens with the founding entry
      opening : Agree 1 (g.log 0) l
      opening =
          let x = mine state in
          let a = c.accepted in
          let some-entry : 1 ≤ length l = omega (arith, x.cover.agrees.right, x.mark_least) in
          elim (cases_eq a 0) [
            | inl none ↦ agree_sym (agree_down 1 some-entry (subst (λ (e : ℕ). Agree (length l) l (g.log e)) none x.follows.in_log))
            | inr some ↦ let w = inv.winners a x.follows.is_won (let z : 0 < a = omega (arith, some) in z) in agree_on w.opens x.follows.from_base w.opens.right
          ]

      -- it wins the epoch that it stands at
      pub win_move : c.role ≡ 1
          → ((p : ℕ) → p < length l → configures l p ≡ true → ((k : ℕ) → p < k → k < c.mark → configures l k ≡ false) → elects (members_at l p) c.gathered ≡ true)
          → Reaches now g (won_ghost g c.promised i l c.mark) (leads i (length l) c) l
      win_move role quorate =
          let x = mine state in
          let s = x.standing role in
          let e = c.promised in
          let m = c.mark in
          let h = won_ghost g e i l m in
          let move = won_move g i e l m s.owned (omega (arith, s.above)) s.unwon (x.no_later e s.above) in
          let grow = move.grow in
          let log_is : l ≡ h.log e = sym (put_same g.log e l) in
          let base-is : l ≡ h.base e = sym (put_same g.base e l) in
          let m0-is : m ≡ h.m0 e = sym (put_same g.m0 e m) in
          let top-is : m ≡ h.top e = sym (put_same g.top e m) in
          let held-is : h.held e i ≡ length l = at_same g.held e i (length l) in
          let whole = agree_refl (length l) l (omega arith) in
          let first : Agree 1 (h.log 0) l = subst (λ (r : List Entry). Agree 1 r l) (sym (put_other g.log e l 0 (λ same. let z : ⊥ = omega (arith, s.above) in z))) opening in
          let known : (j : ℕ) → get_or (set none_acknowledged i (max (get_or none_acknowledged i 0) (length l))) j 0 ≤ h.held e j
          = λ j. elim (set_cases none_acknowledged i (max (get_or none_acknowledged i 0) (length l)) j) [
            | inl here ↦ subst (λ (y : ℕ). get_or (set none_acknowledged i (max (get_or none_acknowledged i 0) (length l))) j 0 ≤ h.held e y) (sym here.0) (omega (arith, here.1, none_known i))
            | inr other ↦ let z : get_or (set none_acknowledged i (max (get_or none_acknowledged i 0) (length l))) j 0 ≤ h.held e j = omega (arith, other, none_known j) in z
          ] in
          let holds : Holds h i (leads i (length l) c) l = record {
            follows = record {
              is_won = put_same g.won e true;
              from_base = subst (λ (b : List Entry). Agree (length b) b l) base-is whole;
              in_log = subst (Agree (length l) l) log_is whole;
            };
            accepted_most = omega arith;
            holds = held-is;
            no_later = λ k after. at_other g.held e i (length l) k i (λ r _. let z : ⊥ = omega arith in z) ∙ x.no_later k (omega (arith, s.above));
            mark_least = x.mark_least;
            cover = cover_on e (cover_grows grow x.cover) x.accepted_most whole x.cover.agrees.right;
            standing = λ r. absurd (let z : ⊥ = omega arith in z);
            leading = λ r. record { owned = s.owned; positive = omega (arith, s.above); accepted = refl; whole = log_is; topmost = top-is; known = known };
          } in
          let chose : c.accepted ≡ h.cand_accepted e = sym s.accepted in
          let winner : Winner elects h e = record {
            opens = subst (Agree 1 (h.log 0)) base-is first;
            grown = subst (λ (b : List Entry). Agree (length b) b (h.log e)) base-is (subst (Agree (length l) l) log_is whole);
            stood = s.stood;
            chosen = s.list ∙ base-is;
            earlier = omega (arith, s.accepted, s.above);
            follows = subst (Follows h (h.cand_accepted e)) base-is (subst (λ (b : ℕ). Follows h b l) chose (follows_grows grow x.follows));
            mark_least = omega (arith, x.mark_least);
            mark_most = omega arith;
            cover = subst (Cover h (h.cand_accepted e) (h.m0 e)) base-is (subst (λ (b : ℕ). Cover h (h.cand_accepted e) b l) m0-is (subst (λ (b : ℕ). Cover h b m l) chose (cover_grows grow x.cover)));
            voters = c.gathered;
            voted = s.gathered;
            quorate = subst (λ (m : ℕ). (p : ℕ) → p < length (h.base e) → configures (h.base e) p ≡ true → ((k : ℕ) → p < k → k < m → configures (h.base e) k ≡ false) → elects (members_at (h.base e) p) c.gathered ≡ true) m0-is
                (subst (λ (b : List Entry). (p : ℕ) → p < length b → configures b p ≡ true → ((k : ℕ) → p < k → k < m → configures b k ≡ false) → elects (members_at b p) c.gathered ≡ true) base-is quorate);
          } in
          moved e now (leads i (length l) c) l (omega arith) (omega arith) move
          (record {
            holds = holds;
            stands = λ k r. inl r;
            votes = λ k j r. inl r;
            winner = λ w. inr winner;
            reach = λ w. subst (λ (r : List Entry). h.top e ≤ length r) log_is (omega (arith, x.cover.agrees.right));
            carried = λ w q a b. absurd (let z : ⊥ = omega arith in z);
            entries = λ w. subst (Entries event now e) log_is (entries_front e (inv.entries c.accepted x.follows.is_won) x.follows.in_log x.accepted_most);
            events = λ k v past is. inl past;
            unique = inv.unique;
          })

      -- its mark rises over entries that those who hold them commit
      pub raise_move : c.role ≡ 2 → (m : ℕ) → c.mark ≤ m → m ≤ length l
          → ((q : ℕ) → c.mark ≤ q → q < m → (s : ℕ) × (commits (members_before l q) s ≡ true) × ((j : ℕ) → has s j ≡ true → q < get_or c.acknowledged j 0))
          → Reaches now g (raised_ghost g c.promised m) (marked m c) l
      raise_move role m more most carried =
          let x = mine state in
          let s = x.leading role in
          let e = c.promised in
          let h = raised_ghost g e m in
          let move = raised_move g i e m s.owned s.positive (omega (arith, s.topmost)) in
          let top-is : m ≡ h.top e = sym (put_same g.top e m) in
          let holds : Holds h i (marked m c) l = record {
            follows = follows_grows move.grow x.follows;
            accepted_most = x.accepted_most;
            holds = x.holds;
            no_later = x.no_later;
            mark_least = omega (arith, x.mark_least);
            cover = record {
              source = e;
              is_won = (follows_at x s.accepted).is_won;
              below = omega (arith, s.accepted);
              within = omega arith;
              agrees = subst (λ (r : List Entry). Agree m r l) s.whole (agree_refl m l most);
            };
            standing = λ r. absurd (let z : ⊥ = omega arith in z);
            leading = λ r. record { owned = s.owned; positive = s.positive; accepted = s.accepted; whole = s.whole; topmost = top-is; known = s.known };
          } in
          moved e now (marked m c) l (omega arith) (omega arith) move
          (record {
            holds = holds;
            stands = λ k r. inl r;
            votes = λ k j r. inl r;
            winner = λ w. inl w;
            reach = λ w. subst (λ (r : List Entry). h.top e ≤ length r) s.whole (omega arith);
            carried = λ w q a b.
                elim (cases_lt q (g.top e)) [
                  | inl old ↦ inl (w, old)
                  | inr new ↦ let y = carried q (let z : c.mark ≤ q = omega (arith, s.topmost) in z) (let z : q < m = omega arith in z) in
                      inr (record {
                        set = y.0;
                        quorate = subst (λ (r : List Entry). commits (members_before r q) y.0 ≡ true) s.whole y.1;
                        hold = λ j there. omega (arith, y.2 j there, s.known j);
                      })
                ];
            entries = inv.entries e;
            events = λ k v past is. inl past;
            unique = inv.unique;
          })

      -- it learns that another cabinet holds so many entries
      pub learn_move : c.role ≡ 2 → (j k : ℕ) → k ≤ g.held c.promised j → At now g (raised j k c) l
      learn_move role j k held =
          let x = mine state in
          let s = x.leading role in
          quiet_move (raised j k c) l (omega arith)
          (record {
            follows = x.follows;
            accepted_most = x.accepted_most;
            holds = x.holds;
            no_later = x.no_later;
            mark_least = x.mark_least;
            cover = x.cover;
            standing = λ r. absurd (let z : ⊥ = omega arith in z);
            leading = λ r. record {
              owned = s.owned;
              positive = s.positive;
              accepted = s.accepted;
              whole = s.whole;
              topmost = s.topmost;
              known = λ y. elim (set_cases c.acknowledged j (max (get_or c.acknowledged j 0) k) y) [
                | inl here ↦ subst (λ (z : ℕ). get_or (set c.acknowledged j (max (get_or c.acknowledged j 0) k)) y 0 ≤ g.held c.promised z) (sym here.0) (omega (arith, here.1, s.known j))
                | inr other ↦ let z : get_or (set c.acknowledged j (max (get_or c.acknowledged j 0) k)) y 0 ≤ g.held c.promised y = omega (arith, other, s.known y) in z
              ];
            };
          })
