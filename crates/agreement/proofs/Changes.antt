-- The changes of the ghost state of which all moves are made. Assumes nothing.
use Rattle.std.proofs.Common.{◌≡◌, ℕ, ◌<◌, ◌≤◌, Bool, true, false, cond, ◌&&◌, eqb, ◌⊎◌, List, length, sym, refl, ◌∙◌, subst, inl, inr, arith}
use Rattle.std.proofs.lemmas.Bool.{cases_eq, eq-eqb, ne_eqb, cond-true, cond-false, and_from, and_left, and_right, both_ways}
use Rattle.journal.specs.declared.Entry.{Entry}
use Rattle.cabinet.specs.Epochs.{owner_of}
use Rattle.agreement.proofs.Prefix.{Agree, agree_refl}
use Rattle.agreement.proofs.Ghost.{Ghost}
use Rattle.agreement.proofs.Growth.{grow_refl}
use Rattle.agreement.proofs.Moves.{put, put_same, put_other, Move}

-- a function of two numbers with another value at one pair
abbrev pub put_at : {A : Type 0} → (ℕ → ℕ → A) → ℕ → ℕ → A → ℕ → ℕ → A
put_at f e j v a b = cond (eqb a e && eqb b j) v (f a b)

-- at that pair
pub at_same : {A : Type 0} (f : ℕ → ℕ → A) (e j : ℕ) (v : A) → put_at f e j v e j ≡ v
at_same f e j v = cond-true _ _ _ (and_from (eqb e e) (eqb j j) (eq-eqb e e refl) (eq-eqb j j refl))

-- at any other
pub at_other : {A : Type 0} (f : ℕ → ℕ → A) (e j : ℕ) (v : A) (a b : ℕ) → (a ≡ e → b ≡ j → ⊥) → put_at f e j v a b ≡ f a b
at_other f e j v a b h =
    elim (cases_eq a e) [
      | inl same ↦ cond-false _ _ _ (and_right (eqb a e) (eqb b j) (ne_eqb b j (h same)))
      | inr apart ↦ cond-false _ _ _ (and_left (eqb a e) (eqb b j) (ne_eqb a e apart))
    ]

-- every pair is that one or another
at_cases : (a e b j : ℕ) → ((a ≡ e) × (b ≡ j)) ⊎ (a ≡ e → b ≡ j → ⊥)
at_cases a e b j =
    elim (cases_eq a e) [
      | inl same ↦ elim (cases_eq b j) [ inl both ↦ inl (same, both) | inr apart ↦ inr (λ x y. apart y) ]
      | inr apart ↦ inr (λ x y. apart x)
    ]

-- what held of the old value or of the pair holds of the new function
at_keeps : {A : Type 0} (P : ℕ → ℕ → A → Type 0) (f : ℕ → ℕ → A) (e j : ℕ) (v : A) (a b : ℕ) → (a ≡ e → b ≡ j → P e j v) → P a b (f a b) → P a b (put_at f e j v a b)
at_keeps P f e j v a b here there =
    elim (at_cases a e b j) [
      | inl same ↦ subst (λ (k : ℕ). P k b (put_at f e j v k b)) (sym same.0) (subst (λ (k : ℕ). P e k (put_at f e j v e k)) (sym same.1) (subst (P e j) (sym (at_same f e j v)) (here same.0 same.1)))
      | inr apart ↦ subst (P a b) (sym (at_other f e j v a b apart)) there
    ]

-- the same at one number
put_keeps : {A : Type 0} (P : ℕ → A → Type 0) (f : ℕ → A) (e : ℕ) (v : A) (a : ℕ) → (a ≡ e → P e v) → P a (f a) → P a (put f e v a)
put_keeps P f e v a here there =
    elim (cases_eq a e) [
      | inl same ↦ subst (λ (k : ℕ). P k (put f e v k)) (sym same) (subst (P e) (sym (put_same f e v)) (here same))
      | inr apart ↦ subst (P a) (sym (put_other f e v a apart)) there
    ]

-- a test that holds at one pair more held before, or it is that pair
pub at_was : (f : ℕ → ℕ → Bool) (e j a b : ℕ) → put_at f e j true a b ≡ true → (f a b ≡ true) ⊎ ((a ≡ e) × (b ≡ j))
at_was f e j a b h = elim (at_cases a e b j) [ inl same ↦ inr same | inr apart ↦ inl (sym (at_other f e j true a b apart) ∙ h) ]

-- the same at one number
pub put_was : (f : ℕ → Bool) (e a : ℕ) → put f e true a ≡ true → (f a ≡ true) ⊎ (a ≡ e)
put_was f e a h = elim (cases_eq a e) [ inl same ↦ inr same | inr apart ↦ inl (sym (put_other f e true a apart) ∙ h) ]

-- cabinet i votes at an epoch, by what it has accepted and holds
abbrev pub voted_ghost : Ghost → ℕ → ℕ → ℕ → ℕ → Ghost
voted_ghost g e i a k =
    record {
      won = g.won;
      log = g.log;
      base = g.base;
      m0 = g.m0;
      top = g.top;
      held = g.held;
      cast = put_at g.cast e i true;
      vote_accepted = put_at g.vote_accepted e i a;
      vote_length = put_at g.vote_length e i k;
      stood = g.stood;
      cand_accepted = g.cand_accepted;
      cand_list = g.cand_list;
    }

-- a candidate stands at an epoch with its list
abbrev pub stood_ghost : Ghost → ℕ → ℕ → List Entry → Ghost
stood_ghost g e a l =
    record {
      won = g.won;
      log = g.log;
      base = g.base;
      m0 = g.m0;
      top = g.top;
      held = g.held;
      cast = g.cast;
      vote_accepted = g.vote_accepted;
      vote_length = g.vote_length;
      stood = put g.stood e true;
      cand_accepted = put g.cand_accepted e a;
      cand_list = put g.cand_list e l;
    }

-- cabinet i wins an epoch with its list and mark
abbrev pub won_ghost : Ghost → ℕ → ℕ → List Entry → ℕ → Ghost
won_ghost g e i l m =
    record {
      won = put g.won e true;
      log = put g.log e l;
      base = put g.base e l;
      m0 = put g.m0 e m;
      top = put g.top e m;
      held = put_at g.held e i (length l);
      cast = g.cast;
      vote_accepted = g.vote_accepted;
      vote_length = g.vote_length;
      stood = g.stood;
      cand_accepted = g.cand_accepted;
      cand_list = g.cand_list;
    }

-- the leader of an epoch raises its mark
abbrev pub raised_ghost : Ghost → ℕ → ℕ → Ghost
raised_ghost g e m =
    record {
      won = g.won;
      log = g.log;
      base = g.base;
      m0 = g.m0;
      top = put g.top e m;
      held = g.held;
      cast = g.cast;
      vote_accepted = g.vote_accepted;
      vote_length = g.vote_length;
      stood = g.stood;
      cand_accepted = g.cand_accepted;
      cand_list = g.cand_list;
    }

-- the leader of an epoch, cabinet i, has a longer list
abbrev pub entered_ghost : Ghost → ℕ → ℕ → List Entry → Ghost
entered_ghost g e i l =
    record {
      won = g.won;
      log = put g.log e l;
      base = g.base;
      m0 = g.m0;
      top = g.top;
      held = put_at g.held e i (length l);
      cast = g.cast;
      vote_accepted = g.vote_accepted;
      vote_length = g.vote_length;
      stood = g.stood;
      cand_accepted = g.cand_accepted;
      cand_list = g.cand_list;
    }

-- cabinet i holds so many entries of an epoch's list
abbrev pub held_ghost : Ghost → ℕ → ℕ → ℕ → Ghost
held_ghost g e i k =
    record {
      won = g.won;
      log = g.log;
      base = g.base;
      m0 = g.m0;
      top = g.top;
      held = put_at g.held e i k;
      cast = g.cast;
      vote_accepted = g.vote_accepted;
      vote_length = g.vote_length;
      stood = g.stood;
      cand_accepted = g.cand_accepted;
      cand_list = g.cand_list;
    }

module _ (g : Ghost) (i : ℕ) where
  -- a move that changes nothing
  pub idle_move : (t p : ℕ) → owner_of t ≡ i → 0 < t → Move i t p g g
  idle_move t p own pos =
      record {
        grow = grow_refl g;
        owned = own;
        positive = pos;
        won_other = λ e h. refl;
        log_other = λ e h. refl;
        top_other = λ e h. refl;
        held_other = λ e j h. refl;
        held_old = λ e h. refl;
      }

  -- a vote where there was none
  pub voted_move : (t p e a k : ℕ) → owner_of t ≡ i → 0 < t → (g.cast e i ≡ true → ⊥) → Move i t p g (voted_ghost g e i a k)
  voted_move t p e a k own pos fresh =
      let apart : (x j : ℕ) → g.cast x j ≡ true → x ≡ e → j ≡ i → ⊥ = λ x j was r s. fresh (subst (λ (y : ℕ). g.cast y i ≡ true) r (subst (λ (y : ℕ). g.cast x y ≡ true) s was)) in
      record {
        grow = record {
          won = λ x w. w;
          log = λ x w. agree_refl (length (g.log x)) (g.log x) (omega arith);
          base = λ x w. refl;
          m0 = λ x w. refl;
          top = λ x w. omega arith;
          held = λ x j. omega arith;
          cast = λ x j w. at_keeps (λ _ _ v. v ≡ true) g.cast e i true x j (λ _ _. refl) w;
          vote_accepted = λ x j w. at_other g.vote_accepted e i a x j (apart x j w);
          vote_length = λ x j w. at_other g.vote_length e i k x j (apart x j w);
          stood = λ x w. w;
          cand_accepted = λ x w. refl;
          cand_list = λ x w. refl;
        };
        owned = own;
        positive = pos;
        won_other = λ x h. refl;
        log_other = λ x h. refl;
        top_other = λ x h. refl;
        held_other = λ x j h. refl;
        held_old = λ x h. refl;
      }

  -- a candidature where there was none
  pub stood_move : (t p e a : ℕ) (l : List Entry) → owner_of t ≡ i → 0 < t → (g.stood e ≡ true → ⊥) → Move i t p g (stood_ghost g e a l)
  stood_move t p e a l own pos fresh =
      let apart : (x : ℕ) → g.stood x ≡ true → x ≡ e → ⊥ = λ x was r. fresh (subst (λ (y : ℕ). g.stood y ≡ true) r was) in
      record {
        grow = record {
          won = λ x w. w;
          log = λ x w. agree_refl (length (g.log x)) (g.log x) (omega arith);
          base = λ x w. refl;
          m0 = λ x w. refl;
          top = λ x w. omega arith;
          held = λ x j. omega arith;
          cast = λ x j w. w;
          vote_accepted = λ x j w. refl;
          vote_length = λ x j w. refl;
          stood = λ x w. put_keeps (λ _ v. v ≡ true) g.stood e true x (λ _. refl) w;
          cand_accepted = λ x w. put_other g.cand_accepted e a x (apart x w);
          cand_list = λ x w. put_other g.cand_list e l x (apart x w);
        };
        owned = own;
        positive = pos;
        won_other = λ x h. refl;
        log_other = λ x h. refl;
        top_other = λ x h. refl;
        held_other = λ x j h. refl;
        held_old = λ x h. refl;
      }

  -- an epoch won that was not, by its owner, who holds nothing of it
  pub won_move : (e : ℕ) (l : List Entry) (m : ℕ) → owner_of e ≡ i → 0 < e → g.won e ≡ false → g.held e i ≡ 0 → Move i e e g (won_ghost g e i l m)
  won_move e l m own pos fresh none =
      let apart : (x : ℕ) → g.won x ≡ true → x ≡ e → ⊥ = λ x was r. both_ways (g.won e) fresh (subst (λ (y : ℕ). g.won y ≡ true) r was) in
      record {
        grow = record {
          won = λ x w. put_keeps (λ _ v. v ≡ true) g.won e true x (λ _. refl) w;
          log = λ x w. subst (Agree (length (g.log x)) (g.log x)) (sym (put_other g.log e l x (apart x w))) (agree_refl (length (g.log x)) (g.log x) (omega arith));
          base = λ x w. put_other g.base e l x (apart x w);
          m0 = λ x w. put_other g.m0 e m x (apart x w);
          top = λ x w. omega (arith, put_other g.top e m x (apart x w));
          held = λ x j. at_keeps (λ y k v. g.held y k ≤ v) g.held e i (length l) x j (λ _ _. omega arith) (omega arith);
          cast = λ x j w. w;
          vote_accepted = λ x j w. refl;
          vote_length = λ x j w. refl;
          stood = λ x w. w;
          cand_accepted = λ x w. refl;
          cand_list = λ x w. refl;
        };
        owned = own;
        positive = pos;
        won_other = λ x h. put_other g.won e true x h;
        log_other = λ x h. put_other g.log e l x h;
        top_other = λ x h. put_other g.top e m x h;
        held_other = λ x j h. at_other g.held e i (length l) x j (λ _ s. h s);
        held_old = λ x h. at_other g.held e i (length l) x i (λ r _. let z : ⊥ = omega arith in z);
      }

  -- a higher mark at an epoch of its owner
  pub raised_move : (e m : ℕ) → owner_of e ≡ i → 0 < e → g.top e ≤ m → Move i e e g (raised_ghost g e m)
  raised_move e m own pos more =
      record {
        grow = record {
          won = λ x w. w;
          log = λ x w. agree_refl (length (g.log x)) (g.log x) (omega arith);
          base = λ x w. refl;
          m0 = λ x w. refl;
          top = λ x w. put_keeps (λ y v. g.top y ≤ v) g.top e m x (λ _. more) (omega arith);
          held = λ x j. omega arith;
          cast = λ x j w. w;
          vote_accepted = λ x j w. refl;
          vote_length = λ x j w. refl;
          stood = λ x w. w;
          cand_accepted = λ x w. refl;
          cand_list = λ x w. refl;
        };
        owned = own;
        positive = pos;
        won_other = λ x h. refl;
        log_other = λ x h. refl;
        top_other = λ x h. put_other g.top e m x h;
        held_other = λ x j h. refl;
        held_old = λ x h. refl;
      }

  -- a longer list of the leader of an epoch
  pub entered_move : (e : ℕ) (l : List Entry) → owner_of e ≡ i → 0 < e → Agree (length (g.log e)) (g.log e) l → g.held e i ≤ length l
      → Move i e e g (entered_ghost g e i l)
  entered_move e l own pos longer more =
      record {
        grow = record {
          won = λ x w. w;
          log = λ x w. put_keeps (λ y v. Agree (length (g.log y)) (g.log y) v) g.log e l x (λ _. longer) (agree_refl (length (g.log x)) (g.log x) (omega arith));
          base = λ x w. refl;
          m0 = λ x w. refl;
          top = λ x w. omega arith;
          held = λ x j. at_keeps (λ y k v. g.held y k ≤ v) g.held e i (length l) x j (λ _ _. more) (omega arith);
          cast = λ x j w. w;
          vote_accepted = λ x j w. refl;
          vote_length = λ x j w. refl;
          stood = λ x w. w;
          cand_accepted = λ x w. refl;
          cand_list = λ x w. refl;
        };
        owned = own;
        positive = pos;
        won_other = λ x h. refl;
        log_other = λ x h. put_other g.log e l x h;
        top_other = λ x h. refl;
        held_other = λ x j h. at_other g.held e i (length l) x j (λ _ s. h s);
        held_old = λ x h. at_other g.held e i (length l) x i (λ r _. let z : ⊥ = omega arith in z);
      }

  -- more entries held of an epoch not below the promised one
  pub held_move : (t p e k : ℕ) → owner_of t ≡ i → 0 < t → p ≤ e → g.held e i ≤ k → Move i t p g (held_ghost g e i k)
  held_move t p e k own pos late more =
      record {
        grow = record {
          won = λ x w. w;
          log = λ x w. agree_refl (length (g.log x)) (g.log x) (omega arith);
          base = λ x w. refl;
          m0 = λ x w. refl;
          top = λ x w. omega arith;
          held = λ x j. at_keeps (λ y b v. g.held y b ≤ v) g.held e i k x j (λ _ _. more) (omega arith);
          cast = λ x j w. w;
          vote_accepted = λ x j w. refl;
          vote_length = λ x j w. refl;
          stood = λ x w. w;
          cand_accepted = λ x w. refl;
          cand_list = λ x w. refl;
        };
        owned = own;
        positive = pos;
        won_other = λ x h. refl;
        log_other = λ x h. refl;
        top_other = λ x h. refl;
        held_other = λ x j h. at_other g.held e i k x j (λ _ s. h s);
        held_old = λ x h. at_other g.held e i k x i (λ r _. let z : ⊥ = omega arith in z);
      }
