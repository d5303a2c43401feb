-- The ghost state only grows, and what was true of it stays true. Assumes nothing.
use Rattle.std.proofs.Common.{◌≡◌, ℕ, zero, suc, ◌<◌, ◌≤◌, Bool, true, false, List, length, get_or, Some, None, Option, sym, refl, ap, ◌∙◌, subst, arith}
use Rattle.journal.specs.declared.Entry.{Entry}
use Rattle.journal.specs.Entries.{blank}
use Rattle.frames.specs.Letters.{Letter, Content, candidate, promise, history, entry, acknowledge, commit}
use Rattle.configurations.specs.Configurations.{configures, members_at, members_before, members_after}
use Rattle.agreement.proofs.Prefix.{Agree, agree_refl, agree_sym, agree_trans, agree_down, agree_on, agree_at}
use Rattle.agreement.proofs.Ghost.{Ghost, Cover, Follows, ValidContent, Valid, ValidSaid, Winner, Carried, Event, Entered}

-- won epochs stay won with their first list and mark, their lists and marks grow, holdings rise, votes and candidatures stay
pub record Grow (g h : Ghost) : Type 0 where
  pub won : (e : ℕ) → g.won e ≡ true → h.won e ≡ true
  pub log : (e : ℕ) → g.won e ≡ true → Agree (length (g.log e)) (g.log e) (h.log e)
  pub base : (e : ℕ) → g.won e ≡ true → h.base e ≡ g.base e
  pub m0 : (e : ℕ) → g.won e ≡ true → h.m0 e ≡ g.m0 e
  pub top : (e : ℕ) → g.won e ≡ true → g.top e ≤ h.top e
  pub held : (e j : ℕ) → g.held e j ≤ h.held e j
  pub cast : (e j : ℕ) → g.cast e j ≡ true → h.cast e j ≡ true
  pub vote_accepted : (e j : ℕ) → g.cast e j ≡ true → h.vote_accepted e j ≡ g.vote_accepted e j
  pub vote_length : (e j : ℕ) → g.cast e j ≡ true → h.vote_length e j ≡ g.vote_length e j
  pub stood : (e : ℕ) → g.stood e ≡ true → h.stood e ≡ true
  pub cand_accepted : (e : ℕ) → g.stood e ≡ true → h.cand_accepted e ≡ g.cand_accepted e
  pub cand_list : (e : ℕ) → g.stood e ≡ true → h.cand_list e ≡ g.cand_list e

-- a ghost state that stays has grown
pub grow_refl : (g : Ghost) → Grow g g
grow_refl g =
    record {
      won = λ e h. h;
      log = λ e h. agree_refl (length (g.log e)) (g.log e) (omega arith);
      base = λ e h. refl;
      m0 = λ e h. refl;
      top = λ e h. omega arith;
      held = λ e j. omega arith;
      cast = λ e j h. h;
      vote_accepted = λ e j h. refl;
      vote_length = λ e j h. refl;
      stood = λ e h. h;
      cand_accepted = λ e h. refl;
      cand_list = λ e h. refl;
    }

-- growth upon growth is growth
pub grow_trans : {f g h : Ghost} → Grow f g → Grow g h → Grow f h
grow_trans a b =
    record {
      won = λ e w. b.won e (a.won e w);
      log = λ e w. agree_on (a.log e w) (b.log e (a.won e w)) (a.log e w).right;
      base = λ e w. b.base e (a.won e w) ∙ a.base e w;
      m0 = λ e w. b.m0 e (a.won e w) ∙ a.m0 e w;
      top = λ e w. omega (arith, a.top e w, b.top e (a.won e w));
      held = λ e j. omega (arith, a.held e j, b.held e j);
      cast = λ e j w. b.cast e j (a.cast e j w);
      vote_accepted = λ e j w. b.vote_accepted e j (a.cast e j w) ∙ a.vote_accepted e j w;
      vote_length = λ e j w. b.vote_length e j (a.cast e j w) ∙ a.vote_length e j w;
      stood = λ e w. b.stood e (a.stood e w);
      cand_accepted = λ e w. b.cand_accepted e (a.stood e w) ∙ a.cand_accepted e w;
      cand_list = λ e w. b.cand_list e (a.stood e w) ∙ a.cand_list e w;
    }

-- what is said is a true letter
pub said_valid : {g : Ghost} {t : Letter} (o : Option Letter) → ValidSaid g o → o ≡ Some t → Valid g t
said_valid {g} {t} (Some u) v is = subst (Valid g) (let same : u ≡ t = cc in same) v
said_valid None v is = absurd (let z : ◌≡◌ {A = ℕ} 0 1 = cc in let y : ⊥ = omega arith in y)

-- the members before a position are the same in lists that agree up to it
pub members_agree : {n : ℕ} {l m : List Entry} → Agree n l m → (q : ℕ) → q ≤ n → members_before l q ≡ members_before m q
unfolding members_before
members_agree a zero h = refl
members_agree {l = l} {m = m} a (suc q) h =
    ap (λ (x : Entry). members_after x (members_before l q)) (agree_at a q (omega arith)) ∙ ap (members_after (get_or m q blank)) (members_agree a q (omega arith))

module _ {g h : Ghost} (grow : Grow g h) where
  -- what is covered stays covered
  pub cover_grows : {a m : ℕ} {l : List Entry} → Cover g a m l → Cover h a m l
  cover_grows c =
      record {
        source = c.source;
        is_won = grow.won c.source c.is_won;
        below = c.below;
        within = omega (arith, grow.top c.source c.is_won, c.within);
        agrees = agree_trans (agree_sym (agree_down _ c.agrees.left (grow.log c.source c.is_won))) c.agrees;
      }

  -- a list of an epoch stays one
  pub follows_grows : {e : ℕ} {l : List Entry} → Follows g e l → Follows h e l
  follows_grows {e} {l} f =
      record {
        is_won = grow.won e f.is_won;
        from_base = subst (λ (b : List Entry). Agree (length b) b l) (sym (grow.base e f.is_won)) f.from_base;
        in_log = agree_on f.in_log (grow.log e f.is_won) f.in_log.right;
      }

  -- what is covered on a leader's list stays covered on it
  pub cover_log_grows : {a m e : ℕ} → g.won e ≡ true → Cover g a m (g.log e) → Cover h a m (h.log e)
  cover_log_grows {e = e} w c =
      let d = cover_grows c in
      record { source = d.source; is_won = d.is_won; below = d.below; within = d.within; agrees = agree_on d.agrees (grow.log e w) d.agrees.right }

  -- the content of a letter stays true
  content_grows : (sender e : ℕ) (t : Content) → ValidContent g sender e t → ValidContent h sender e t
  content_grows sender e (candidate accepted n) v = record {
    stood = grow.stood e v.stood;
    accepted = grow.cand_accepted e v.stood ∙ v.accepted;
    list = ap length (grow.cand_list e v.stood) ∙ v.list;
  }
  content_grows sender e promise v = grow.cast e sender v
  content_grows sender e (history mark l) v = record { sent = v.sent; follows = follows_grows v.follows; cover = cover_grows v.cover }
  content_grows sender e (entry q mark x) v =
      record {
        sent = v.sent;
        is_won = grow.won e v.is_won;
        late = subst (λ (b : List Entry). length b ≤ q) (sym (grow.base e v.is_won)) v.late;
        there = omega (arith, v.there, (grow.log e v.is_won).right);
        at = sym (agree_at (grow.log e v.is_won) q v.there) ∙ v.at;
        cover = cover_log_grows v.is_won v.cover;
      }
  content_grows sender e (acknowledge n) v = omega (arith, grow.held e sender, v)
  content_grows sender e (commit mark) v = record { sent = v.sent; is_won = grow.won e v.is_won; cover = cover_log_grows v.is_won v.cover }

  -- a letter that was true stays true, however late it is handed
  pub valid_grows : {t : Letter} → Valid g t → Valid h t
  valid_grows {t} v = record { true_content = content_grows t.sender t.epoch t.content v.true_content }

  -- the same of a letter that may be there
  pub said_grows : (o : Option Letter) → ValidSaid g o → ValidSaid h o
  said_grows (Some t) v = valid_grows v
  said_grows None v = v

  -- what was entered stays entered
  pub entered_grows : {v : Event} → Entered g v → Entered h v
  entered_grows {v} w =
      let e = v.epoch in
      record {
        is_won = grow.won e w.is_won;
        late = subst (λ (b : List Entry). length b ≤ v.position) (sym (grow.base e w.is_won)) w.late;
        there = omega (arith, w.there, (grow.log e w.is_won).right);
        at = sym (agree_at (grow.log e w.is_won) v.position w.there) ∙ w.at;
        own = w.own;
      }

  -- an entry that was carried stays carried
  pub carried_grows : {commits : ℕ → ℕ → Bool} {e q : ℕ} → g.won e ≡ true → q ≤ length (g.log e) → Carried commits g e q → Carried commits h e q
  carried_grows {commits} {e} {q} w there c =
      record {
        set = c.set;
        quorate = subst (λ (m : ℕ). commits m c.set ≡ true) (members_agree (grow.log e w) q there) c.quorate;
        hold = λ j in-set. omega (arith, c.hold j in-set, grow.held e j);
      }

  -- who won an epoch stays its winner
  pub winner_grows : {elects : ℕ → ℕ → Bool} {e : ℕ} → g.won 0 ≡ true → g.won e ≡ true → Winner elects g e → Winner elects h e
  winner_grows {elects} {e} w0 w x =
      let same : g.base e ≡ h.base e = sym (grow.base e w) in
      let mark : g.m0 e ≡ h.m0 e = sym (grow.m0 e w) in
      let chose : g.cand_accepted e ≡ h.cand_accepted e = sym (grow.cand_accepted e x.stood) in
      record {
        opens = subst (λ (b : List Entry). Agree 1 (h.log 0) b) same (agree_trans (agree_sym (agree_down 1 x.opens.left (grow.log 0 w0))) x.opens);
        grown = subst (λ (b : List Entry). Agree (length b) b (h.log e)) same (agree_on x.grown (grow.log e w) x.grown.right);
        stood = grow.stood e x.stood;
        chosen = grow.cand_list e x.stood ∙ x.chosen ∙ same;
        earlier = subst (λ (a : ℕ). a < e) chose x.earlier;
        follows = subst (λ (b : List Entry). Follows h (h.cand_accepted e) b) same (subst (λ (a : ℕ). Follows h a (g.base e)) chose (follows_grows x.follows));
        mark_least = omega (arith, mark, x.mark_least);
        mark_most = omega (arith, mark, x.mark_most, grow.top e w);
        cover = subst (λ (b : List Entry). Cover h (h.cand_accepted e) (h.m0 e) b) same (subst (λ (m : ℕ). Cover h (h.cand_accepted e) m (g.base e)) mark (subst (λ (a : ℕ). Cover h a (g.m0 e) (g.base e)) chose (cover_grows x.cover)));
        voters = x.voters;
        voted = λ j in-set. grow.cast e j (x.voted j in-set);
        quorate = subst (λ (m : ℕ). (p : ℕ) → p < length (h.base e) → configures (h.base e) p ≡ true → ((k : ℕ) → p < k → k < m → configures (h.base e) k ≡ false) → elects (members_at (h.base e) p) x.voters ≡ true) mark
            (subst (λ (b : List Entry). (p : ℕ) → p < length b → configures b p ≡ true → ((k : ℕ) → p < k → k < g.m0 e → configures b k ≡ false) → elects (members_at b p) x.voters ≡ true) same x.quorate);
      }
