-- What each step of a cabinet leaves: all still holds, and what it says is true. Assumes nothing.
use Rattle.std.proofs.Common.{◌≡◌, ℕ, ◌+◌, ◌-◌, ◌<◌, ◌≤◌, min, max, Bool, true, not, ◌&&◌, eqb, ltb, leb, List, [], ◌∷◌, ◌++◌, length, get_or, Some, Ok, Option, sym, refl, ap, ◌∙◌, subst, inl, inr, arith}
use Rattle.std.proofs.lemmas.List.{length_push}
use Rattle.std.proofs.lemmas.Bool.{cases_Bool, cases_lt, cond-true, cond-false, cond_both, ltb-true, leb-true, eqb-true, eqb-false, not-true, and_parts}
use Rattle.refusal.specs.declared.Refusal.TheVariants.{WrongAddress, OldEpoch, OtherEpoch, TooMuchAcknowledged}
use Rattle.refusal.specs.Answers.{and_then, unless}
use Rattle.quorum.specs.Sets.{has}
use Rattle.quorum.specs.Rules.{ShareMember}
use Rattle.journal.specs.declared.Entry.{Entry}
use Rattle.journal.specs.Entries.{blank}
use Rattle.frames.specs.Letters.{Letter, Content, candidate, promise, history, entry, acknowledge, commit}
use Rattle.cabinet.specs.declared.Cabinet.{Cabinet}
use Rattle.cabinet.specs.declared.Reply.{Reply}
use Rattle.cabinet.specs.declared.Reply.TheVariants.{Nothing, Candidate, Acknowledge, Commit}
use Rattle.cabinet.specs.Epochs.{owner_of}
use Rattle.cabinet.specs.Records.{follows, stands, gathers, raised, marked, holders_below}
use Rattle.cabinet.specs.Steps.{Step, leaves, Outcome}
use Rattle.configurations.specs.Configurations.{members_before}
use Rattle.committing.specs.Committing.{reached, committing, winning, elected}
use Rattle.acts.specs.Acts.{stand_step, refresh_step, says_history, entered}
use Rattle.messages.specs.Messages.{candidate_step, counted, promise_step, history_step, entry_step, acknowledge_step, commit_step, told_mark, says_commit}
use Rattle.reactions.specs.Reactions.{content_step, addressed, timely, expected, admitted, react}
use Rattle.writing.specs.Speaking.{letter_by, letter_said, letter_after}
use Rattle.agreement.proofs.Prefix.{Agree, agree_refl, agree_sym, agree_trans, agree_down, agree_on, agree_at, agree_push}
use Rattle.agreement.proofs.Ghost.{Ghost, Cover, Follows, ValidContent, Valid, ValidSaid, Holds, Event, event_of}
use Rattle.agreement.proofs.Growth.{Grow, grow_refl, grow_trans, cover_log_grows}
use Rattle.agreement.proofs.MainLemma.{holds_committed, comparable}
use Rattle.agreement.proofs.Changes.{at_same, raised_ghost}
use Rattle.agreement.proofs.Sets.{holders_hold, elected_quorate, rises}
use Rattle.agreement.proofs.Acting.{At, mine, follows_at, held_at, cover_on, follows_move, promise_move, gather_move, win_move, raise_move, learn_move}
use Rattle.agreement.proofs.Listing.{cover_down, stand_move, enter_move, append_move, accept_move, again_move, told_move}
use Rattle.agreement.proofs.Accepted.{guarded, stood_is, refresh_is, Enters, candidate_is, history_is, entry_is, answered, chosen_ok}

-- of two marks that are covered the larger one is
cover_max : {g : Ghost} {a x y : ℕ} {l : List Entry} → Cover g a x l → Cover g a y l → Cover g a (max x y) l
cover_max {g} {a} {x} {y} {l} c d =
    elim (cases_lt x y) [
      | inl less ↦ subst (λ (k : ℕ). Cover g a k l) (let z : y ≡ max x y = omega arith in z) d
      | inr more ↦ subst (λ (k : ℕ). Cover g a k l) (let z : x ≡ max x y = omega arith in z) c
    ]

-- an accepted answer is the one given
same_step : (x y : Step) → ◌≡◌ {A = Outcome} (Ok x) (Ok y) → x ≡ y
same_step x y h = cc

module _ (event : ℕ → Option Event) (quorum : ℕ → ℕ → Bool) (n : ℕ) (cabs : ℕ → Cabinet) (lists : ℕ → List Entry) (i : ℕ) where
  -- what a step of cabinet i leaves, which had record c and list l
  pub record Done (now : ℕ) (g : Ghost) (c : Cabinet) (l : List Entry) (s : Step) : Type 0 where
    pub ghost : Ghost
    pub grow : Grow g ghost
    pub state : At event quorum quorum n cabs lists i now ghost s.cabinet s.list
    pub said : ValidSaid ghost (letter_after i s)
    pub rises : c.mark ≤ s.cabinet.mark
    pub keeps : Agree c.mark l s.list

  -- what committing leaves
  record Committed (now : ℕ) (g : Ghost) (c : Cabinet) (l : List Entry) : Type 0 where
    ghost : Ghost
    grow : Grow g ghost
    state : At event quorum quorum n cabs lists i now ghost (committing quorum i l c) l
    promised : (committing quorum i l c).promised ≡ c.promised
    accepted : (committing quorum i l c).accepted ≡ c.accepted
    rises : c.mark ≤ (committing quorum i l c).mark

  module _ (small : n ≤ 16) (within : i < n) where
    -- a cabinet whose epoch is its own and accepted tells a true history
    history_said : {g : Ghost} {c : Cabinet} {l : List Entry} → Holds g i c l → c.accepted ≡ c.promised → owner_of c.promised ≡ i
        → Valid g (letter_by i c.promised (history c.mark l))
    history_said {g} {c} {l} x same own =
        record {
          true_content = record {
            sent = sym own;
            follows = subst (λ (e : ℕ). Follows g e l) same x.follows;
            cover = subst (λ (e : ℕ). Cover g e c.mark l) same x.cover;
          };
        }

    module _ {now : ℕ} {g : Ghost} {c : Cabinet} {l : List Entry} (state : At event quorum quorum n cabs lists i now g c l) where
      -- what holds of the cabinet
      abbrev here : Holds g i c l
      here = mine event quorum quorum n cabs lists i small within state

      -- a leader commits
      commits_all : c.role ≡ 2 → Committed now g c l
      commits_all role =
          let x = here in
          let s = x.leading role in
          let m = reached quorum l c in
          let up = rises quorum l c.acknowledged (length l - c.mark) c.mark in
          let h = raised_ghost g c.promised m in
          let raised-to = raise_move event quorum quorum n cabs lists i small within state role m up.least (omega (arith, up.most, x.cover.agrees.right))
          (λ q from below. (holders_below c.acknowledged q 16, up.carried q from below, λ j there. (holders_hold c.acknowledged q 16 j there).1)) in
          let b = ltb c.mark m && not (has (members_before l m) i) in
          record {
            ghost = h;
            grow = raised-to.grow;
            state = cond_both b (follows (marked m c)) (marked m c) (λ (d : Cabinet). At event quorum quorum n cabs lists i now h d l) (λ _. follows_move event quorum quorum n cabs lists i small within raised-to.state) (λ _. raised-to.state);
            promised = cond_both b (follows (marked m c)) (marked m c) (λ (d : Cabinet). d.promised ≡ c.promised) (λ _. refl) (λ _. refl);
            accepted = cond_both b (follows (marked m c)) (marked m c) (λ (d : Cabinet). d.accepted ≡ c.accepted) (λ _. refl) (λ _. refl);
            rises = cond_both b (follows (marked m c)) (marked m c) (λ (d : Cabinet). c.mark ≤ d.mark) (λ _. up.least) (λ _. up.least);
          }

    module _ {now : ℕ} {g : Ghost} {c : Cabinet} {l : List Entry} (state : At event quorum quorum n cabs lists i now g c l) where
      -- the committed entries are in the list
      committed_there : c.mark ≤ length l
      committed_there = (here state).cover.agrees.right

      -- who stands and is elected wins
      wins : c.role ≡ 1 → elected quorum l c ≡ true → Done now g c l (says_history l (winning quorum i l c))
      wins role elect =
          let x = here state in
          let s = x.standing role in
          let e = c.promised in
          let led = win_move event quorum quorum n cabs lists i small within state role (λ p. elected_quorate quorum l c.mark c.gathered p elect) in
          let end = commits_all led.state refl in
          record {
            ghost = end.ghost;
            grow = grow_trans led.grow end.grow;
            state = end.state;
            said = history_said (mine event quorum quorum n cabs lists i small within end.state) (end.accepted ∙ sym end.promised) (ap owner_of end.promised ∙ s.owned);
            rises = end.rises;
            keeps = agree_refl c.mark l committed_there;
          }

      -- a candidate's letter is true while it stands
      stands_said : c.role ≡ 1 → Valid g (letter_by i c.promised (candidate c.accepted (length l)))
      stands_said role = let s = (here state).standing role in record { true_content = record { stood = s.stood; accepted = s.accepted; list = ap length s.list } }

    -- a step after other moves
    after : {now : ℕ} {f g : Ghost} {b c : Cabinet} {r l : List Entry} {s : Step} → Grow f g → b.mark ≤ c.mark → Agree b.mark r l → Done now g c l s
        → Done now f b r s
    after grow more same d = record {
      ghost = d.ghost;
      grow = grow_trans grow d.grow;
      state = d.state;
      said = d.said;
      rises = omega (arith, d.rises);
      keeps = agree_on same d.keeps more;
    }

    module _ {now : ℕ} {g : Ghost} {c : Cabinet} {l : List Entry} (state : At event quorum quorum n cabs lists i now g c l) where
      -- standing
      pub stand_done : (s : Step) → stand_step quorum i l c ≡ Ok s → Done now g c l s
      stand_done s h =
          let x = here state in
          let t = stood_is quorum i l c s (omega arith) h in
          let e = t.epoch in
          let d = stands i e c in
          let moved = stand_move event quorum quorum n cabs lists i small within state e t.above t.owned in
          subst (Done now g c l) t.is
          (elim (cases_Bool (elected quorum l d)) [
            | inl elect ↦ subst (Done now g c l) (sym (cond-true (elected quorum l d) (says_history l (winning quorum i l d)) (leaves d l (Candidate d.accepted (length l))) elect)) (after moved.grow (omega arith) (agree_refl c.mark l (committed_there state)) (wins moved.state refl elect))
            | inr waits ↦ subst (Done now g c l) (sym (cond-false (elected quorum l d) (says_history l (winning quorum i l d)) (leaves d l (Candidate d.accepted (length l))) waits))
                (record {
                  ghost = _;
                  grow = moved.grow;
                  state = moved.state;
                  said = stands_said moved.state refl;
                  rises = omega arith;
                  keeps = agree_refl c.mark l (committed_there state);
                })
          ])

      -- refreshing
      pub refresh_done : (s : Step) → refresh_step l c ≡ Ok s → Done now g c l s
      refresh_done s h =
          let t = refresh_is l c s h in
          let y = (here state).leading t.0 in
          subst (Done now g c l) t.1 (record {
            ghost = g;
            grow = grow_refl g;
            state = state;
            said = history_said (here state) y.accepted y.owned;
            rises = omega arith;
            keeps = agree_refl c.mark l (committed_there state);
          })

      -- entering an entry of the epoch that is led
      pub enter_done : (x : Entry) (s : Step) → x.epoch ≡ c.promised → event now ≡ Some (event_of (length l) x) → Enters quorum i l c x s → Done (now + 1) g c l s
      enter_done x s own entered t =
          let y = here state in
          let lead = y.leading t.role in
          let e = c.promised in
          let r = l ++ x ∷ [] in
          let d = raised i (length l + 1) c in
          let size = length_push l x in
          let moved = enter_move event quorum quorum n cabs lists i small within state t.role x own entered in
          let is_won : g.won e ≡ true = (follows_at y lead.accepted).is_won in
          let base-most = (follows_at y lead.accepted).from_base.right in
          let end = commits_all moved.state t.role in
          let h = end.ghost in
          let grow = grow_trans moved.grow end.grow in
          let z = mine event quorum quorum n cabs lists i small within end.state in
          let at-e : (committing quorum i r d).accepted ≡ e = end.accepted ∙ lead.accepted in
          let follow : Follows h e r = subst (λ (k : ℕ). Follows h k r) at-e z.follows in
          let cover : Cover h e (committing quorum i r d).mark (h.log e) = cover_on e z.cover (omega arith) follow.in_log z.cover.agrees.right in
          let said : ValidContent h i e (entry (length l) (committing quorum i r d).mark (get_or r (length l) blank)) = record {
            sent = sym lead.owned;
            is_won = follow.is_won;
            late = subst (λ (b : List Entry). length b ≤ length l) (sym (grow.base e is_won)) base-most;
            there = omega (arith, follow.in_log.right);
            at = sym (agree_at follow.in_log (length l) (omega arith));
            cover = cover;
          } in
          subst (Done (now + 1) g c l) t.is
          (record {
            ghost = h;
            grow = grow;
            state = end.state;
            said = record { true_content = subst (λ (k : ℕ). ValidContent h i k (entry (length l) (committing quorum i r d).mark (get_or r (length l) blank))) (sym end.promised) said };
            rises = end.rises;
            keeps = agree_down c.mark (committed_there state) (agree_push l x);
          })

      -- a candidate that is handed
      candidate_done : (sender e a k : ℕ) (s : Step) → ValidContent g sender e (candidate a k) → c.promised < e → candidate_step l c e a k ≡ Ok s → Done now g c l s
      candidate_done sender e a k s v above h =
          let x = here state in
          let t = candidate_is l c e a k s h in
          let moved = promise_move event quorum quorum n cabs lists i small within state e above v.stood (record {
            order = omega (arith, t.0, v.accepted);
            longer = λ same. omega (arith, v.list, t.1 (same ∙ v.accepted));
          }) in
          subst (Done now g c l) t.2
          (record {
            ghost = _;
            grow = moved.grow;
            state = moved.state;
            said = record { true_content = at_same g.cast e i true };
            rises = omega arith;
            keeps = agree_refl c.mark l (committed_there state);
          })

      -- a promise that is handed
      promise_done : (sender e : ℕ) (s : Step) → g.cast e sender ≡ true → c.role ≡ 1 → c.promised ≡ e → promise_step quorum i l c sender ≡ Ok s → Done now g c l s
      promise_done sender e s v role at h =
          let d = gathers sender c in
          let moved = gather_move event quorum quorum n cabs lists i small within state sender role (subst (λ (k : ℕ). g.cast k sender ≡ true) (sym at) v) in
          subst (Done now g c l) (same_step (counted quorum i l d) s h)
          (elim (cases_Bool (elected quorum l d)) [
            | inl elect ↦ subst (Done now g c l) (sym (cond-true (elected quorum l d) (says_history l (winning quorum i l d)) (leaves d l Nothing) elect)) (after (grow_refl g) (omega arith) (agree_refl c.mark l (committed_there state)) (wins moved role elect))
            | inr waits ↦ subst (Done now g c l) (sym (cond-false (elected quorum l d) (says_history l (winning quorum i l d)) (leaves d l Nothing) waits))
                (record { ghost = g; grow = grow_refl g; state = moved; said = tt; rises = omega arith; keeps = agree_refl c.mark l (committed_there state) })
          ])

      -- a history that is handed
      history_done : ShareMember quorum quorum → (limit sender e m : ℕ) (r : List Entry) (s : Step) → ValidContent g sender e (history m r) → c.promised ≤ e
          → history_step limit l c e m r ≡ Ok s → Done now g c l s
      history_done share limit sender e m r s v late h =
          let x = here state in
          let a = c.accepted in
          let both : a ≡ e → (k : ℕ) → k ≤ length l → k ≤ length r → Agree k l r
          = λ same k in-l in-r. agree_trans (agree_down k in-l (follows_at x same).in_log) (agree_sym (agree_down k in-r v.follows.in_log)) in
          elim (history_is limit l c e m r s h) [
            | inl newer ↦
                let mark-cover : Cover g e c.mark r = elim (cases_lt a e) [
                  | inl less ↦
                      let o = x.cover.source in
                      let passed = holds_committed share state.all o e x.cover.is_won v.follows.is_won (omega (arith, x.cover.below)) in
                      let down = agree_down c.mark x.cover.within passed in
                      record {
                        source = o;
                        is_won = x.cover.is_won;
                        below = omega (arith, x.cover.below);
                        within = x.cover.within;
                        agrees = agree_on down v.follows.from_base down.right;
                      }
                  | inr more ↦
                      let same : a ≡ e = omega (arith, x.accepted_most) in
                      let long : c.mark ≤ length r = elim newer.0 [
                        | inl less ↦ let z : c.mark ≤ length r = omega arith in z
                        | inr longer ↦ let z : c.mark ≤ length r = omega (arith, committed_there state) in z
                      ] in
                      cover_on e x.cover (omega arith) (both same c.mark (committed_there state) long) (omega arith)
                ] in
                let held-most : g.held e i ≤ length r = elim (cases_lt a e) [
                  | inl less ↦ let z : g.held e i ≤ length r = omega (arith, x.no_later e less) in z
                  | inr more ↦
                      let same : a ≡ e = omega (arith, x.accepted_most) in
                      let was = held_at x same in
                      elim newer.0 [ inl less ↦ let z : g.held e i ≤ length r = omega arith in z | inr longer ↦ let z : g.held e i ≤ length r = omega arith in z ]
                ] in
                let moved = accept_move event quorum quorum n cabs lists i small within state e m r late held-most v.follows (cover_max mark-cover v.cover) in
                subst (Done now g c l) newer.1
                (record {
                  ghost = _;
                  grow = moved.grow;
                  state = moved.state;
                  said = record { true_content = omega (arith, at_same g.held e i (length r)) };
                  rises = omega arith;
                  keeps = comparable share state.all x.cover mark-cover (omega arith);
                })
            | inr older ↦
                let same : a ≡ e = omega (arith, x.accepted_most, older.0) in
                let short = v.cover.agrees.right in
                let told : Cover g e m l = cover_on e v.cover (omega arith) (agree_sym (both same m (omega (arith, older.1)) short)) (omega arith) in
                let mark-cover : Cover g e c.mark l = subst (λ (k : ℕ). Cover g k c.mark l) same x.cover in
                let was = held_at x same in
                subst (Done now g c l) older.2
                (record {
                  ghost = g;
                  grow = grow_refl g;
                  state = again_move event quorum quorum n cabs lists i small within state e m late same (cover_max mark-cover told);
                  said = record { true_content = omega arith };
                  rises = omega arith;
                  keeps = agree_refl c.mark l (committed_there state);
                })
          ]

      -- a mark that is told is covered on the list as far as it goes
      told_cover : (e m : ℕ) → c.accepted ≡ e → Cover g e m (g.log e) → Cover g c.accepted (max c.mark (min m (length l))) l
      told_cover e m same v =
          let x = here state in
          let k = min m (length l) in
          let log-on = (follows_at x same).in_log in
          cover_max x.cover (cover_on c.accepted (cover_down k (omega arith) v) (omega arith) (agree_sym log-on) (omega arith))

      -- who is not the owner of the epoch that it accepted does not lead
      not_leading : (e sender : ℕ) → c.promised ≡ e → sender ≡ owner_of e → (sender ≡ i → ⊥) → c.role ≡ 2 → ⊥
      not_leading e sender at sent apart role = apart (sent ∙ ap owner_of (sym at) ∙ ((here state).leading role).owned)

      -- a mark that is told by a letter of the accepted epoch, with the list as it is
      goes_on : (e sender m : ℕ) (reply : Reply) → c.promised ≡ e → c.accepted ≡ e → sender ≡ owner_of e → (sender ≡ i → ⊥) → Cover g e m (g.log e)
          → ValidSaid g (letter_said i c.promised l reply) → Done now g c l (leaves (told_mark (length l) m c) l reply)
      goes_on e sender m reply at same sent apart cover said =
          record {
            ghost = g;
            grow = grow_refl g;
            state = told_move event quorum quorum n cabs lists i small within state (max c.mark (min m (length l))) (not_leading e sender at sent apart) (omega arith) (told_cover e m same cover);
            said = said;
            rises = omega arith;
            keeps = agree_refl c.mark l (committed_there state);
          }

      -- who has accepted its promised epoch acknowledges what it holds
      acknowledges : c.accepted ≡ c.promised → Valid g (letter_by i c.promised (acknowledge (length l)))
      acknowledges same = let held = held_at (here state) same in record { true_content = omega arith }

      -- a commit that is handed
      commit_done : (sender e m : ℕ) (s : Step) → ValidContent g sender e (commit m) → (sender ≡ i → ⊥) → c.promised ≡ e → c.accepted ≡ e
          → commit_step l c m ≡ Ok s → Done now g c l s
      commit_done sender e m s v apart at same h = subst (Done now g c l) (same_step _ s h) (goes_on e sender m Nothing at same v.sent apart v.cover tt)

      -- an acknowledged length that is handed
      acknowledge_done : (sender e k : ℕ) (s : Step) → k ≤ g.held e sender → c.role ≡ 2 → c.promised ≡ e → acknowledge_step quorum i l c sender k ≡ Ok s
          → Done now g c l s
      acknowledge_done sender e k s v role at h =
          let x = here state in
          let lead = x.leading role in
          let d = raised sender k c in
          let moved = learn_move event quorum quorum n cabs lists i small within state role sender k (subst (λ (y : ℕ). k ≤ g.held y sender) (sym at) v) in
          let end = commits_all moved role in
          let f = committing quorum i l d in
          let y = mine event quorum quorum n cabs lists i small within end.state in
          let at-e : f.accepted ≡ f.promised = end.accepted ∙ lead.accepted ∙ sym end.promised in
          let own : i ≡ owner_of f.promised = sym lead.owned ∙ ap owner_of (sym end.promised) in
          let follow : Follows end.ghost f.promised l = subst (λ (b : ℕ). Follows end.ghost b l) at-e y.follows in
          let said : Valid end.ghost (letter_by i f.promised (commit f.mark)) = record {
            true_content = record {
              sent = own;
              is_won = follow.is_won;
              cover = cover_on f.promised y.cover (omega arith) follow.in_log y.cover.agrees.right;
            };
          } in
          let t = guarded (leb k (length l)) TooMuchAcknowledged (λ _. Ok (leaves f l (says_commit c.mark f))) s h in
          subst (Done now g c l) (same_step _ s t.1)
          (record {
            ghost = end.ghost;
            grow = end.grow;
            state = end.state;
            rises = end.rises;
            keeps = agree_refl c.mark l (committed_there state);
            said = cond_both (ltb c.mark f.mark) (Commit f.mark) Nothing (λ (reply : Reply). ValidSaid end.ghost (letter_said i f.promised l reply)) (λ _. said) (λ _. tt);
          })

    module _ {now : ℕ} {g : Ghost} {c : Cabinet} {l : List Entry} (state : At event quorum quorum n cabs lists i now g c l) where
      -- an entry that is handed
      entry_done : (limit sender e q m : ℕ) (x : Entry) (s : Step) → ValidContent g sender e (entry q m x) → (sender ≡ i → ⊥) → c.promised ≡ e
          → c.accepted ≡ e → entry_step limit l c q m x ≡ Ok s → Done now g c l s
      entry_done limit sender e q m x s v apart at same h =
          let y = here state in
          let agreed : c.accepted ≡ c.promised = same ∙ sym at in
          elim (entry_is limit l c q m x s h) [
            | inl known ↦ subst (Done now g c l) (same_step _ s known) (goes_on state e sender m (Acknowledge (length l)) at same v.sent apart v.cover (acknowledges state agreed))
            | inr next ↦
                let r = l ++ x ∷ [] in
                let there : length l < length (g.log c.promised) = subst (λ (k : ℕ). length l < length (g.log k)) (sym at) (omega (arith, v.there, next.0)) in
                let is_x : get_or (g.log c.promised) (length l) blank ≡ x = subst (λ (k : ℕ). get_or (g.log k) (length l) blank ≡ x) (sym at) (subst (λ (k : ℕ). get_or (g.log e) k blank ≡ x) next.0 v.at) in
                let moved = append_move event quorum quorum n cabs lists i small within state agreed x there is_x in
                let cover = cover_log_grows moved.grow v.is_won v.cover in
                subst (Done now g c l) (same_step _ s next.2) (after moved.grow (omega arith) (agree_down c.mark (committed_there state) (agree_push l x)) (goes_on moved.state e sender m (Acknowledge (length r)) at same v.sent apart cover (acknowledges moved.state agreed)))
          ]

      -- a letter that is handed, once it is one for the cabinet
      content_done : ShareMember quorum quorum → (limit sender e : ℕ) (t : Content) (s : Step) → ValidContent g sender e t → addressed i sender e t ≡ true
          → timely c e t ≡ true → expected c e t ≡ true → content_step quorum limit i l c sender e t ≡ Ok s → Done now g c l s
      content_done share limit sender e (candidate a k) s v address time expect h = candidate_done state sender e a k s v (ltb-true c.promised e time) h
      content_done share limit sender e promise s v address time expect h =
          let both = and_parts (eqb c.role 1) (eqb c.promised e) expect in
          promise_done state sender e s v (eqb-true c.role 1 both.0) (eqb-true c.promised e both.1) h
      content_done share limit sender e (history m r) s v address time expect h = history_done state share limit sender e m r s v (leb-true c.promised e time) h
      content_done share limit sender e (entry q m x) s v address time expect h =
          let both = and_parts (eqb c.promised e) (eqb c.accepted e) expect in
          entry_done limit sender e q m x s v (eqb-false sender i (not-true (eqb sender i) address)) (eqb-true c.promised e both.0) (eqb-true c.accepted e both.1) h
      content_done share limit sender e (acknowledge k) s v address time expect h =
          let both = and_parts (eqb c.role 2) (eqb c.promised e) expect in
          acknowledge_done state sender e k s v (eqb-true c.role 2 both.0) (eqb-true c.promised e both.1) h
      content_done share limit sender e (commit m) s v address time expect h =
          let both = and_parts (eqb c.promised e) (eqb c.accepted e) expect in
          commit_done state sender e m s v (eqb-false sender i (not-true (eqb sender i) address)) (eqb-true c.promised e both.0) (eqb-true c.accepted e both.1) h

      -- a letter that is handed
      pub react_done : ShareMember quorum quorum → (limit : ℕ) (t : Letter) (s : Step) → Valid g t → react quorum limit i l c t ≡ Ok s → Done now g c l s
      react_done share limit t s v h =
          let admits = answered (admitted i c t) (λ _. content_step quorum limit i l c t.sender t.epoch t.content) s h in
          let third = λ (_ : Unit {0}). unless (expected c t.epoch t.content) OtherEpoch in
          let a = guarded (addressed i t.sender t.epoch t.content) WrongAddress (λ _. and_then (unless (timely c t.epoch t.content) OldEpoch) third) admits.0 admits.1 in
          let b = guarded (timely c t.epoch t.content) OldEpoch third admits.0 a.1 in
          let d = (chosen_ok (expected c t.epoch t.content) (Ok tt) OtherEpoch admits.0 b.1).0 in
          content_done share limit t.sender t.epoch t.content s v.true_content a.0 b.0 d admits.2
