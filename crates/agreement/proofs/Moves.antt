-- What a move of one cabinet leaves as it was. Assumes nothing.
use Rattle.std.proofs.Common.{◌≡◌, ℕ, ◌<◌, ◌≤◌, Bool, true, cond, eqb, ◌⊎◌, List, length, Some, Option, sym, refl, ap, ◌∙◌, subst, inl, inr, arith}
use mathlib.Core.Path.{fun_ext}
use Rattle.std.proofs.lemmas.Bool.{cases_eq, eq-eqb, ne_eqb, cond-true, cond-false}
use Rattle.journal.specs.declared.Entry.{Entry}
use Rattle.entries.specs.Histories.{is_configuration}
use Rattle.cabinet.specs.declared.Cabinet.{Cabinet}
use Rattle.cabinet.specs.Epochs.{owner_of}
use Rattle.agreement.proofs.Prefix.{agree_at}
use Rattle.agreement.proofs.Ghost.{Ghost, Holds, Vote, Winner, Carried, Founded, Event, Entered, Entries, Unique, Inv}
use Rattle.agreement.proofs.Growth.{Grow, cover_grows, follows_grows, entered_grows, carried_grows, winner_grows}

-- a function with another value at one number
abbrev pub put : {A : Type 0} → (ℕ → A) → ℕ → A → ℕ → A
put f k v x = cond (eqb x k) v (f x)

-- at that number
pub put_same : {A : Type 0} (f : ℕ → A) (k : ℕ) (v : A) → put f k v k ≡ v
put_same f k v = cond-true _ _ _ (eq-eqb k k refl)

-- at any other
pub put_other : {A : Type 0} (f : ℕ → A) (k : ℕ) (v : A) (x : ℕ) → (x ≡ k → ⊥) → put f k v x ≡ f x
put_other f k v x h = cond-false _ _ _ (ne_eqb x k h)

-- a function that has the value there and elsewhere those of another
pub put_is : {A : Type 0} (f f' : ℕ → A) (k : ℕ) (v : A) → f' k ≡ v → ((x : ℕ) → (x ≡ k → ⊥) → f' x ≡ f x) → put f k v ≡ f'
put_is f f' k v here other =
    fun_ext (λ x. elim (cases_eq x k) [
      | inl same ↦ ap (put f k v) same ∙ put_same f k v ∙ sym here ∙ ap f' (sym same)
      | inr apart ↦ put_other f k v x apart ∙ sym (other x apart)
    ])

-- what a move of cabinet i, which had promised p, changes of the ghost state: epoch t of its own, and holdings of its own from p on
pub record Move (i t p : ℕ) (g h : Ghost) : Type 0 where
  pub grow : Grow g h
  pub owned : owner_of t ≡ i
  pub positive : 0 < t
  pub won_other : (e : ℕ) → (e ≡ t → ⊥) → h.won e ≡ g.won e
  pub log_other : (e : ℕ) → (e ≡ t → ⊥) → h.log e ≡ g.log e
  pub top_other : (e : ℕ) → (e ≡ t → ⊥) → h.top e ≡ g.top e
  pub held_other : (e j : ℕ) → (j ≡ i → ⊥) → h.held e j ≡ g.held e j
  pub held_old : (e : ℕ) → e < p → h.held e i ≡ g.held e i

-- what a move has to show beside: of the cabinet, of new candidatures, votes and winners, of its epoch's list and mark, and of new events
pub record New (event : ℕ → Option Event) (elects commits : ℕ → ℕ → Bool) (i t now now' : ℕ) (g h : Ghost) (c : Cabinet) (l : List Entry) : Type 0 where
  pub holds : Holds h i c l
  pub stands : (e : ℕ) → h.stood e ≡ true → (g.stood e ≡ true) ⊎ ((owner_of e ≡ i) × (e ≤ c.promised))
  pub votes : (e j : ℕ) → h.cast e j ≡ true → (g.cast e j ≡ true) ⊎ ((j ≡ i) × Vote h c.promised e i)
  pub winner : h.won t ≡ true → (g.won t ≡ true) ⊎ Winner elects h t
  pub reach : h.won t ≡ true → h.top t ≤ length (h.log t)
  pub carried : h.won t ≡ true → (q : ℕ) → h.m0 t ≤ q → q < h.top t → ((g.won t ≡ true) × (q < g.top t)) ⊎ Carried commits h t q
  pub entries : h.won t ≡ true → Entries event now' t (h.log t)
  pub events : (k : ℕ) (v : Event) → k < now' → event k ≡ Some v → (k < now) ⊎ Entered h v
  pub unique : Unique event now'

-- the entries of a list have their origins at any later moment too
pub entries_later : {event : ℕ → Option Event} {now e : ℕ} {l : List Entry} (now' : ℕ) → now ≤ now' → Entries event now e l → Entries event now' e l
entries_later now' h x =
    record {
      origin = λ q a b. let o = x.origin q a b in record { call = o.call; past = omega (arith, o.past); entered = o.entered };
      rising = x.rising;
      most = x.most;
    }

module _ {i t p : ℕ} {g h : Ghost} (move : Move i t p g h) where
  -- another cabinet's epoch is not the one of the move
  not_there : (j e : ℕ) → (j ≡ i → ⊥) → owner_of e ≡ j → e ≡ t → ⊥
  not_there j e apart own same = apart (sym own ∙ ap owner_of same ∙ move.owned)

  -- what holds of another cabinet still holds
  pub holds_kept : (j : ℕ) (c : Cabinet) (l : List Entry) → (j ≡ i → ⊥) → Holds g j c l → Holds h j c l
  holds_kept j c l apart x =
      record {
        follows = follows_grows move.grow x.follows;
        accepted_most = x.accepted_most;
        holds = move.held_other c.accepted j apart ∙ x.holds;
        no_later = λ e later. move.held_other e j apart ∙ x.no_later e later;
        mark_least = x.mark_least;
        cover = cover_grows move.grow x.cover;
        standing = λ role. let s = x.standing role in
            record {
              owned = s.owned;
              above = s.above;
              unwon = move.won_other c.promised (not_there j c.promised apart s.owned) ∙ s.unwon;
              stood = move.grow.stood c.promised s.stood;
              accepted = move.grow.cand_accepted c.promised s.stood ∙ s.accepted;
              list = move.grow.cand_list c.promised s.stood ∙ s.list;
              gathered = λ k there. move.grow.cast c.promised k (s.gathered k there);
            };
        leading = λ role. let s = x.leading role in
            record {
              owned = s.owned;
              positive = s.positive;
              accepted = s.accepted;
              whole = s.whole ∙ sym (move.log_other c.promised (not_there j c.promised apart s.owned));
              topmost = s.topmost ∙ sym (move.top_other c.promised (not_there j c.promised apart s.owned));
              known = λ k. omega (arith, s.known k, move.grow.held c.promised k);
            };
      }

  -- what cabinet j held below an epoch that it promised is as it was
  held_below : (e j p' : ℕ) → (j ≡ i → p' ≤ p) → e < p' → h.held e j ≡ g.held e j
  held_below e j p' most less =
      elim (cases_eq j i) [
        | inl same ↦ ap (h.held e) same ∙ move.held_old e (let z : e < p = omega (arith, most same) in z) ∙ ap (g.held e) (sym same)
        | inr apart ↦ move.held_other e j apart
      ]

  -- a vote still holds
  pub vote_kept : (e j p' p'' : ℕ) → (j ≡ i → p' ≤ p) → p' ≤ p'' → g.cast e j ≡ true → Vote g p' e j → Vote h p'' e j
  vote_kept e j p' p'' most more cast v =
      let a = g.vote_accepted e j in
      let same : a ≡ h.vote_accepted e j = sym (move.grow.vote_accepted e j cast) in
      let length-same = move.grow.vote_length e j cast in
      let cand-same = move.grow.cand_accepted e v.stood in
      let List-same = ap length (move.grow.cand_list e v.stood) in
      record {
        stood = move.grow.stood e v.stood;
        before = omega (arith, same, v.before);
        kept = omega (arith, v.kept);
        nothing_between = λ k above below. held_below k j p' most (omega (arith, v.kept)) ∙ v.nothing_between k (omega (arith, same)) below;
        no_more = subst (λ (b : ℕ). h.held b j ≤ h.vote_length e j) same (omega (arith, held_below a j p' most (omega (arith, v.kept, v.before)), v.no_more));
        not_later = omega (arith, same, v.not_later);
        not_longer = λ equal. omega (arith, v.not_longer (omega arith));
      }

  -- what stands of epoch 0 still stands
  founded_kept : Founded g → Founded h
  founded_kept f =
      let log = move.grow.log 0 f.is_won in
      record {
        is_won = move.grow.won 0 f.is_won;
        top_one = move.top_other 0 (λ same. let z : ⊥ = omega (arith, move.positive) in z) ∙ f.top_one;
        filled = omega (arith, log.right, f.filled);
        configured = sym (ap (λ (y : Entry). is_configuration y.kind) (agree_at log 0 f.filled)) ∙ f.configured;
      }

module _ {event : ℕ → Option Event} {elects commits : ℕ → ℕ → Bool} {n now : ℕ} {g h : Ghost} {cabs : ℕ → Cabinet} {lists : ℕ → List Entry}
    (inv : Inv event elects commits n now g cabs lists) (i t now' : ℕ) (within : i < n) (c : Cabinet) (l : List Entry) (time : now ≤ now')
    (raised : (cabs i).promised ≤ c.promised) (move : Move i t (cabs i).promised g h) (new : New event elects commits i t now now' g h c l) where
  -- an epoch other than the move's was won before
  won_before : (e : ℕ) → (e ≡ t → ⊥) → h.won e ≡ true → g.won e ≡ true
  won_before e apart w = sym (move.won_other e apart) ∙ w

  -- promised epochs do not fall
  promised_most : (j : ℕ) → (cabs j).promised ≤ (put cabs i c j).promised
  promised_most j =
      elim (cases_eq j i) [
        | inl same ↦ subst (λ (k : ℕ). (cabs k).promised ≤ (put cabs i c k).promised) (sym same) (subst (λ (d : Cabinet). (cabs i).promised ≤ d.promised) (sym (put_same cabs i c)) raised)
        | inr apart ↦ subst (λ (d : Cabinet). (cabs j).promised ≤ d.promised) (sym (put_other cabs i c j apart)) (omega arith)
      ]

  -- all that held still holds after the move
  pub kept : Inv event elects commits n now' h (put cabs i c) (put lists i l)
  kept =
      record {
        cabinets = λ j in_table.
            elim (cases_eq j i) [
              | inl same ↦ subst (λ (k : ℕ). Holds h k (put cabs i c k) (put lists i l k)) (sym same) (subst (λ (d : Cabinet). Holds h i d (put lists i l i)) (sym (put_same cabs i c)) (subst (λ (r : List Entry). Holds h i c r) (sym (put_same lists i l)) new.holds))
              | inr apart ↦ subst (λ (d : Cabinet). Holds h j d (put lists i l j)) (sym (put_other cabs i c j apart)) (subst (λ (r : List Entry). Holds h j (cabs j) r) (sym (put_other lists i l j apart)) (holds_kept move j (cabs j) (lists j) apart (inv.cabinets j in_table)))
            ];
        votes = λ e j cast.
            elim (new.votes e j cast) [
              | inl old ↦ vote_kept move e j (cabs j).promised (put cabs i c j).promised (λ same. subst (λ (k : ℕ). (cabs k).promised ≤ (cabs i).promised) (sym same) (omega arith)) (promised_most j) old (inv.votes e j old)
              | inr fresh ↦ subst (λ (k : ℕ). Vote h (put cabs i c k).promised e k) (sym fresh.0) (subst (λ (d : Cabinet). Vote h d.promised e i) (sym (put_same cabs i c)) fresh.1)
            ];
        stands = λ e stood.
            elim (new.stands e stood) [
              | inl old ↦ omega (arith, inv.stands e old, promised_most (owner_of e))
              | inr fresh ↦ subst (λ (k : ℕ). e ≤ (put cabs i c k).promised) (sym fresh.0) (subst (λ (d : Cabinet). e ≤ d.promised) (sym (put_same cabs i c)) fresh.1)
            ];
        founded = founded_kept move inv.founded;
        winners = λ e w positive.
            elim (cases_eq e t) [
              | inl same ↦
                  elim (new.winner (subst (λ (k : ℕ). h.won k ≡ true) same w)) [
                    | inl old ↦ let was = subst (λ (k : ℕ). g.won k ≡ true) (sym same) old in winner_grows move.grow inv.founded.is_won was (inv.winners e was positive)
                    | inr fresh ↦ subst (Winner elects h) (sym same) fresh
                  ]
              | inr apart ↦ let was = won_before e apart w in winner_grows move.grow inv.founded.is_won was (inv.winners e was positive)
            ];
        reach = λ e w.
            elim (cases_eq e t) [
              | inl same ↦ subst (λ (k : ℕ). h.top k ≤ length (h.log k)) (sym same) (new.reach (subst (λ (k : ℕ). h.won k ≡ true) same w))
              | inr apart ↦ omega (arith, move.top_other e apart, ap length (move.log_other e apart), inv.reach e (won_before e apart w))
            ];
        carried = λ e q w positive first below.
            elim (cases_eq e t) [
              | inl same ↦
                  elim (new.carried (subst (λ (k : ℕ). h.won k ≡ true) same w) q (subst (λ (k : ℕ). h.m0 k ≤ q) same first) (subst (λ (k : ℕ). q < h.top k) same below)) [
                    | inl old ↦
                        let was = subst (λ (k : ℕ). g.won k ≡ true) (sym same) old.0 in
                        let under : q < g.top e = subst (λ (k : ℕ). q < g.top k) (sym same) old.1 in
                        carried_grows move.grow was (omega (arith, inv.reach e was)) (inv.carried e q was positive (omega (arith, move.grow.m0 e was)) under)
                    | inr fresh ↦ subst (λ (k : ℕ). Carried commits h k q) (sym same) fresh
                  ]
              | inr apart ↦
                  let was = won_before e apart w in
                  let under : q < g.top e = omega (arith, move.top_other e apart) in
                  carried_grows move.grow was (omega (arith, inv.reach e was)) (inv.carried e q was positive (omega (arith, move.grow.m0 e was)) under)
            ];
        entries = λ e w.
            elim (cases_eq e t) [
              | inl same ↦ subst (λ (k : ℕ). Entries event now' k (h.log k)) (sym same) (new.entries (subst (λ (k : ℕ). h.won k ≡ true) same w))
              | inr apart ↦ subst (Entries event now' e) (sym (move.log_other e apart)) (entries_later now' time (inv.entries e (won_before e apart w)))
            ];
        events = λ k v past is. elim (new.events k v past is) [ inl old ↦ entered_grows move.grow (inv.events k v old is) | inr fresh ↦ fresh ];
        unique = new.unique;
      }
