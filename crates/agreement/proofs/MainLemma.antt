-- A leader holds all that was committed before it. Assumes nothing.
use Rattle.std.proofs.Common.{◌≡◌, ℕ, zero, suc, ◌-◌, ◌<◌, ◌≤◌, Bool, true, false, List, length, get_or, Option, sym, ap, ◌∙◌, subst, inl, inr, arith}
use Rattle.std.proofs.lemmas.Bool.{cases_order, cases_lt, cases_Bool, cases_eq, cond-true, cond-false}
use Rattle.quorum.specs.Rules.{ShareMember}
use Rattle.journal.specs.declared.Entry.{Entry}
use Rattle.journal.specs.Entries.{blank, members_of}
use Rattle.entries.specs.Histories.{is_configuration}
use Rattle.cabinet.specs.declared.Cabinet.{Cabinet}
use Rattle.configurations.specs.Configurations.{configures, members_at, members_before}
use Rattle.agreement.proofs.Prefix.{Agree, agree_sym, agree_trans, agree_down, agree_on, agree_at}
use Rattle.agreement.proofs.Ghost.{Ghost, Cover, Winner, Event, Inv}

-- what follows for n where it holds of all below holds of all
pub strong : (P : ℕ → Type 0) → ((n : ℕ) → ((m : ℕ) → m < n → P m) → P n) → (n : ℕ) → P n
strong P step n = step n (below n)
  where
    below : (n m : ℕ) → m < n → P m
    below zero m h = absurd (let z : ⊥ = omega arith in z)
    below (suc n) m h = step m (λ k l. below n k (omega arith))

-- the last configuration before a position, and its members
pub record Last (l : List Entry) (q : ℕ) : Type 0 where
  pub place : ℕ
  pub before : place < q
  pub configured : configures l place ≡ true
  pub quiet : (k : ℕ) → place < k → k < q → configures l k ≡ false
  pub members : members_before l q ≡ members_at l place

-- a list that opens with a configuration has one before every later position
pub last_of : (l : List Entry) → configures l 0 ≡ true → (q : ℕ) → Last l (suc q)
unfolding members_before
last_of l founded zero = record {
  place = 0;
  before = omega arith;
  configured = founded;
  quiet = λ k a b. absurd (let z : ⊥ = omega arith in z);
  members = cond-true _ _ _ founded;
}
last_of l founded (suc q) =
    let so_far = last_of l founded q in
    elim (cases_Bool (configures l (suc q))) [
      | inl yes-one ↦ record {
        place = suc q;
        before = omega arith;
        configured = yes-one;
        quiet = λ k a b. absurd (let z : ⊥ = omega arith in z);
        members = cond-true _ _ _ yes-one;
      }
      | inr none ↦ record {
        place = so_far.place;
        before = omega (arith, so_far.before);
        configured = so_far.configured;
        quiet = λ k a b. elim (cases_eq k (suc q)) [
          | inl same ↦ ap (configures l) same ∙ none
          | inr other ↦ so_far.quiet k a (let z : k < suc q = omega (arith, other) in z)
        ];
        members = cond-false _ _ _ none ∙ so_far.members;
      }
    ]

module _ {event : ℕ → Option Event} {elects commits : ℕ → ℕ → Bool} {n now : ℕ} {g : Ghost} {cabs : ℕ → Cabinet} {lists : ℕ → List Entry}
    (share : ShareMember elects commits) (inv : Inv event elects commits n now g cabs lists) where
  -- what is to show: the leader of e' won with all that the leader of e committed
  abbrev Passed : ℕ → ℕ → Type 0
  Passed e e' = g.won e ≡ true → g.won e' ≡ true → e < e' → Agree (g.top e) (g.log e) (g.base e')

  -- the leader's list goes on from the one it won with
  grown : (e : ℕ) → g.won e ≡ true → 0 < e → Agree (length (g.base e)) (g.base e) (g.log e)
  grown e w h = (inv.winners e w h).grown

  module _ (e e' : ℕ) (w : g.won e ≡ true) (w' : g.won e' ≡ true) (order : e < e')
      (later : (k : ℕ) → k < e' → (d : ℕ) → Passed d k) (earlier : (d : ℕ) → d < e → Passed d e') where
    abbrev x' : Winner elects g e'
    x' = inv.winners e' w' (omega arith)

    -- the founding entry opens every list
    from_founding : e ≡ 0 → Agree (g.top e) (g.log e) (g.base e')
    from_founding h =
        subst (λ (k : ℕ). Agree (g.top k) (g.log k) (g.base e')) (sym h) (subst (λ (k : ℕ). Agree k (g.log 0) (g.base e')) (sym inv.founded.top_one) x'.opens)

    module _ (positive : 0 < e) where
      abbrev x : Winner elects g e
      x = inv.winners e w positive

      -- what e was won with was committed under an epoch below
      from_first : Agree (g.m0 e) (g.log e) (g.base e')
      from_first =
          let c = x.cover in
          let d = c.source in
          let lower : d < e = omega (arith, c.below, x.earlier) in
          let passed = earlier d lower c.is_won w' (omega arith) in
          let mine = agree_down (g.m0 e) c.agrees.right x.grown in
          agree_trans (agree_sym mine) (agree_on (agree_sym c.agrees) passed c.within)

      -- on what e' was won with as committed, both lists agree as far as it goes
      shared : (k : ℕ) → k ≤ g.top e → k ≤ g.m0 e' → Agree k (g.log e) (g.base e')
      shared k h h' =
          let c = x'.cover in
          let d = c.source in
          let lower : d < e' = omega (arith, c.below, x'.earlier) in
          let upper : Agree k (g.log d) (g.base e') = agree_down k h' c.agrees in
          elim (cases_order e d) [
            | inl same ↦ subst (λ (m : ℕ). Agree k (g.log m) (g.base e')) (sym same) upper
            | inr (inl less) ↦ let a = later d lower e w c.is_won less in agree_trans (agree_down k h (agree_on a (grown d c.is_won (omega arith)) a.right)) upper
            | inr (inr more) ↦ let a = later e order d c.is_won w more in agree_trans (agree_sym (agree_down k (omega (arith, c.within, h')) (agree_on a x.grown a.right))) upper
          ]

      -- one more entry, where the ones before it are in both
      module _ (q : ℕ) (first : g.m0 e ≤ q) (top : q < g.top e) (so_far : Agree q (g.log e) (g.base e')) where
        -- a voter of e' that held the entry in e brought it to e'
        from_voter : (j : ℕ) → g.cast e' j ≡ true → q < g.held e j → Agree (suc q) (g.log e) (g.base e')
        from_voter j voted holds =
            let v = inv.votes e' j voted in
            let a = g.vote_accepted e' j in
            let c = g.cand_accepted e' in
            let accepted : e ≤ a = elim (cases_lt a e) [ inl less ↦ absurd (let z : ⊥ = omega (arith, v.nothing_between e less order, holds) in z) | inr more ↦ more ] in
            elim (cases_lt e c) [
              | inl less ↦ let b = later c x'.earlier e w x'.follows.is_won less in agree_on (agree_down (suc q) top b) x'.follows.from_base (omega (arith, b.right, top))
              | inr equal ↦
                  let same-a : a ≡ e = omega (arith, v.not_later) in
                  let same-c : c ≡ e = omega (arith, v.not_later) in
                  let most : g.held e j ≤ g.vote_length e' j = subst (λ (k : ℕ). g.held k j ≤ g.vote_length e' j) same-a v.no_more in
                  let long : g.vote_length e' j ≤ length (g.base e') = subst (λ (b : List Entry). g.vote_length e' j ≤ length b) x'.chosen (v.not_longer (same-a ∙ sym same-c)) in
                  let whole : Agree (length (g.base e')) (g.base e') (g.log e) = subst (λ (k : ℕ). Agree (length (g.base e')) (g.base e') (g.log k)) same-c x'.follows.in_log in
                  agree_sym (agree_down (suc q) (omega (arith, holds, most, long)) whole)
            ]

        -- the entry's holders and the voters of e' share a cabinet
        one_more : Agree (suc q) (g.log e) (g.base e')
        one_more =
            elim (cases_lt q (g.m0 e')) [
              | inl early ↦ shared (suc q) top early
              | inr late ↦
                  let both = shared (g.m0 e') (omega arith) (omega arith) in
                  let opening : configures (g.log e) 0 ≡ true = sym (ap (λ (y : Entry). is_configuration y.kind) (agree_at (agree_trans x.opens (agree_down 1 x.opens.right x.grown)) 0 (omega arith))) ∙ inv.founded.configured in
                  let k = q - 1 in
                  let at : suc k ≡ q = omega (arith, x.mark_least) in
                  let last = subst (Last (g.log e)) at (last_of (g.log e) opening k) in
                  let p = last.place in
                  let here : get_or (g.log e) p blank ≡ get_or (g.base e') p blank = agree_at so_far p last.before in
                  let c = inv.carried e q w positive first top in
                  let in_play = x'.quorate p (omega (arith, so_far.right, last.before)) (sym (ap (λ (y : Entry). is_configuration y.kind) here) ∙ last.configured)
                  (λ m a b. sym (ap (λ (y : Entry). is_configuration y.kind) (agree_at both m b)) ∙ last.quiet m a (omega arith)) in
                  let elect : elects (members_at (g.log e) p) x'.voters ≡ true = subst (λ (y : Entry). elects (members_of y.body) x'.voters ≡ true) (sym here) in_play in
                  let carry : commits (members_at (g.log e) p) c.set ≡ true = subst (λ (m : ℕ). commits m c.set ≡ true) last.members c.quorate in
                  let j = share (members_at (g.log e) p) x'.voters c.set elect carry in
                  from_voter j.0 (x'.voted j.0 j.2) (c.hold j.0 j.3)
            ]

      -- entry by entry
      climb : (q : ℕ) → q ≤ g.top e → Agree q (g.log e) (g.base e')
      climb zero h = agree_down 0 (omega arith) from_first
      climb (suc q) h =
          let before = climb q (omega arith) in
          elim (cases_lt q (g.m0 e)) [ inl early ↦ agree_down (suc q) early from_first | inr late ↦ one_more q late h before ]

    -- the claim, where it holds of the epochs before
    step : Agree (g.top e) (g.log e) (g.base e')
    step = elim (cases_eq e 0) [ inl none ↦ from_founding none | inr some ↦ climb (let z : 0 < e = omega (arith, some) in z) (g.top e) (omega arith) ]

  -- the leader of a won epoch holds all that was committed under a lower one
  pub holds_committed : (e e' : ℕ) → g.won e ≡ true → g.won e' ≡ true → e < e' → Agree (g.top e) (g.log e) (g.base e')
  holds_committed e e' =
      strong (λ k. (d : ℕ) → Passed d k) (λ k later. strong (λ d. Passed d k) (λ d earlier w w' order. step d k w w' order later earlier)) e' e

  -- the same of the leader's list
  pub log_holds : (e e' : ℕ) → g.won e ≡ true → g.won e' ≡ true → e < e' → Agree (g.top e) (g.log e) (g.log e')
  log_holds e e' w w' h = let a = holds_committed e e' w w' h in agree_on a (grown e' w' (omega arith)) a.right

  -- two covered lists are comparable: the shorter is a beginning of the longer
  pub comparable : {a b m k : ℕ} {l r : List Entry} → Cover g a m l → Cover g b k r → m ≤ k → Agree m l r
  comparable {m = m} {k = k} {l = l} {r = r} c d h =
      elim (cases_order c.source d.source) [
        | inl same ↦ agree_trans (agree_sym c.agrees) (subst (λ (s : ℕ). Agree m (g.log s) r) (sym same) (agree_down m h d.agrees))
        | inr (inl less) ↦ let a = log_holds c.source d.source c.is_won d.is_won less in agree_on (agree_on (agree_sym c.agrees) a c.within) d.agrees h
        | inr (inr more) ↦ let a = log_holds d.source c.source d.is_won c.is_won more in agree_trans (agree_sym c.agrees) (agree_on (agree_sym (agree_down m (omega (arith, h, d.within)) a)) d.agrees h)
      ]
