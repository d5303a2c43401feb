-- What one cabinet more adds to the weights of a set in the four groups. Assumes nothing.
use Rattle.std.proofs.Common.{◌≡◌, ℕ, ◌+◌, ◌*◌, ◌≤◌, Bool, true, false, cond, ◌&&◌, eqb, List, [], ◌∷◌, get_or, set, sym, refl, ap, ap₂, ◌∙◌, add-zero, arith}
use Rattle.quorum.specs.GroupRule.{group_number, share_of, belongs}
use Rattle.quorum.specs.Sets.{has, weigh}
use Rattle.quorum.specs.Weighing.{weigh_more}
use Rattle.quorum.specs.Passing.{weights_in}
use Rattle.quorum.specs.declared.Group.{Group}
use Rattle.quorum.specs.declared.Group.TheVariants.{Zero, One, Two, Three}
use Rattle.quorum.specs.declared.Groups.{Groups}

-- what is picked twice is what is picked
picks : (h b : Bool) (x v : ℕ) → x ≡ cond h v 0 → b ≡ true → x ≡ cond (h && b) v 0
picks true b x v e t = e ∙ sym (ap (λ k. cond k v 0) t)
picks false b x v e t = e

-- what is left once is left
leaves : (h b : Bool) (v : ℕ) → b ≡ false → 0 ≡ cond (h && b) v 0
leaves true b v f = sym (ap (λ k. cond k v 0) f)
leaves false b v f = refl

-- and what is picked twice is no more
less : (h b : Bool) (v : ℕ) → cond (h && b) v 0 ≤ cond h v 0
less true true v = omega arith
less true false v = omega arith
less false b v = omega arith

module _ (rule : Groups) (members i : ℕ) where
  abbrev weight : ℕ
  weight = (share_of rule i).weight

  -- the weight in group g of those below n
  abbrev below : ℕ → ℕ → ℕ
  below g n = weigh (λ i. (share_of rule i).weight) n (λ i. has members i && belongs rule g i)

  more : (g x : ℕ) → x ≡ cond (has members i && belongs rule g i) weight 0 → below g i + x ≡ below g (i + 1)
  more g x adds =
      weigh_more (λ i. (share_of rule i).weight) i (λ i. has members i && belongs rule g i) (below g i) x (has members i && belongs rule g i) refl adds refl

  -- a cabinet adds its weight to its own group
  own : (g x : ℕ) → x ≡ cond (has members i) weight 0 → belongs rule g i ≡ true → below g i + x ≡ below g (i + 1)
  own g x adds there = more g x (picks (has members i) (belongs rule g i) x weight adds there)

  -- and nothing to another
  other : (g : ℕ) → belongs rule g i ≡ false → below g i ≡ below g (i + 1)
  other g elsewhere =
      sym (add-zero (below g i)) ∙ more g 0 (leaves (has members i) (belongs rule g i) weight elsewhere)

  all_four : (a b c d a' b' c' d' : ℕ) → a ≡ a' → b ≡ b' → c ≡ c' → d ≡ d' → ◌≡◌ {A = List ℕ} (a ∷ b ∷ c ∷ d ∷ []) (a' ∷ b' ∷ c' ∷ d' ∷ [])
  all_four a b c d a' b' c' d' p q r s =
      ap₂ (λ x xs. x ∷ xs) p (ap₂ (λ x xs. x ∷ xs) q (ap₂ (λ x xs. x ∷ xs) r (ap (λ x. x ∷ []) s)))

  -- the weight of a group, where it lies in the list
  pub here : (g : Group) → get_or (weights_in rule members i) (group_number g) 0 ≡ below (group_number g) i
  here Zero = refl
  here One = refl
  here Two = refl
  here Three = refl

  pub one_more : (g : Group) (x : ℕ) → (share_of rule i).group ≡ g → x ≡ cond (has members i) weight 0
      → set (weights_in rule members i) (group_number g) (get_or (weights_in rule members i) (group_number g) 0 + x) ≡ weights_in rule members (i + 1)
  one_more Zero x is adds =
      let b : (k : ℕ) → belongs rule k i ≡ eqb 0 k = λ k. ap (λ g. eqb (group_number g) k) is in
      all_four _ _ _ _ _ _ _ _ (own 0 x adds (b 0)) (other 1 (b 1)) (other 2 (b 2)) (other 3 (b 3))
  one_more One x is adds =
      let b : (k : ℕ) → belongs rule k i ≡ eqb 1 k = λ k. ap (λ g. eqb (group_number g) k) is in
      all_four _ _ _ _ _ _ _ _ (other 0 (b 0)) (own 1 x adds (b 1)) (other 2 (b 2)) (other 3 (b 3))
  one_more Two x is adds =
      let b : (k : ℕ) → belongs rule k i ≡ eqb 2 k = λ k. ap (λ g. eqb (group_number g) k) is in
      all_four _ _ _ _ _ _ _ _ (other 0 (b 0)) (other 1 (b 1)) (own 2 x adds (b 2)) (other 3 (b 3))
  one_more Three x is adds =
      let b : (k : ℕ) → belongs rule k i ≡ eqb 3 k = λ k. ap (λ g. eqb (group_number g) k) is in
      all_four _ _ _ _ _ _ _ _ (other 0 (b 0)) (other 1 (b 1)) (other 2 (b 2)) (own 3 x adds (b 3))

  -- a cabinet adds at most 255 to each group
  pub small_more : (g x : ℕ) → x ≡ cond (has members i) weight 0 → x ≤ 255 → below g i ≤ 255 * i → below g (i + 1) ≤ 255 * (i + 1)
  small_more g x adds small is =
      omega (arith, adds, small, is, more g (cond (has members i && belongs rule g i) weight 0) refl, less (has members i) (belongs rule g i) weight)
