-- Weights within groups, and the groups that a set wins. Assumes nothing.
use Rattle.std.specs.Prelude.{◌≡◌, ℕ, ◌*◌, ◌≤◌, Bool, true, ◌&&◌, bit_and, nat_lt}
use Rattle.std.proofs.Common.{ap, arith}
use Rattle.std.proofs.lemmas.Bool.{and_parts, and_from, lt-ltb, ltb-true}
use Rattle.quorum.specs.GroupRule.{share_of, belongs, weight_in, counts, won}
use Rattle.quorum.specs.Sets.{has}
use Rattle.quorum.specs.declared.Groups.{Groups}
use Rattle.quorum.specs.Masks.{in_and, and_again, and_grows}
use Rattle.quorum.specs.Weighing.{weigh_same, weigh_mono, weigh_share}

module _ (rule : Groups) where
  abbrev weights : ℕ → ℕ
  weights i = (share_of rule i).weight

  -- cabinet i is in the set and in group g
  abbrev there : ℕ → ℕ → ℕ → Bool
  there g set i = has set i && belongs rule g i

  -- a larger set has no less weight in a group
  weight_mono : (g a b : ℕ) → ((i : ℕ) → has a i ≡ true → has b i ≡ true) → weight_in rule g a ≤ weight_in rule g b
  weight_mono g a b sub =
      weigh_mono weights 16 (there g a) (there g b) (λ i h. let both = and_parts (has a i) (belongs rule g i) h in and_from (has b i) (belongs rule g i) (sub i both.0) both.1)

  -- cabinets outside the members win no group
  pub won_members : (m a g : ℕ) → won rule m (bit_and a m) g ≡ won rule m a g
  won_members m a g =
      ap (λ n. nat_lt (weight_in rule g m) (2 * n)) (weigh_same weights 16 (there g (bit_and (bit_and a m) m)) (there g (bit_and a m)) (λ i. ap (λ x. x && belongs rule g i) (and_again a m i)))

  -- a larger set wins what a smaller one wins
  pub won_grows : (m a b : ℕ) → ((i : ℕ) → has a i ≡ true → has b i ≡ true) → (g : ℕ) → won rule m a g ≡ true → won rule m b g ≡ true
  won_grows m a b sub g wins =
      let more = ltb-true (weight_in rule g m) (2 * weight_in rule g (bit_and a m)) wins in
      let grown = weight_mono g (bit_and a m) (bit_and b m) (and_grows a b m sub) in
      lt-ltb (weight_in rule g m) (2 * weight_in rule g (bit_and b m)) (omega arith)

  -- a group that is won has weight
  pub won_counts : (m a g : ℕ) → won rule m a g ≡ true → counts rule m g ≡ true
  won_counts m a g wins =
      let more = ltb-true (weight_in rule g m) (2 * weight_in rule g (bit_and a m)) wins in
      let within = weight_mono g (bit_and a m) m (λ i h. (in_and a m i h).1) in
      lt-ltb 0 (weight_in rule g m) (omega arith)

  -- two sets that win one group share a member
  pub won_share : (m a b g : ℕ) → won rule m a g ≡ true → won rule m b g ≡ true → (i : ℕ) × (has m i ≡ true) × (has a i ≡ true) × (has b i ≡ true)
  won_share m a b g by-a by-b =
      let more-a = ltb-true (weight_in rule g m) (2 * weight_in rule g (bit_and a m)) by-a in
      let more-b = ltb-true (weight_in rule g m) (2 * weight_in rule g (bit_and b m)) by-b in
      let part : (c i : ℕ) → there g (bit_and c m) i ≡ true → there g m i ≡ true
      = λ c i h. let both = and_parts (has (bit_and c m) i) (belongs rule g i) h in and_from (has m i) (belongs rule g i) (in_and c m i both.0).1 both.1 in
      let shared = weigh_share weights 16 (there g m) (there g (bit_and a m)) (there g (bit_and b m)) (part a) (part b) (omega arith) in
      let i = shared.0 in
      let of-a = in_and a m i (and_parts (has (bit_and a m) i) (belongs rule g i) shared.1).0 in
      let of-b = in_and b m i (and_parts (has (bit_and b m) i) (belongs rule g i) shared.2).0 in
      (i, of-a.1, of-a.0, of-b.0)
