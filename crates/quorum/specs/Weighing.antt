-- What holds of `weigh`, for every weight, width and test. Assumes nothing.
use Rattle.std.specs.Prelude.{◌≡◌, ℕ, zero, suc, ◌+◌, ◌<◌, ◌≤◌, Bool, true, false, cond, ◌⊎◌, refl}
use Rattle.std.proofs.Common.{sym, ap, ap₂, ◌∙◌, inl, inr, add-one, arith}
use Rattle.quorum.specs.Sets.{weigh}

-- a loop's start
pub weigh_none : (w : ℕ → ℕ) (p : ℕ → Bool) → weigh w 0 p ≡ 0
unfolding weigh
weigh_none w p = refl

-- a loop's step: one more that the test picks or leaves
pub weigh_more : (w : ℕ → ℕ) (n : ℕ) (p : ℕ → Bool) (total x : ℕ) (b : Bool) → total ≡ weigh w n p → x ≡ cond b (w n) 0 → b ≡ p n → total + x ≡ weigh w (n + 1) p
unfolding weigh
weigh_more w n p total x b so_far adds picks =
    ap₂ (λ t y. t + y) so_far (adds ∙ ap (λ y. cond y (w n) 0) picks) ∙ sym (ap (λ k. weigh w k p) (add-one n))

-- tests that answer alike weigh alike
pub weigh_same : (w : ℕ → ℕ) (n : ℕ) (p q : ℕ → Bool) → ((i : ℕ) → p i ≡ q i) → weigh w n p ≡ weigh w n q
unfolding weigh
weigh_same w zero p q same = refl
weigh_same w (suc n) p q same = ap₂ (λ a b. a + cond b (w n) 0) (weigh_same w n p q same) (same n)

-- one that is picked by a test is weighed by any test that picks it too
one_less : (x y : Bool) (v : ℕ) → (x ≡ true → y ≡ true) → cond x v 0 ≤ cond y v 0
one_less false y v sub = omega arith
one_less true true v sub = omega arith
one_less true false v sub = absurd (let z : ◌≡◌ {A = Bool} false true = sub refl in let n : ◌≡◌ {A = ℕ} 0 1 = cc in omega arith)

-- a test that picks more weighs no less
pub weigh_mono : (w : ℕ → ℕ) (n : ℕ) (p q : ℕ → Bool) → ((i : ℕ) → p i ≡ true → q i ≡ true) → weigh w n p ≤ weigh w n q
unfolding weigh
weigh_mono w zero p q sub = omega arith
weigh_mono w (suc n) p q sub = omega (arith, weigh_mono w n p q sub, one_less (p n) (q n) (w n) (sub n))

-- one that two tests pick is picked by both, or it weighs no more than it does under a test that picks for either
one_shared : (x y z : Bool) (v : ℕ) → (x ≡ true → z ≡ true) → (y ≡ true → z ≡ true) → ((x ≡ true) × (y ≡ true)) ⊎ (cond x v 0 + cond y v 0 ≤ cond z v 0)
one_shared true true z v xz yz = inl (refl, refl)
one_shared true false z v xz yz = inr (omega (arith, one_less true z v xz))
one_shared false y z v xz yz = inr (omega (arith, one_less y z v yz))

-- two parts of m that together weigh more than m have one in common
pub weigh_share : (w : ℕ → ℕ) (n : ℕ) (m p q : ℕ → Bool) → ((i : ℕ) → p i ≡ true → m i ≡ true) → ((i : ℕ) → q i ≡ true → m i ≡ true)
    → weigh w n m < weigh w n p + weigh w n q → (i : ℕ) × (p i ≡ true) × (q i ≡ true)
unfolding weigh
weigh_share w zero m p q pm qm more = absurd (omega arith)
weigh_share w (suc n) m p q pm qm more =
    elim (one_shared (p n) (q n) (m n) (w n) (pm n) (qm n)) [
      | inl both ↦ (n, both.0, both.1)
      | inr less ↦ weigh_share w n m p q pm qm (omega arith)
    ]
