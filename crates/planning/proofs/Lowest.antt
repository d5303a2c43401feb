-- What the lowest cabinet that passes a test tells of the others. Assumes nothing.
use Rattle.std.proofs.Common.{◌≡◌, ℕ, zero, suc, ◌+◌, ◌<◌, ◌≤◌, Bool, true, false, cond, Some, None, Option, sym, ap, ◌∙◌, inl, inr, subst, arith}
use Rattle.std.specs.Prelude.{MatchOption, find}
use Rattle.std.specs.List.{range_with_len}
use Rattle.std.proofs.lemmas.Bool.{cases_Bool, cases_eq}
use Rattle.planning.specs.Changes.{lowest}

-- the answer is the lowest cabinet of sixteen that passes, and none where none does
abbrev pub IsLowest : (ℕ → Bool) → Option ℕ → Type 0
IsLowest test o = MatchOption o ((k : ℕ) → k < 16 → test k ≡ false) (λ i. (i < 16) × (test i ≡ true) × ((k : ℕ) → k < i → test k ≡ false))

module _ (test : ℕ → Bool) where
  -- what is found among the n numbers from a on is the first that passes, and nothing is found where none does
  abbrev Found : ℕ → ℕ → Option ℕ → Type 0
  Found a n o =
      MatchOption o ((k : ℕ) → a ≤ k → k < a + n → test k ≡ false) (λ i. (a ≤ i) × (i < a + n) × (test i ≡ true) × ((k : ℕ) → a ≤ k → k < i → test k ≡ false))

  -- one number more at the front, which fails
  later : (a n : ℕ) (o : Option ℕ) → test a ≡ false → Found (a + 1) n o → Found a (suc n) o
  later a n None fails none =
      λ k from below. elim (cases_eq k a) [
        | inl here ↦ ap test here ∙ fails
        | inr other ↦ none k (omega (arith, other)) (omega arith)
      ]
  later a n (Some i) fails found = (
    omega (arith, found.0),
    omega (arith, found.1),
    found.2,
    λ k from below. elim (cases_eq k a) [
      | inl here ↦ ap test here ∙ fails
      | inr other ↦ found.3 k (omega (arith, other)) below
    ],
  )

  found : (a n : ℕ) → Found a n (find test (range_with_len a n))
  found a zero = λ k from below. absurd (omega arith)
  found a (suc n) =
      let rest : Option ℕ = find test (range_with_len (a + 1) n) in
      elim (cases_Bool (test a)) [
        | inl passes ↦ subst (λ b. Found a (suc n) (cond b (Some a) rest)) (sym passes) (omega arith, omega arith, passes, λ k from below. absurd (omega arith))
        | inr fails ↦ subst (λ b. Found a (suc n) (cond b (Some a) rest)) (sym fails) (later a n rest fails (found (a + 1) n))
      ]

  pub lowest_tells : IsLowest test (lowest test)
  lowest_tells = told (lowest test) (found 0 16)
    where
      told : (o : Option ℕ) → Found 0 16 o → IsLowest test o
      told None none = λ k below. none k (omega arith) (omega arith)
      told (Some i) some = (omega (arith, some.1), some.2, λ k below. some.3 k (omega arith) below)
