-- What holds of reading a code, whatever the kind. Assumes nothing.
use Rattle.std.specs.Prelude.{◌≡◌, ℕ, ◌^◌, Bool, true, Some, None, Option}
use Rattle.std.proofs.Common.{ap, sym, ◌∙◌, inl, inr, arith}
use Rattle.std.proofs.Math.Nat.{div-div-eq-div-mul}
use Rattle.std.proofs.lemmas.Bool.{cases_Bool, cond-true, cond-false}
use Rattle.orders.specs.Codes.{joined, low_of, middle_of, high_of}
use Rattle.orders.specs.Kinds.{if_proper, ReadsBack, CodesDiffer}

-- a number is its three fields, joined again
pub joined_again : (n : ℕ) → joined (low_of n) (middle_of n) (high_of n) ≡ n
joined_again n = omega (arith, div-div-eq-div-mul n (2 ^ 32) (2 ^ 8))

-- the order that is given out is the one asked for, and it is proper
pub if_proper_some : {A : Type 0} (proper : A → Bool) (x y : A) → if_proper proper x ≡ Some y → (proper y ≡ true) × (x ≡ y)
if_proper_some proper x y given =
    elim (cases_Bool (proper x)) [
      | inl p ↦ let same : x ≡ y = (let e = cond-true (proper x) (Some x) None p in cc) in (rw same at p, same)
      | inr p ↦ absurd (let z : ◌≡◌ {A = ℕ} 0 1 = (let e = cond-false (proper x) (Some x) None p in cc) in omega arith)
    ]

-- no two proper orders share a code: it reads back as both
pub codes_differ : {A : Type 0} (proper : A → Bool) (code : A → ℕ) (order : ℕ → Option A) → ReadsBack proper code order → CodesDiffer proper code
codes_differ proper code order back x y px py same =
    let both : Some x ≡ Some y = sym (back x px) ∙ ap order same ∙ back y py in
    cc
