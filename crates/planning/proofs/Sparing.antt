-- What a set is without one of its cabinets, and what that tells of the sets that carry a change. Assumes nothing.
use Rattle.std.proofs.Common.{◌≡◌, ℕ, zero, suc, ◌^◌, ◌<◌, Bool, true, false, cond, not, ◌&&◌, eqb, Some, None, Option, sym, refl, subst, ap, ◌∙◌, inl, inr, arith}
use Rattle.std.specs.Prelude.{is_some}
use lib.Bits.{bit_and}
use Rattle.std.proofs.lemmas.Bool.{false≢true, cases_Bool, cases_eq, both_ways, and_parts, and_from, ne_eqb, eq-eqb, not_from_true, not_from_false}
use Rattle.quorum.specs.Rules.{Grows}
use Rattle.quorum.specs.Sets.{has}
use Rattle.quorum.specs.Masks.{in_and, to_and, has_below}
use Rattle.planning.specs.Changes.{Within, carried, others, spared, lowest, Least}
use Rattle.planning.proofs.Lowest.{IsLowest, lowest_tells}
use Rattle.planning.specs.declared.Change.{Change}

-- a test holds at every number below n
abbrev all_below : ℕ → (ℕ → Bool) → Bool
all_below zero p = true
all_below (suc n) p = all_below n p && p n

-- and so at each of them
all_below_at : (n : ℕ) (p : ℕ → Bool) → all_below n p ≡ true → (i : ℕ) → i < n → p i ≡ true
all_below_at zero p all i h = absurd (omega arith)
all_below_at (suc n) p all i h =
    let parts = and_parts (all_below n p) (p n) all in
    elim (cases_eq i n) [
      | inl same ↦ ap p same ∙ parts.1
      | inr other ↦ all_below_at n p parts.0 i (omega (arith, other))
    ]

-- two answers are the same
abbrev same : Bool → Bool → Bool
same a b = cond a b (not b)

same_true : (a b : Bool) → same a b ≡ true → a ≡ b
same_true true b h = sym h
same_true false true h = h
same_true false false h = refl

-- shown by trying all pairs
others_at : (i k : ℕ) → i < 16 → k < 16 → has (others i) k ≡ not (eqb k i)
others_at i k hi hk =
    let row = all_below_at 16 (λ i. all_below 16 (λ k. same (has (others i) k) (not (eqb k i)))) refl i hi in
    same_true (has (others i) k) (not (eqb k i)) (all_below_at 16 (λ k. same (has (others i) k) (not (eqb k i))) row k hk)

module _ (quorum : ℕ → ℕ → Bool) (grows : Grows quorum) (change : Change) where
  -- a set with cabinets added still carries
  carried_grows : (a b : ℕ) → Within a b → carried quorum change a ≡ true → carried quorum change b ≡ true
  carried_grows a b sub h =
      let parts = and_parts (quorum change.old a) (quorum change.new a) h in
      and_from (quorum change.old b) (quorum change.new b) (grows change.old a b sub parts.0) (grows change.new a b sub parts.1)

  -- a set that carries and can spare no cabinet is a least one
  pub least_from : (set : ℕ) → set < 2 ^ 16 → carried quorum change set ≡ true → ((i : ℕ) → i < 16 → spared quorum change set i ≡ false) → Least quorum change set
  least_from set small carries none = record { carries = carries; needs_all = needed }
    where
      needed : (other : ℕ) → Within other set → carried quorum change other ≡ true → Within set other
      needed other sub carry i there =
          elim (cases_Bool (has other i)) [
            | inl in-other ↦ in-other
            | inr out ↦
                let below = has_below set i small there in
                let rest : Within other (bit_and set (others i))
                = λ k h. to_and set (others i) k (sub k h) (others_at i k below (has_below set k small (sub k h)) ∙ not_from_false (eqb k i) (ne_eqb k i (λ e. both_ways (has other i) out (rw e at h)))) in
                absurd (both_ways (spared quorum change set i) (none i below) (and_from (has set i) (carried quorum change (bit_and set (others i))) there (carried_grows other (bit_and set (others i)) rest carry)))
          ]

  -- a set that can spare a cabinet is none
  pub not_least : (set i : ℕ) → i < 16 → spared quorum change set i ≡ true → Least quorum change set → ⊥
  not_least set i below spare least =
      let parts = and_parts (has set i) (carried quorum change (bit_and set (others i))) spare in
      let back = least.needs_all (bit_and set (others i)) (λ k h. (in_and set (others i) k h).0) parts.1 i parts.0 in
      both_ways (has (others i) i) (others_at i i below below ∙ not_from_true (eqb i i) (eq-eqb i i refl)) (in_and set (others i) i back).1

  -- so a set that carries is a least one just where no cabinet is the lowest that can be spared
  pub least_by : (set : ℕ) → set < 2 ^ 16 → carried quorum change set ≡ true → (o : Option ℕ) → o ≡ lowest (spared quorum change set)
      → (is_some o ≡ false → Least quorum change set) × (Least quorum change set → is_some o ≡ false)
  least_by set small carries o is = by_case o (subst (IsLowest (spared quorum change set)) (sym is) (lowest_tells (spared quorum change set)))
    where
      by_case : (o : Option ℕ) → IsLowest (spared quorum change set) o → (is_some o ≡ false → Least quorum change set) × (Least quorum change set → is_some o ≡ false)
      by_case None none = (λ _. least_from set small carries none, λ _. refl)
      by_case (Some i) found = (λ e. absurd (false≢true (sym e)), λ least. absurd (not_least set i found.0 found.1 least))
