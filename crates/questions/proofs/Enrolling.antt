-- Members written one after another, ascending. Assumes nothing.
use Rattle.std.proofs.Common.{◌≡◌, ℕ, zero, suc, ◌+◌, ◌^◌, ◌<◌, ◌≤◌, Bool, true, false, List, [], ◌∷◌, ◌++◌, length, get_or, sym, refl, ap, ◌∙◌, inl, inr, add-zero, add-suc, arith}
use Rattle.std.proofs.lemmas.List.{length_push, get_or_append_left, get_or-append-add}
use Rattle.std.proofs.lemmas.Bool.{cases_lt, both_ways}
use Rattle.quorum.specs.MajorityRule.{size_of}
use Rattle.quorum.specs.Sets.{has, weigh, count}
use Rattle.quorum.specs.Masks.{has_below}
use Rattle.quorum.specs.Weighing.{weigh_more}
use Rattle.questions.specs.Questions.{Roster}

-- more are counted further up
pub count_up : (p : ℕ → Bool) (n d : ℕ) → count n p ≤ count (n + d) p
unfolding weigh
count_up p n zero = omega (arith, ap (λ k. count k p) (add-zero n))
count_up p n (suc d) = omega (arith, count_up p n d, ap (λ k. count k p) (add-suc n d))

-- a member is counted
pub count_member : (m n : ℕ) → has m n ≡ true → count n (has m) + 1 ≡ count (n + 1) (has m)
count_member m n there = weigh_more (λ _. 1) n (has m) (count n (has m)) 1 true refl refl (sym there)

-- another cabinet is not
pub count_other : (m n : ℕ) → has m n ≡ false → count n (has m) ≡ count (n + 1) (has m)
count_other m n none = omega (arith, weigh_more (λ _. 1) n (has m) (count n (has m)) 0 false refl refl (sym none))

-- exactly the members below n, ascending
pub record Ascending (m n : ℕ) (xs : List ℕ) : Type 0 where
  pub each : (i : ℕ) → i < n → has m i ≡ true → (k : ℕ) × (k < length xs) × (get_or xs k 0 ≡ i)
  pub rising : (j k : ℕ) → j < k → k < length xs → get_or xs j 0 < get_or xs k 0
  pub only : (k : ℕ) → k < length xs → (get_or xs k 0 < n) × (has m (get_or xs k 0) ≡ true)

-- below 0 there are none
pub ascending_none : (m : ℕ) → Ascending m 0 []
ascending_none m = record { each = λ i h t. absurd (omega arith); rising = λ j k h l. absurd (omega arith); only = λ k h. absurd (omega arith) }

-- a member comes at the end
pub ascending_member : (m n : ℕ) (xs : List ℕ) → Ascending m n xs → has m n ≡ true → Ascending m (n + 1) (xs ++ n ∷ [])
ascending_member m n xs so_far there =
    let long = length_push xs n in
    let old : (k : ℕ) → k < length xs → get_or (xs ++ n ∷ []) k 0 ≡ get_or xs k 0 = λ k h. get_or_append_left xs (n ∷ []) 0 k h in
    let new : (k : ℕ) → k ≡ length xs → get_or (xs ++ n ∷ []) k 0 ≡ n
    = λ k e. ap (λ j. get_or (xs ++ n ∷ []) j 0) (let at : k ≡ length xs + 0 = omega arith in at) ∙ get_or-append-add xs (n ∷ []) 0 0 in
    record {
      each = λ i h t. elim (cases_lt i n) [
        | inl low ↦ (let k = so_far.each i low t in (k.0, omega (arith, long, k.1), old k.0 k.1 ∙ k.2))
        | inr high ↦ (length xs, omega (arith, long), new (length xs) refl ∙ omega arith)
      ];
      rising = λ j k h l. elim (cases_lt k (length xs)) [
        | inl low ↦ omega (arith, old j (omega arith), old k low, so_far.rising j k h low)
        | inr high ↦ omega (arith, old j (omega (arith, long)), new k (omega (arith, long)), (so_far.only j (omega (arith, long))).0)
      ];
      only = λ k l. elim (cases_lt k (length xs)) [
        | inl low ↦ (omega (arith, old k low, (so_far.only k low).0), ap (has m) (old k low) ∙ (so_far.only k low).1)
        | inr high ↦ (omega (arith, new k (omega (arith, long))), ap (has m) (new k (omega (arith, long))) ∙ there)
      ];
    }

-- another cabinet changes nothing
pub ascending_other : (m n : ℕ) (xs : List ℕ) → Ascending m n xs → has m n ≡ false → Ascending m (n + 1) xs
ascending_other m n xs so_far none = record {
  each = λ i h t. elim (cases_lt i n) [
    | inl low ↦ so_far.each i low t
    | inr high ↦ absurd (both_ways (has m n) none (ap (has m) (let at : n ≡ i = omega arith in at) ∙ t))
  ];
  rising = so_far.rising;
  only = λ k l. (omega (arith, (so_far.only k l).0), (so_far.only k l).1);
}

-- places that hold the same are the same, where what they hold rises
once : (m n : ℕ) (xs : List ℕ) → Ascending m n xs → (j k : ℕ) → j < length xs → k < length xs → get_or xs j 0 ≡ get_or xs k 0 → j ≡ k
once m n xs done j k hj hk same =
    elim (cases_lt j k) [
      | inl below ↦ absurd (omega (arith, done.rising j k below hk))
      | inr above ↦ elim (cases_lt k j) [ inl less ↦ absurd (omega (arith, done.rising k j less hj)) | inr most ↦ omega arith ]
    ]

-- the members of a 16-bit mask, once all sixteen cabinets are through
pub enrolled : (m : ℕ) (xs : List ℕ) → m < 2 ^ 16 → Ascending m 16 xs → length xs ≡ size_of m → Roster m xs
enrolled m xs small done long = record {
  each = λ i there. done.each i (has_below m i small there) there;
  once = once m 16 xs done;
  only = λ k h. (done.only k h).1;
  sized = long;
}
