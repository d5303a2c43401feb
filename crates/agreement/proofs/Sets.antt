-- Who is in the sets and lengths that the steps build, and what elects and commits. Assumes nothing.
use Rattle.std.proofs.Common.{◌≡◌, ℕ, zero, suc, ◌+◌, ◌-◌, ◌*◌, ◌/◌, ◌%◌, ◌^◌, ◌<◌, ◌≤◌, Bool, true, false, cond, not, ◌||◌, eqb, ltb, ◌⊎◌, List, length, get_or, set, replicate, sym, refl, ap, ◌∙◌, subst, inl, inr, arith}
use native.Mathlib.Nat.{div-eq_of_lt, zero-div, mul-div_left, mul-mod_right}
use lib.Bits.{bit_or}
use Rattle.std.proofs.lemmas.Nat.{or_shr, or_mod, or_shifted, mod_below, pow_pos, pow_below, pow-add}
use Rattle.std.proofs.lemmas.List.{get_or-set_same, get_or-set_other, set_past, get_or-replicate, get_or_past}
use Rattle.std.proofs.lemmas.Bool.{or_cases, and_parts, cases_order, cases_lt, cases_eq, cases_Bool, cond-true, cond-false, both_ways, ltb-true, false≢true}
use Rattle.quorum.specs.Sets.{has}
use Rattle.journal.specs.declared.Entry.{Entry}
use Rattle.cabinet.specs.Records.{only, holders_below, none_acknowledged}
use Rattle.configurations.specs.Configurations.{configures, members_at, members_before, last_before, each_from, elects, commits}
use Rattle.committing.specs.Committing.{risen}

-- one bit of a union
bit_or_lem : (x y : ℕ) → x < 2 → y < 2 → eqb (bit_or x y) 1 ≡ (eqb x 1 || eqb y 1)
bit_or_lem zero zero h k = refl
bit_or_lem zero (suc zero) h k = refl
bit_or_lem (suc zero) zero h k = refl
bit_or_lem (suc zero) (suc zero) h k = refl
bit_or_lem (suc (suc x)) y h k = absurd (omega arith)
bit_or_lem zero (suc (suc y)) h k = absurd (omega arith)
bit_or_lem (suc zero) (suc (suc y)) h k = absurd (omega arith)

-- who is in a union is in one of the sets
pub has_or : (a b i : ℕ) → has (bit_or a b) i ≡ true → (has a i ≡ true) ⊎ (has b i ≡ true)
has_or a b i h =
    or_cases (has a i) (has b i)
    (sym (ap (λ n. eqb (n % 2) 1) (or_shr a b i) ∙ ap (λ n. eqb n 1) (or_mod (a / 2 ^ i) (b / 2 ^ i) 1) ∙ bit_or_lem (a / 2 ^ i % 2) (b / 2 ^ i % 2) (mod_below (a / 2 ^ i) 2 (omega arith)) (mod_below (b / 2 ^ i) 2 (omega arith))) ∙ h)

-- nobody is in the empty set
has_none : (i : ℕ) → has 0 i ≡ false
has_none i = ap (λ n. eqb (n % 2) 1) (zero-div (2 ^ i))

-- one bit is one cabinet
has_power : (j k : ℕ) → has (2 ^ j) k ≡ true → k ≡ j
has_power j k h =
    elim (cases_order k j) [
      | inl same ↦ same
      | inr (inl less) ↦
          let d = j - suc k in
          let split : 2 ^ j ≡ 2 * 2 ^ d * 2 ^ k = ap (λ n. 2 ^ n) (let z : j ≡ suc d + k = omega arith in z) ∙ pow-add 2 (suc d) k ∙ ap (λ n. n * 2 ^ k) (let z : 2 ^ suc d ≡ 2 * 2 ^ d = omega arith in z) in
          let even : 2 ^ j / 2 ^ k ≡ 2 * 2 ^ d = ap (λ n. n / 2 ^ k) split ∙ mul-div_left (2 * 2 ^ d) (pow_pos k) in
          absurd (both_ways (has (2 ^ j) k) (ap (λ n. eqb (n % 2) 1) even ∙ ap (λ n. eqb n 1) (mul-mod_right 2 (2 ^ d))) h)
      | inr (inr more) ↦ absurd (both_ways (has (2 ^ j) k) (ap (λ n. eqb (n % 2) 1) (div-eq_of_lt (pow_below j k more))) h)
    ]

-- the set of one cabinet has that one
pub has_only : (j k : ℕ) → has (only j) k ≡ true → k ≡ j
has_only j k h =
    elim (cases_Bool (ltb j 16)) [
      | inl small ↦ has_power j k (subst (λ (n : ℕ). has n k ≡ true) (cond-true _ _ _ small) h)
      | inr large ↦ absurd (both_ways (has 0 k) (has_none k) (subst (λ (n : ℕ). has n k ≡ true) (cond-false _ _ _ large) h))
    ]

-- a set of n cabinets is below 2 to the power n
holders_small : (lengths : List ℕ) (q n : ℕ) → holders_below lengths q n < 2 ^ n
unfolding holders_below
holders_small lengths q zero = omega arith
holders_small lengths q (suc n) =
    let before = holders_small lengths q n in
    let most : cond (ltb q (get_or lengths n 0)) (2 ^ n) 0 ≤ 2 ^ n = one_most (ltb q (get_or lengths n 0)) in
    omega arith
  where
    one_most : (b : Bool) → cond b (2 ^ n) 0 ≤ 2 ^ n
    one_most true = omega arith
    one_most false = omega arith

-- who is among those that acknowledged more than q entries did so
pub holders_hold : (lengths : List ℕ) (q n j : ℕ) → has (holders_below lengths q n) j ≡ true → (j < n) × (q < get_or lengths j 0)
unfolding holders_below
holders_hold lengths q zero j h = absurd (both_ways (has 0 j) (has_none j) h)
holders_hold lengths q (suc n) j h =
    elim (cases_Bool (ltb q (get_or lengths n 0))) [
      | inl more ↦
          let rest = holders_below lengths q n in
          let union : bit_or (1 * 2 ^ n) rest ≡ rest + 2 ^ n = or_shifted 1 n rest (holders_small lengths q n) ∙ omega arith in
          let one : 1 * 2 ^ n ≡ 2 ^ n = omega arith in
          elim (has_or (1 * 2 ^ n) rest j (subst (λ (s : ℕ). has s j ≡ true) (ap (λ x. rest + x) (cond-true _ _ _ more) ∙ sym union) h)) [
            | inl last ↦ let same = has_power n j (subst (λ (s : ℕ). has s j ≡ true) one last) in (omega arith, subst (λ (k : ℕ). q < get_or lengths k 0) (sym same) (ltb-true q (get_or lengths n 0) more))
            | inr before ↦ let so_far = holders_hold lengths q n j before in (omega (arith, so_far.0), so_far.1)
          ]
      | inr less ↦
          let rest = holders_below lengths q n in
          let so_far = holders_hold lengths q n j (subst (λ (s : ℕ). has s j ≡ true) (ap (λ x. rest + x) (cond-false _ _ _ less) ∙ omega arith) h) in
          (omega (arith, so_far.0), so_far.1)
    ]

-- a length set at one place is read there, and the others are as they were
pub set_cases : (lengths : List ℕ) (j v k : ℕ) → ((k ≡ j) × (get_or (set lengths j v) k 0 ≡ v)) ⊎ (get_or (set lengths j v) k 0 ≡ get_or lengths k 0)
set_cases lengths j v k =
    elim (cases_eq k j) [
      | inl same ↦
          elim (cases_lt j (length lengths)) [
            | inl there ↦ inl (same, ap (λ x. get_or (set lengths j v) x 0) same ∙ get_or-set_same lengths j v 0 there)
            | inr past ↦ inr (ap (λ (l : List ℕ). get_or l k 0) (set_past lengths j v past))
          ]
      | inr apart ↦ inr (get_or-set_other lengths j k v 0 apart)
    ]

-- where nothing was acknowledged every length is 0
pub none_known : (k : ℕ) → get_or none_acknowledged k 0 ≡ 0
none_known k =
    elim (cases_lt k 16) [ inl small ↦ get_or-replicate 16 k 0 0 small | inr large ↦ get_or_past (replicate 16 0) k 0 large ]

-- the last configuration of a front is at 0, or stands there before its end
last_there : (l : List Entry) (m : ℕ) → (last_before l m ≡ 0) ⊎ ((last_before l m < m) × (configures l (last_before l m) ≡ true))
unfolding last_before
last_there l zero = inl refl
last_there l (suc m) =
    elim (cases_Bool (configures l m)) [
      | inl here ↦ let at : last_before l (suc m) ≡ m = cond-true _ _ _ here in inr (omega arith, ap (configures l) at ∙ here)
      | inr none ↦
          let at : last_before l (suc m) ≡ last_before l m = cond-false _ _ _ none in
          elim (last_there l m) [ inl zero_one ↦ inl (at ∙ zero_one) | inr there ↦ inr (omega (arith, there.0), ap (configures l) at ∙ there.1) ]
    ]

-- a test of each configuration holds of any one among them
each_one : (test : ℕ → Bool) (l : List Entry) (from n k : ℕ) → each_from test l from n ≡ true → k < n → configures l (from + k) ≡ true
    → test (members_at l (from + k)) ≡ true
unfolding each_from
each_one test l from zero k h less here = absurd (omega arith)
each_one test l from (suc n) k h less here =
    let both = and_parts (each_from test l from n) (not (configures l (from + n)) || test (members_at l (from + n))) h in
    elim (cases_eq k n) [
      | inl same ↦ passed (configures l (from + k)) (test (members_at l (from + k))) here (subst (λ (x : ℕ). (not (configures l (from + x)) || test (members_at l (from + x))) ≡ true) (sym same) both.1)
      | inr apart ↦ each_one test l from n k both.0 (let z : k < n = omega (arith, apart) in z) here
    ]
  where
    passed : (x y : Bool) → x ≡ true → (not x || y) ≡ true → y ≡ true
    passed true y a b = b
    passed false y a b = absurd (false≢true a)

-- an elected set is a quorum of any configuration with none between it and the mark
pub elected_quorate : (quorum : ℕ → ℕ → Bool) (l : List Entry) (mark set p : ℕ) → elects quorum l mark set ≡ true → p < length l → configures l p ≡ true
    → ((k : ℕ) → p < k → k < mark → configures l k ≡ false) → quorum (members_at l p) set ≡ true
elected_quorate quorum l mark set p h there here quiet =
    let from = last_before l mark in
    let not-past : from ≤ p = elim (last_there l mark) [
      | inl first ↦ let z : from ≤ p = omega arith in z
      | inr last ↦ elim (cases_lt p from) [ inl less ↦ absurd (both_ways (configures l from) (quiet from less last.0) last.1) | inr more ↦ more ]
    ] in
    let at : from + (p - from) ≡ p = omega arith in
    subst (λ (x : ℕ). quorum (members_at l x) set ≡ true) at
    (each_one (λ members. quorum members set) l from (length l - from) (p - from) h (omega arith) (subst (λ (x : ℕ). configures l x ≡ true) (sym at) here))

-- how a mark rises: not past the entries left, and each entry that it passes is committed
pub record Risen (quorum : ℕ → ℕ → Bool) (l : List Entry) (lengths : List ℕ) (n mark : ℕ) : Type 0 where
  pub least : mark ≤ risen quorum l lengths n mark
  pub most : risen quorum l lengths n mark ≤ mark + n
  pub carried : (q : ℕ) → mark ≤ q → q < risen quorum l lengths n mark → quorum (members_before l q) (holders_below lengths q 16) ≡ true

-- every mark rises so
pub rises : (quorum : ℕ → ℕ → Bool) (l : List Entry) (lengths : List ℕ) (n mark : ℕ) → Risen quorum l lengths n mark
unfolding risen
rises quorum l lengths zero mark = record { least = omega arith; most = omega arith; carried = λ q a b. absurd (let z : ⊥ = omega arith in z) }
rises quorum l lengths (suc n) mark =
    elim (cases_Bool (commits quorum l (holders_below lengths mark 16) mark)) [
      | inl here ↦
          let at : risen quorum l lengths (suc n) mark ≡ risen quorum l lengths n (mark + 1) = cond-true _ _ _ here in
          let rest = rises quorum l lengths n (mark + 1) in
          record {
            least = omega (arith, rest.least);
            most = omega (arith, rest.most);
            carried = λ q a b. elim (cases_eq q mark) [
              | inl same ↦ subst (λ (k : ℕ). quorum (members_before l k) (holders_below lengths k 16) ≡ true) (sym same) (and_parts (quorum (members_before l mark) (holders_below lengths mark 16)) _ here).0
              | inr apart ↦ rest.carried q (let z : mark + 1 ≤ q = omega (arith, apart) in z) (let z : q < risen quorum l lengths n (mark + 1) = omega arith in z)
            ];
          }
      | inr none ↦
          let at : risen quorum l lengths (suc n) mark ≡ mark = cond-false _ _ _ none in
          record { least = omega arith; most = omega arith; carried = λ q a b. absurd (let z : ⊥ = omega arith in z) }
    ]
