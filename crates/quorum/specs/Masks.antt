-- Masks, cabinet by cabinet. Assumes nothing.
use Rattle.std.specs.Prelude.{◌≡◌, ℕ, zero, suc, ◌+◌, ◌*◌, ◌/◌, ◌%◌, ◌^◌, ◌<◌, ◌≤◌, Bool, true, false, cond, ◌&&◌, ◌==◌, nat_eq, refl}
use Rattle.std.proofs.Common.{sym, ap, ◌∙◌, mod-eq_of_lt, lt_of_lt_of_le, arith, one-add, pow_mono, inl, inr}
use Rattle.std.proofs.Math.Nat.{div-eq_of_lt}
use Rattle.std.specs.Int.Bits.{bit_and}
use Rattle.std.specs.Int.Count.{ones}
use Rattle.std.proofs.lemmas.Nat.{and_shr, and_mod, mod_below, mod-pow-add, pow_pos, ones_cat}
use Rattle.std.proofs.lemmas.Bool.{and_parts, and_from, cases_lt, both_ways}
use Rattle.quorum.specs.Sets.{has, weigh, count}

-- one bit of an intersection
bit_and_lem : (x y : ℕ) → x < 2 → y < 2 → (bit_and x y == 1) ≡ (x == 1 && y == 1)
bit_and_lem zero zero h k = refl
bit_and_lem zero (suc zero) h k = refl
bit_and_lem (suc zero) zero h k = refl
bit_and_lem (suc zero) (suc zero) h k = refl
bit_and_lem (suc (suc x)) y h k = absurd (omega arith)
bit_and_lem zero (suc (suc y)) h k = absurd (omega arith)
bit_and_lem (suc zero) (suc (suc y)) h k = absurd (omega arith)

-- a cabinet is in an intersection where it is in both sets
pub has_and : (a b i : ℕ) → has (bit_and a b) i ≡ (has a i && has b i)
has_and a b i =
    ap (λ n. nat_eq (n % 2) 1) (and_shr a b i) ∙ ap (λ n. nat_eq n 1) (and_mod (a / 2 ^ i) (b / 2 ^ i) 1)
    ∙ bit_and_lem (a / 2 ^ i % 2) (b / 2 ^ i % 2) (mod_below (a / 2 ^ i) 2 (omega arith)) (mod_below (b / 2 ^ i) 2 (omega arith))

-- the cabinets of an intersection are in both sets
pub in_and : (a b i : ℕ) → has (bit_and a b) i ≡ true → (has a i ≡ true) × (has b i ≡ true)
in_and a b i h = and_parts (has a i) (has b i) (sym (has_and a b i) ∙ h)

-- what is in both sets is in their intersection
pub to_and : (a b i : ℕ) → has a i ≡ true → has b i ≡ true → has (bit_and a b) i ≡ true
to_and a b i h k = has_and a b i ∙ and_from (has a i) (has b i) h k

-- to intersect twice changes nothing
pub and_again : (a m i : ℕ) → has (bit_and (bit_and a m) m) i ≡ has (bit_and a m) i
and_again a m i =
    has_and (bit_and a m) m i ∙ ap (λ x. x && has m i) (has_and a m i) ∙ twice (has a i) (has m i) ∙ sym (has_and a m i)
  where
    twice : (x y : Bool) → ((x && y) && y) ≡ (x && y)
    twice false y = refl
    twice true true = refl
    twice true false = refl

-- a larger set has a larger intersection
pub and_grows : (a b m : ℕ) → ((i : ℕ) → has a i ≡ true → has b i ≡ true) → (i : ℕ) → has (bit_and a m) i ≡ true → has (bit_and b m) i ≡ true
and_grows a b m sub i h = let both = in_and a m i h in to_and b m i (sub i both.0) both.1

-- one digit counts for its cabinet
ones_bit : (x : ℕ) → x < 2 → ones x ≡ cond (x == 1) 1 0
unfolding ones
ones_bit zero h = refl
ones_bit (suc zero) h = refl
ones_bit (suc (suc x)) h = absurd (omega arith)

-- the set bits among the k lowest, counted cabinet by cabinet
pub ones_count : (m k : ℕ) → ones (m % 2 ^ k) ≡ count k (has m)
unfolding weigh ones
ones_count m zero = let none : m % 1 ≡ 0 = omega arith in ap ones none
ones_count m (suc k) =
    let low = m % 2 ^ k in
    let bit = m / 2 ^ k % 2 in
    let digits : m % 2 ^ suc k ≡ bit * 2 ^ k + low = ap (λ n. m % 2 ^ n) (sym (one-add k)) ∙ mod-pow-add m 1 k in
    let apart = ones_cat k bit low (mod_below m (2 ^ k) (pow_pos k)) in
    ap ones digits ∙ apart ∙ omega (arith, ones_count m k, ones_bit bit (mod_below (m / 2 ^ k) 2 (omega arith)))

-- the set bits of a 16-bit mask are its cabinets
pub ones_size : (m : ℕ) → m < 2 ^ 16 → ones m ≡ count 16 (has m)
ones_size m fits = ap ones (sym (mod-eq_of_lt fits)) ∙ ones_count m 16

-- no cabinet past the sixteenth is in a 16-bit mask
pub has_past : (set i : ℕ) → set < 2 ^ 16 → 16 ≤ i → has set i ≡ false
has_past set i small past =
    let none : set / 2 ^ i ≡ 0 = div-eq_of_lt (lt_of_lt_of_le small (pow_mono past)) in
    ap (λ n. nat_eq (n % 2) 1) none

-- the cabinets of a 16-bit mask are numbered below 16
pub has_below : (set i : ℕ) → set < 2 ^ 16 → has set i ≡ true → i < 16
has_below set i small there =
    elim (cases_lt i 16) [ inl below ↦ below | inr past ↦ absurd (both_ways (has set i) (has_past set i small past) there) ]
