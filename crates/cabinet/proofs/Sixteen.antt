-- Loops over the sixteen acknowledged lengths. Assumes nothing.
use Rattle.std.proofs.Common.{◌≡◌, ℕ, zero, suc, ◌+◌, ◌*◌, ◌%◌, ◌^◌, ◌<◌, ◌≤◌, Bool, true, false, cond, ◌&&◌, ltb, leb, take, List, [], ◌∷◌, length, get_or, set, sym, refl, ap, ◌∙◌, add-one, arith}
use Rattle.std.proofs.lemmas.Nat.{one_shl}
use mir.Val.{bool_byte}
use Rattle.std.specs.List.{list_all}
use Rattle.std.proofs.lemmas.List.Folds.{list_all_more}
use Rattle.cabinet.specs.Soundness.{none_above}
use Rattle.cabinet.specs.Records.{holders_below}

-- to set a place past the end changes nothing
pub set_past : (l : List ℕ) (i v : ℕ) → length l ≤ i → set l i v ≡ l
set_past [] i v h = refl
set_past (x ∷ xs) zero v h = absurd (omega arith)
set_past (x ∷ xs) (suc i) v h = ap (λ r. x ∷ r) (set_past xs i v (omega arith))

module _ (lengths : List ℕ) (n : ℕ) where
  -- below 0 there are no holders
  pub holders_none : holders_below lengths n 0 ≡ 0
  unfolding holders_below
  holders_none = refl

  -- cabinet i is added where it acknowledged more
  pub holders_more : (i set : ℕ) → set ≡ holders_below lengths n i → set + cond (ltb n (get_or lengths i 0)) (2 ^ i) 0 ≡ holders_below lengths n (i + 1)
  unfolding holders_below
  holders_more i s so_far = ap (λ a. a + cond (ltb n (get_or lengths i 0)) (2 ^ i) 0) so_far ∙ sym (ap (holders_below lengths n) (add-one i))

-- a bit that is shifted to its place where it is picked, and at most that bit
pub picked_bit : (picked : Bool) (i : ℕ) → i < 16 → (bool_byte picked * 2 ^ i % 65536 ≡ cond picked (2 ^ i) 0) × (bool_byte picked * 2 ^ i % 65536 ≤ 2 ^ i)
picked_bit true i small = let bit = one_shl i 16 small in (bit, omega (arith, bit))
picked_bit false i small = (omega arith, omega arith)

-- none of the first n lengths is above where each of them is at most the most
pub above_all : (lengths : List ℕ) (most n : ℕ) → n ≤ length lengths → list_all (λ x. leb x most) (take n lengths) ≡ none_above lengths most n
unfolding none_above
above_all lengths most zero within = refl
above_all lengths most (suc n) within =
    ap (λ k. list_all (λ x. leb x most) (take k lengths)) (sym (add-one n))
    ∙ list_all_more (λ x. leb x most) lengths n 0 (omega arith)
    ∙ ap (λ b. b && leb (get_or lengths n 0) most) (above_all lengths most n (omega arith))
