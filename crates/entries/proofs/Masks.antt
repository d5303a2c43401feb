-- What holds of 16-bit masks beside powers of two. Assumes nothing.
use Rattle.std.proofs.Common.{◌≡◌, ℕ, ◌*◌, ◌%◌, ◌^◌, ◌<◌, ◌≤◌, min, ltb, sym, refl, ◌∙◌, inl, inr, arith, pow_mono}
use Rattle.std.proofs.lemmas.Nat.{one_shl}
use Rattle.std.proofs.lemmas.Bool.{cases_lt, lt-ltb}

-- a mask of 16 bits lies below a power of two as it lies below the power cut at 16
pub mask_below : (m c : ℕ) → m < 65536 → ltb m (1 * 2 ^ min c 16 % 4294967296) ≡ ltb m (2 ^ c)
mask_below m c small =
    elim (cases_lt c 16) [
      | inl h ↦ let same : min c 16 ≡ c = omega arith in rw (same, one_shl c 32 (omega arith)) refl
      | inr h ↦
          let cut : min c 16 ≡ 16 = omega arith in
          let above : 2 ^ 16 ≤ 2 ^ c = pow_mono h in
          rw cut (lt-ltb m 65536 small ∙ sym (lt-ltb m (2 ^ c) (omega arith)))
    ]
