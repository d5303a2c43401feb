-- Numbers and their bytes, there and back. Assumes nothing.
use Rattle.std.proofs.Common.{◌≡◌, ℕ, ◌+◌, ◌*◌, ◌/◌, ◌%◌, ◌<◌, List, [], ◌∷◌, ap, ◌∙◌, mod-eq_of_lt, arith}
use native.Mathlib.Nat.{div-div-eq-div-mul}
use Rattle.std.proofs.lemmas.Nat.{div-mul-add}
use Rattle.entries.specs.Bytes.{u16_bytes, u32_bytes, u64_bytes}

-- two bytes give back their number
pub u16_back : (n : ℕ) → n < 65536 → n % 256 + n / 256 % 256 * 256 ≡ n
u16_back n h = omega arith

-- and four bytes
pub u32_back : (n : ℕ) → n < 4294967296 → n % 256 + n / 256 % 256 * 256 + n / 65536 % 256 * 65536 + n / 16777216 % 256 * 16777216 ≡ n
u32_back n h =
    let top : n / 16777216 % 256 ≡ n / 16777216 = mod-eq_of_lt (omega arith) in
    omega (arith, div-div-eq-div-mul n 256 256, div-div-eq-div-mul n 65536 256)

-- and eight
pub u64_back : (n : ℕ) → n < 18446744073709551616 → n % 256 + n / 256 % 256 * 256 + n / 65536 % 256 * 65536 + n / 16777216 % 256 * 16777216 + (n / 4294967296 % 256 + n / 1099511627776 % 256 * 256 + n / 281474976710656 % 256 * 65536 + n / 72057594037927936 % 256 * 16777216) * 4294967296 ≡ n
u64_back n h =
    let top : n / 72057594037927936 % 256 ≡ n / 72057594037927936 = mod-eq_of_lt (omega arith) in
    omega (arith, div-div-eq-div-mul n 256 256, div-div-eq-div-mul n 65536 256, div-div-eq-div-mul n 16777216 256, div-div-eq-div-mul n 4294967296 256, div-div-eq-div-mul n 1099511627776 256, div-div-eq-div-mul n 281474976710656 256)

-- a list of two that are equal, place by place
same_2 : (a b a' b' : ℕ) → a ≡ a' → b ≡ b' → ◌≡◌ {A = List ℕ} (a ∷ b ∷ []) (a' ∷ b' ∷ [])
same_2 a b a' b' p q = cc

-- a list of four
same_4 : (a b c d a' b' c' d' : ℕ) → a ≡ a' → b ≡ b' → c ≡ c' → d ≡ d' → ◌≡◌ {A = List ℕ} (a ∷ b ∷ c ∷ d ∷ []) (a' ∷ b' ∷ c' ∷ d' ∷ [])
same_4 a b c d a' b' c' d' p q r s = cc

-- a list of eight
same_8 : (a b c d e f g h a' b' c' d' e' f' g' h' : ℕ) → a ≡ a' → b ≡ b' → c ≡ c' → d ≡ d' → e ≡ e' → f ≡ f' → g ≡ g' → h ≡ h' → ◌≡◌ {A = List ℕ} (a ∷ b ∷ c ∷ d ∷ e ∷ f ∷ g ∷ h ∷ []) (a' ∷ b' ∷ c' ∷ d' ∷ e' ∷ f' ∷ g' ∷ h' ∷ [])
same_8 a b c d e f g h a' b' c' d' e' f' g' h' p q r s t u v w = cc

-- the bytes of a number made of two bytes
pub u16_again : (a b : ℕ) → a < 256 → b < 256 → u16_bytes (a + b * 256) ≡ a ∷ b ∷ []
u16_again a b p q = same_2 _ _ _ _ (omega arith) (omega arith)

-- of four
pub u32_again : (a b c d : ℕ) → a < 256 → b < 256 → c < 256 → d < 256 → u32_bytes (a + b * 256 + c * 65536 + d * 16777216) ≡ a ∷ b ∷ c ∷ d ∷ []
u32_again a b c d p q r s = same_4 _ _ _ _ _ _ _ _ (omega arith) (omega arith) (omega arith) (omega arith)

-- the byte b of a number, above r and below the rest
byte_of : (n r b q k : ℕ) → n ≡ (b + q * 256) * k + r → r < k → b < 256 → n / k % 256 ≡ b
byte_of n r b q k is low small =
    ap (λ x. x / k % 256) is ∙ ap (λ x. x % 256) (div-mul-add (b + q * 256) k r low) ∙ (let m : (b + q * 256) % 256 ≡ b = omega arith in m)

-- of eight: the low four and the high four
pub u64_again : (a b c d e f g h : ℕ) → a < 256 → b < 256 → c < 256 → d < 256 → e < 256 → f < 256 → g < 256 → h < 256 → u64_bytes (a + b * 256 + c * 65536 + d * 16777216 + (e + f * 256 + g * 65536 + h * 16777216) * 4294967296) ≡ a ∷ b ∷ c ∷ d ∷ e ∷ f ∷ g ∷ h ∷ []
u64_again a b c d e f g h la lb lc ld le lf lg lh =
    let n : ℕ = a + b * 256 + c * 65536 + d * 16777216 + (e + f * 256 + g * 65536 + h * 16777216) * 4294967296 in
    let p0 : n % 256 ≡ a = omega arith in
    let p1 = byte_of n a b (c + d * 256 + e * 65536 + f * 16777216 + g * 4294967296 + h * 1099511627776) 256 (omega arith) la lb in
    let p2 = byte_of n (a + b * 256) c (d + e * 256 + f * 65536 + g * 16777216 + h * 4294967296) 65536 (omega arith) (omega arith) lc in
    let p3 = byte_of n (a + b * 256 + c * 65536) d (e + f * 256 + g * 65536 + h * 16777216) 16777216 (omega arith) (omega arith) ld in
    let p4 = byte_of n (a + b * 256 + c * 65536 + d * 16777216) e (f + g * 256 + h * 65536) 4294967296 (omega arith) (omega arith) le in
    let p5 = byte_of n (a + b * 256 + c * 65536 + d * 16777216 + e * 4294967296) f (g + h * 256) 1099511627776 (omega arith) (omega arith) lf in
    let p6 = byte_of n (a + b * 256 + c * 65536 + d * 16777216 + e * 4294967296 + f * 1099511627776) g h 281474976710656 (omega arith) (omega arith) lg in
    let p7 = byte_of n (a + b * 256 + c * 65536 + d * 16777216 + e * 4294967296 + f * 1099511627776 + g * 281474976710656) h 0 72057594037927936 (omega arith) (omega arith) lh in
    same_8 _ _ _ _ _ _ _ _ _ _ _ _ _ _ _ _ p0 p1 p2 p3 p4 p5 p6 p7
