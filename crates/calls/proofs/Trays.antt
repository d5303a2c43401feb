-- The trays of a station, and what a letter written into one leaves of them. Assumes nothing.
use Rattle.std.proofs.Common.{◌≡◌, ℕ, suc, ◌+◌, ◌-◌, ◌*◌, ◌/◌, ◌<◌, ◌≤◌, List, ◌++◌, length, get_or, take, drop, replicate, sym, ap, ◌∙◌, inl, inr, append_assoc, mul-le-mul_right, suc-mul, div-mul-le_self, arith}
use Rattle.std.specs.List.{between}
use Rattle.std.proofs.lemmas.List.{take_at, drop_at, drop-drop, take-take, take-append-le, length-take-le, length-append, length-replicate, drop-replicate, get_or-take, get_or-replicate, get_or_past, length-drop, take-append-drop}
use Rattle.std.proofs.lemmas.Slice.{between_is}
use Rattle.std.proofs.lemmas.Bool.{cases_lt, cases_order}
use Rattle.writing.specs.Writing.{over}

-- a part from a place on is as long as it is
part_length : (L at : ℕ) → at + L - at ≡ L
part_length L at = omega arith

-- what was written at a place is what stands there
pub part_written : (out : List ℕ) (at L : ℕ) (bs : List ℕ) → length bs ≡ L → at ≤ length out → between at (at + L) (over out at bs) ≡ bs
part_written out at L bs long there =
    ap (λ (n : ℕ). take n (drop at (over out at bs))) (part_length L at)
    ∙ ap (take L) (drop_at (take at out) (bs ++ drop (at + length bs) out) at (length-take-le at out there))
    ∙ take_at bs (drop (at + length bs) out) L long

-- a part before the place is as it was
before_written : (out : List ℕ) (a at L : ℕ) (bs : List ℕ) → a + L ≤ at → at ≤ length out → between a (a + L) (over out at bs) ≡ between a (a + L) out
before_written out a at L bs before there =
    between_is (over out at bs) a (a + L)
    ∙ ap (drop a) (take-append-le (a + L) (take at out) (bs ++ drop (at + length bs) out) (omega (arith, length-take-le at out there)) ∙ take-take (a + L) at out before)
    ∙ sym (between_is out a (a + L))

-- what follows the bytes written is as it was
rest_written : (out : List ℕ) (a at : ℕ) (bs : List ℕ) → at + length bs ≤ a → at ≤ length out → drop a (over out at bs) ≡ drop a out
rest_written out a at bs after there =
    let n : ℕ = at + length bs in
    let size : length (take at out ++ bs) ≡ n = length-append (take at out) bs ∙ ap (λ (k : ℕ). k + length bs) (length-take-le at out there) in
    let split : a ≡ n + (a - n) = omega arith in
    ap (λ (k : ℕ). drop k (over out at bs)) split
    ∙ sym (drop-drop (a - n) n (over out at bs))
    ∙ ap (drop (a - n)) (ap (drop n) (sym (append_assoc (take at out) bs (drop n out))) ∙ drop_at (take at out ++ bs) (drop n out) n size)
    ∙ drop-drop (a - n) n out
    ∙ ap (λ (k : ℕ). drop k out) (sym split)

-- a tray ends where a later one begins, or before
tray_before : (j k L : ℕ) → j < k → j * L + L ≤ k * L
tray_before j k L less =
    let next : suc j * L ≤ k * L = mul-le-mul_right L (omega arith) in
    omega (arith, suc-mul j L)

-- a tray that there is lies within the bytes
pub tray_within : (k L n : ℕ) → k < n / L → k * L + L ≤ n
tray_within k L n there = omega (arith, tray_before k (n / L) L there, div-mul-le_self n L)

-- the other trays are as they were
pub tray_other : (out : List ℕ) (j k L : ℕ) (bs : List ℕ) → length bs ≡ L → k * L + L ≤ length out → (j ≡ k → ⊥)
    → between (j * L) (j * L + L) (over out (k * L) bs) ≡ between (j * L) (j * L + L) out
tray_other out j k L bs long there apart =
    elim (cases_order j k) [
      | inl same ↦ absurd (apart same)
      | inr order ↦
          elim order [
            | inl less ↦ before_written out (j * L) (k * L) L bs (tray_before j k L less) (omega arith)
            | inr more ↦ ap (take (j * L + L - j * L)) (rest_written out (j * L) (k * L) bs (omega (arith, tray_before k j L more)) (omega arith))
          ]
    ]

-- the first byte of any part of zeros is zero
pub zeros_first : (n a b : ℕ) → ◌≡◌ {A = ℕ} (get_or (between a b (replicate {A = ℕ} n 0)) 0 0) 0
zeros_first n a b =
    elim (cases_lt 0 (b - a)) [
      | inl some ↦
          get_or-take (b - a) (drop a (replicate {A = ℕ} n 0)) 0 0 some
          ∙ ap (λ (xs : List ℕ). get_or xs 0 0) (drop-replicate {X = ℕ} a n 0)
          ∙ elim (cases_lt 0 (n - a)) [
            | inl more ↦ get_or-replicate {A = ℕ} (n - a) 0 0 0 more
            | inr none ↦ get_or_past (replicate {A = ℕ} (n - a) 0) 0 0 (omega (arith, length-replicate {A = ℕ} (n - a) 0))
          ]
      | inr none ↦ ap (λ (m : ℕ). get_or (take m (drop a (replicate {A = ℕ} n 0))) 0 0) (let z : b - a ≡ 0 = omega arith in z)
    ]

-- a part within the bytes is as long as it should be
pub part_long : (out : List ℕ) (at L : ℕ) → at + L ≤ length out → length (between at (at + L) out) ≡ L
part_long out at L there = ap (λ (n : ℕ). length (take n (drop at out))) (part_length L at) ∙ length-take-le L (drop at out) (omega (arith, length-drop at out))

-- a part written again where it was leaves all as it was
pub over_same : (out : List ℕ) (at L : ℕ) → at + L ≤ length out → over out at (between at (at + L) out) ≡ out
over_same out at L there =
    let part : List ℕ = take L (drop at out) in
    let same : between at (at + L) out ≡ part = ap (λ (n : ℕ). take n (drop at out)) (part_length L at) in
    let long : length part ≡ L = length-take-le L (drop at out) (omega (arith, length-drop at out)) in
    ap (over out at) same
    ∙ ap (λ (n : ℕ). take at out ++ (part ++ drop (at + n) out)) long
    ∙ ap (λ (xs : List ℕ). take at out ++ (part ++ xs)) (sym (drop-drop L at out))
    ∙ ap (λ (xs : List ℕ). take at out ++ xs) (take-append-drop L (drop at out))
    ∙ take-append-drop at out
