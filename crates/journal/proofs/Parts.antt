-- A lemma on memory that is divided into parts of one size, one for each owner.
use Rattle.std.proofs.Common.{ℕ, ◌+◌, ◌*◌, ◌<◌, ◌≤◌, add-mul, one-mul, arith}
use Rattle.std.proofs.lemmas.Nat.{mul-le}

-- an owner's part lies within the memory
pub part_fits : (o n w m : ℕ) → o < n → n * w ≤ m → o * w + w ≤ m
part_fits o n w m h k =
    let a : (o + 1) * w ≤ n * w = mul-le (o + 1) w n w (omega arith) (omega arith) in
    omega (arith, add-mul o 1 w, one-mul w)
