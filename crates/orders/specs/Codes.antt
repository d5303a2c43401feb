-- The layout that the codes of all kinds share: a word of 32 bits, a field of 8 bits above it, and the rest. Assumes nothing.
use Rattle.std.specs.Prelude.{ℕ, ◌+◌, ◌*◌, ◌/◌, ◌%◌, ◌^◌}

-- the number made of a low word, a middle field and a high field
abbrev pub joined : ℕ → ℕ → ℕ → ℕ
joined low middle high = low + middle * 2 ^ 32 + high * 2 ^ 40

-- bits 0 to 31
abbrev pub low_of : ℕ → ℕ
low_of n = n % 2 ^ 32

-- bits 32 to 39
abbrev pub middle_of : ℕ → ℕ
middle_of n = n / 2 ^ 32 % 2 ^ 8

-- the bits from 40 on
abbrev pub high_of : ℕ → ℕ
high_of n = n / 2 ^ 40
