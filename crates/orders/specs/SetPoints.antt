-- The set point: which ones are proper, and their codes. Assumes nothing.
use Rattle.std.specs.Prelude.{ℕ, ◌-◌, ◌^◌, Bool, ◌&&◌, ℤ, pos, negsuc, Option, int_le}
use Rattle.std.specs.Int.{w32}
use Rattle.std.proofs.Common.{of_z, to_z}
use Rattle.orders.specs.Codes.{joined, low_of, middle_of, high_of}
use Rattle.orders.specs.Kinds.{between, if_proper}
use Rattle.orders.specs.declared.SetPoint.{SetPoint}

-- a signed number of 32 bits: -2^31 to 2^31 - 1
abbrev pub signed_32 : ℤ → Bool
signed_32 v = int_le (negsuc (2 ^ 31 - 1)) v && int_le v (pos (2 ^ 31 - 1))

-- effect 1 to 5, quantity 1 to 4, a signed value of 32 bits
abbrev pub proper : SetPoint → Bool
proper o = between 1 5 o.effect && between 1 4 o.quantity && signed_32 o.value

-- the value in 32-bit two's complement, plus quantity × 2^32, plus effect × 2^40
abbrev pub encode : SetPoint → ℕ
encode o = joined (of_z w32 o.value) o.quantity o.effect

-- the fields of a number, taken as a set point's
abbrev pub fields_of : ℕ → SetPoint
fields_of n = record { effect = high_of n; quantity = middle_of n; value = to_z w32 (low_of n) }

-- the proper set point that a number codes
abbrev pub decode : ℕ → Option SetPoint
decode n = if_proper proper (fields_of n)
