-- The laboratory sample: which ones are proper, and their codes. Assumes nothing.
use Rattle.std.specs.Prelude.{ℕ, ◌^◌, Bool, ◌&&◌, Option, nat_lt}
use Rattle.orders.specs.Codes.{joined, low_of, middle_of, high_of}
use Rattle.orders.specs.Kinds.{between, if_proper}
use Rattle.orders.specs.declared.Sample.{Sample}

-- a number of 32 bits, juice 1 to 6, a Brix reading of 0 to 10,000 hundredths
abbrev pub proper : Sample → Bool
proper s = nat_lt s.number (2 ^ 32) && between 1 6 s.juice && between 0 10000 s.reading

-- the number, plus juice × 2^32, plus reading × 2^40
abbrev pub encode : Sample → ℕ
encode s = joined s.number s.juice s.reading

-- the fields of a number, taken as a sample's
abbrev pub fields_of : ℕ → Sample
fields_of n = record { number = low_of n; juice = middle_of n; reading = high_of n }

-- the proper sample that a number codes
abbrev pub decode : ℕ → Option Sample
decode n = if_proper proper (fields_of n)
