-- Numbers as bytes, the low byte first: what the layouts of entries and frames are made of. Assumes nothing.
use Rattle.std.specs.Prelude.{ℕ, ◌+◌, ◌*◌, ◌/◌, ◌%◌, ◌<◌, List, [], ◌∷◌, slice_index}

-- every element is a byte
abbrev pub Octets : List ℕ → Type 0
Octets bs = (i : ℕ) → slice_index bs i < 256

-- the number in the two bytes from place i on
abbrev pub u16_at : List ℕ → ℕ → ℕ
u16_at bs i = slice_index bs i + slice_index bs (i + 1) * 256

-- the number in the four bytes from place i on
abbrev pub u32_at : List ℕ → ℕ → ℕ
u32_at bs i = slice_index bs i + slice_index bs (i + 1) * 256 + slice_index bs (i + 2) * 65536 + slice_index bs (i + 3) * 16777216

-- the number in the eight bytes from place i on
abbrev pub u64_at : List ℕ → ℕ → ℕ
u64_at bs i = u32_at bs i + u32_at bs (i + 4) * 4294967296

-- a number below 2^16 in two bytes
abbrev pub u16_bytes : ℕ → List ℕ
u16_bytes n = n % 256 ∷ n / 256 % 256 ∷ []

-- a number below 2^32 in four bytes
abbrev pub u32_bytes : ℕ → List ℕ
u32_bytes n = n % 256 ∷ n / 256 % 256 ∷ n / 65536 % 256 ∷ n / 16777216 % 256 ∷ []

-- a number below 2^64 in eight bytes
abbrev pub u64_bytes : ℕ → List ℕ
u64_bytes n = n % 256 ∷ n / 256 % 256 ∷ n / 65536 % 256 ∷ n / 16777216 % 256 ∷ n / 4294967296 % 256 ∷ n / 1099511627776 % 256 ∷ n / 281474976710656 % 256 ∷ n / 72057594037927936 % 256 ∷ []
