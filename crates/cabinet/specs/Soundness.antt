-- When a record is one that a cabinet with a list of some length may have. Assumes nothing.
use Rattle.std.specs.Prelude.{ℕ, zero, suc, Bool, true, ◌&&◌, ◌||◌, List, ◌==◌, nat_le, nat_lt, slice_index}
use Rattle.cabinet.specs.Epochs.{owner_of}
use Rattle.cabinet.specs.declared.Cabinet.{Cabinet}

-- none of the first n lengths is above the most
unfoldable pub none_above : List ℕ → ℕ → ℕ → Bool
none_above lengths most zero = true
none_above lengths most (suc n) = none_above lengths most n && nat_le (slice_index lengths n) most

-- the role fits the epochs: who stands or leads does so at an epoch of its own, and who leads has accepted it
abbrev pub role_sound : ℕ → Cabinet → Bool
role_sound i c =
    (c.role == 0)
    || (nat_lt 0 c.promised && owner_of c.promised == i && (c.role == 1 || (c.role == 2 && nat_le c.promised c.accepted)))

-- mark 1 to the list's length, accepted up to promised, the role, and no acknowledged length above the list's
abbrev pub record_sound : ℕ → ℕ → Cabinet → Bool
record_sound i length c =
    nat_le 1 c.mark && nat_le c.mark length && nat_le c.accepted c.promised && role_sound i c && none_above c.acknowledged length 16
