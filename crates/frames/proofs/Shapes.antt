-- What a header whose shape was accepted is known to be. Assumes nothing.
use Rattle.std.proofs.Common.{◌≡◌, ℕ, ◌+◌, ◌*◌, ◌≤◌, Ok, arith}
use Rattle.std.proofs.lemmas.Bool.Decides.{nat_tests}
use Rattle.frames.specs.declared.Header.{Header}
use Rattle.frames.specs.declared.Fields.{Fields}
use Rattle.frames.specs.Fields.{shape_answer}

-- its frame lies within the bytes
pub shape_within : (limit room : ℕ) (h : Header) (f : Fields) → shape_answer limit room h ≡ Ok f → 24 + 16 * f.count ≤ room
shape_within limit room h f accepted = grind (arith, nat_tests)
