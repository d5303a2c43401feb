-- A test of member sets that the caller brings. Assumes nothing.
use Rattle.std.specs.Prelude.{◌≡◌, ℕ, Bool}
use Rattle.std.specs.Fn.{Shared}

-- each call of the test, at a member set, gives what `holds` gives of it
abbrev pub Computes : {F : Type 0} → Shared F (ℕ × Unit {0}) Bool → F → (ℕ → Bool) → Type 0
Computes g f holds = (members : ℕ) (answer : Bool) → g.post f (members, tt) answer → answer ≡ holds members
