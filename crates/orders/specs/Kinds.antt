-- What a kind of order answers, and the laws that every kind owes. Assumes nothing.
use Rattle.std.specs.Prelude.{◌≡◌, ℕ, ◌^◌, ◌<◌, Bool, true, cond, ◌&&◌, Some, None, Ok, Err, Option, Result, nat_le}
use Rattle.refusal.specs.declared.Refusal.{Refusal}
use Rattle.refusal.specs.declared.Refusal.TheVariants.{NotProper}

-- n lies between the least and the greatest, both included
abbrev pub between : ℕ → ℕ → ℕ → Bool
between least greatest n = nat_le least n && nat_le n greatest

-- the order, if it is proper
abbrev pub if_proper : {A : Type 0} → (A → Bool) → A → Option A
if_proper proper x = cond (proper x) (Some x) None

-- what is there, or the refusal of an order that is not proper
abbrev pub or_refused : {A : Type 0} → Option A → Result A Refusal
or_refused (Some x) = Ok x
or_refused None = Err NotProper

-- the code of a proper order, or the refusal of one that is not
abbrev pub code_answer : Bool → ℕ → Result ℕ Refusal
code_answer proper code = cond proper (Ok code) (Err NotProper)

-- reading the code of a proper order gives that order back
abbrev pub ReadsBack : {A : Type 0} → (A → Bool) → (A → ℕ) → (ℕ → Option A) → Type 0
ReadsBack {A} proper code order = (x : A) → proper x ≡ true → order (code x) ≡ Some x

-- a number that is read is the code of the proper order that it reads as
abbrev pub ReadsCodesOnly : {A : Type 0} → (A → Bool) → (A → ℕ) → (ℕ → Option A) → Type 0
ReadsCodesOnly {A} proper code order = (n : ℕ) (x : A) → order n ≡ Some x → (proper x ≡ true) × (code x ≡ n)

-- no two proper orders share a code
abbrev pub CodesDiffer : {A : Type 0} → (A → Bool) → (A → ℕ) → Type 0
CodesDiffer {A} proper code = (x y : A) → proper x ≡ true → proper y ≡ true → code x ≡ code y → x ≡ y

-- the code of a proper order has 64 bits
abbrev pub CodesFit : {A : Type 0} → (A → Bool) → (A → ℕ) → Type 0
CodesFit {A} proper code = (x : A) → proper x ≡ true → code x < 2 ^ 64
