-- One more entry of two lists that begin alike. Assumes nothing.
use Rattle.std.proofs.Common.{◌≡◌, ℕ, zero, suc, ◌+◌, true, false, ◌&&◌, eqb, List, get_or, Ok, sym, refl, ap, ◌∙◌, ap₂, add-one, arith}
use Rattle.journal.specs.declared.Entry.{Entry}
use Rattle.journal.specs.declared.EntryKind.{EntryKind}
use Rattle.journal.specs.declared.EntryKind.TheVariants.{Configuration, Order}
use Rattle.journal.specs.contracts.EntryKind.{the_type}
use Rattle.journal.specs.Entries.{blank, kind_number}
use Rattle.std.proofs.Math.Bool.{and_assoc}
use denote.Enum.Bare.{sameb}
use Rattle.std.proofs.lemmas.Bool.Decides.{nat_tests}
use Rattle.entries.specs.Entries.{place_answer}
use Rattle.messages.specs.Messages.{same_entry, same_front}

-- an entry that is given is the one at its place
pub place_tells : (es : List Entry) (k : ℕ) (e : Entry) → Ok e ≡ place_answer es k → get_or es k blank ≡ e
place_tells es k e told = grind (arith, nat_tests)

-- two kinds are compared by their numbers
same_kind : (a b : EntryKind) → sameb the_type a b ≡ eqb (kind_number a) (kind_number b)
same_kind Configuration Configuration = refl
same_kind Configuration Order = refl
same_kind Order Configuration = refl
same_kind Order Order = refl

-- and two entries field by field
pub entry_compared : (a b : Entry) → (eqb a.epoch b.epoch && (sameb the_type a.kind b.kind && eqb a.body b.body)) ≡ same_entry a b
entry_compared a b =
    ap (λ kinds. eqb a.epoch b.epoch && (kinds && eqb a.body b.body)) (same_kind a.kind b.kind)
    ∙ sym (and_assoc (eqb a.epoch b.epoch) (eqb (kind_number a.kind) (kind_number b.kind)) (eqb a.body b.body))

module _ (l es : List Entry) where
  -- no entries differ
  pub same_none : same_front l es 0 ≡ true
  unfolding same_front
  same_none = refl

  -- one entry more is compared
  pub same_more : (n : ℕ) (a b : Entry) → get_or l n blank ≡ a → get_or es n blank ≡ b → same_front l es n ≡ true → same_front l es (n + 1) ≡ same_entry a b
  unfolding same_front
  same_more n a b own new before =
      ap (same_front l es) (add-one n) ∙ ap₂ (λ b₁ b₂. b₁ && b₂) before (ap₂ (λ x y. same_entry x y) own new)

  -- and where two have differed once, the fronts differ
  pub same_fails : (n k : ℕ) → same_front l es n ≡ false → same_front l es (n + k) ≡ false
  unfolding same_front
  same_fails n zero failed = ap (same_front l es) (let z : n + 0 ≡ n = omega arith in z) ∙ failed
  same_fails n (suc k) failed =
      ap (same_front l es) (let z : n + suc k ≡ suc (n + k) = omega arith in z)
      ∙ ap (λ b. b && same_entry (get_or l (n + k) blank) (get_or es (n + k) blank)) (same_fails n k failed)
