-- What a journal's accepted answers tell. Assumes nothing.
use Rattle.std.proofs.Common.{◌≡◌, ℕ, ◌<◌, ltb, List, length, get_or, Ok, Err, Result, sym, ap, ◌∙◌, inl, inr, arith}
use Rattle.std.proofs.lemmas.Bool.{cases_lt, cond-true, cond-false, lt-ltb, le-ltb}
use Rattle.std.proofs.lemmas.Bool.Decides.{nat_tests}
use Rattle.refusal.specs.declared.Refusal.{Refusal}
use Rattle.refusal.specs.declared.Refusal.TheVariants.{NoCabinet}
use Rattle.journal.specs.declared.Entry.{Entry}
use Rattle.journal.specs.Entries.{blank}
use Rattle.journal.specs.Lists.{owned, length_answer, entry_answer}

-- a length is that of an owner's list
pub length_tells : (owners o n : ℕ) (ls : ℕ → List Entry) → Ok n ≡ length_answer owners ls o → (o < owners) × (n ≡ length (ls o))
length_tells owners o n ls told = grind (arith, nat_tests)

-- an entry lies in the owner's list
pub entry_tells : (owners o i : ℕ) (e : Entry) (ls : ℕ → List Entry) → Ok e ≡ entry_answer owners ls o i → (i < length (ls o)) × (get_or (ls o) i blank ≡ e)
entry_tells owners o i e ls told = grind (arith, nat_tests)

-- the answer for an owner that there is
pub owned_ok : {X : Type 0} (owners o : ℕ) (x y : X) → o < owners → x ≡ y → ◌≡◌ {A = Result X Refusal} (Ok x) (owned owners o (Ok y))
owned_ok {X} owners o x y h same = ap (λ (z : X). Ok z) same ∙ sym (cond-true (ltb o owners) (Ok y) (Err NoCabinet) (lt-ltb o owners h))

-- what is answered for an owner is answered where there is one
pub owned_tells : {X : Type 0} (owners o : ℕ) (r : Result X Refusal) (x : X) → owned owners o r ≡ Ok x → (o < owners) × (r ≡ Ok x)
owned_tells owners o r x told =
    elim (cases_lt o owners) [
      | inl owner ↦ (owner, sym (cond-true (ltb o owners) r (Err NoCabinet) (lt-ltb o owners owner)) ∙ told)
      | inr none ↦ (let refused = sym (cond-false (ltb o owners) r (Err NoCabinet) (le-ltb o owners none)) ∙ told in absurd (let z : ◌≡◌ {A = ℕ} 0 1 = cc in omega arith))
    ]
