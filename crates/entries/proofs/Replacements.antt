-- A list that is replaced, entry by entry. Assumes nothing.
use Rattle.std.proofs.Common.{◌≡◌, ℕ, ◌+◌, ◌<◌, ◌≤◌, cond, eqb, List, length, get_or, take, Ok, refl, ap, ◌∙◌, arith}
use Rattle.std.proofs.lemmas.List.{take_more, length-take-le}
use Rattle.std.proofs.lemmas.Bool.{eq-eqb, cond-true}
use Rattle.std.proofs.lemmas.Bool.Decides.{nat_tests}
use Rattle.journal.specs.declared.Entry.{Entry}
use Rattle.journal.specs.Entries.{blank}
use Rattle.journal.specs.Lists.{append_answer, append_lists}

-- the owner's list is the first k entries, and every other is as it was
abbrev pub Begun : ℕ → ℕ → List Entry → (ℕ → List Entry) → (ℕ → List Entry) → Type 0
Begun o k es was ls = (p : ℕ) → ls p ≡ cond (eqb p o) (take k es) (was p)

-- so far the list is as long as the entries appended
pub begun_length : (o k : ℕ) (es : List Entry) (was ls : ℕ → List Entry) → k ≤ length es → Begun o k es was ls → length (ls o) ≡ k
begun_length o k es was ls h begun = ap length (begun o ∙ cond-true (eqb o o) (take k es) (was o) (eq-eqb o o refl)) ∙ length-take-le k es h

-- below the limit an append is accepted
pub append_room : (owners limit o : ℕ) (ls : ℕ → List Entry) → o < owners → length (ls o) < limit → append_answer owners limit ls o ≡ Ok tt
append_room owners limit o ls owned room = grind (arith, nat_tests)

-- one entry more
pub begun_more : (owners limit o k : ℕ) (e : Entry) (es : List Entry) (was ls more : ℕ → List Entry) → o < owners → k < length es → length es ≤ limit → get_or es k blank ≡ e → Begun o k es was ls → ((p : ℕ) → more p ≡ append_lists owners limit ls o e p) → Begun o (k + 1) es was more
begun_more owners limit o k e es was ls more owned h small is begun adds p =
    let a = adds p in
    let b = begun p in
    let n = begun_length o k es was ls (omega arith) begun in
    let t = take_more es k blank h in
    grind (arith, nat_tests)
