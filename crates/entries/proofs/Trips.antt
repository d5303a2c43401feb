-- Entries and their bytes, there and back. Assumes nothing.
use Rattle.std.proofs.Common.{◌≡◌, ℕ, ◌<◌, ◌≤◌, true, List, [], ◌∷◌, ◌++◌, length, get_or, sym, refl, ap, ◌∙◌, inl, inr, arith}
use Rattle.std.proofs.lemmas.List.FromFn.{fill_by_all}
use Rattle.std.proofs.lemmas.Bool.{cond-true, cases_eq, ne_eqb}
use Rattle.std.proofs.lemmas.Bool.Decides.{nat_tests}
use Rattle.journal.specs.declared.Entry.{Entry}
use Rattle.journal.specs.declared.EntryKind.{EntryKind}
use Rattle.journal.specs.declared.EntryKind.TheVariants.{Configuration, Order}
use Rattle.journal.specs.Entries.{kind_number, blank}
use Rattle.entries.specs.Bytes.{u32_at, u64_at}
use Rattle.entries.specs.Entries.{kind_numbered, spelled, entry_in, entry_bytes}
use Rattle.entries.proofs.Digits.{u32_back, u64_back, u32_again, u64_again}

-- an entry's numbers fit their fields
abbrev pub FitsFields : Entry → Type 0
FitsFields e = (e.epoch < 4294967296) × (e.body < 18446744073709551616)

-- entries with equal parts are equal
same_entry : (m n : ℕ) (kind : EntryKind) (a b : ℕ) → m ≡ n → a ≡ b → ◌≡◌ {A = Entry} (record { epoch = m; kind = kind; body = a }) (record { epoch = n; kind = kind; body = b })
same_entry m n kind a b p q = cc

-- the bytes of an entry spell it
spells : (epoch body : ℕ) (kind : EntryKind) → epoch < 4294967296 → body < 18446744073709551616 → entry_in (entry_bytes (record { epoch = epoch; kind = kind; body = body })) ≡ record { epoch = epoch; kind = kind; body = body }
spells epoch body Configuration p q = same_entry _ _ Configuration _ _ (u32_back epoch p) (u64_back body q)
spells epoch body Order p q = same_entry _ _ Order _ _ (u32_back epoch p) (u64_back body q)

-- an entry is read back from its bytes
pub entry_back : (e : Entry) → FitsFields e → entry_in (entry_bytes e) ≡ e
entry_back e fits = spells e.epoch e.body e.kind fits.0 fits.1

-- 16 bytes, one by one
sixteen : (bs : List ℕ) → length bs ≡ 16 → bs ≡ get_or bs 0 0 ∷ get_or bs 1 0 ∷ get_or bs 2 0 ∷ get_or bs 3 0 ∷ get_or bs 4 0 ∷ get_or bs 5 0 ∷ get_or bs 6 0 ∷ get_or bs 7 0 ∷ get_or bs 8 0 ∷ get_or bs 9 0 ∷ get_or bs 10 0 ∷ get_or bs 11 0 ∷ get_or bs 12 0 ∷ get_or bs 13 0 ∷ get_or bs 14 0 ∷ get_or bs 15 0 ∷ []
sixteen bs long = fill_by_all (λ k. get_or bs k 0) bs 16 0 long (λ k h. refl)

-- the number of the kind that the number 1 or 2 stands for
kind_again : (n : ℕ) → 1 ≤ n → n ≤ 2 → kind_number (kind_numbered n) ≡ n
kind_again n low high =
    elim (cases_eq n 1) [
      | inl one ↦ rw one refl
      | inr other ↦ rw (ne_eqb n 1 other) (omega arith)
    ]

-- what a spelled entry has in its middle
middle : (bs : List ℕ) → spelled bs ≡ true → (1 ≤ get_or bs 4 0) × (get_or bs 4 0 ≤ 2) × (get_or bs 5 0 ≡ 0) × (get_or bs 6 0 ≡ 0) × (get_or bs 7 0 ≡ 0)
middle bs s = grind (arith, nat_tests)

-- parts of 16 bytes that are equal, put together
same_16 : (a b a' b' : List ℕ) (k k' x y z : ℕ) → a ≡ a' → k ≡ k' → 0 ≡ x → 0 ≡ y → 0 ≡ z → b ≡ b' → a ++ (k ∷ 0 ∷ 0 ∷ 0 ∷ []) ++ b ≡ a' ++ (k' ∷ x ∷ y ∷ z ∷ []) ++ b'
same_16 a b a' b' k k' x y z p q r s t u = cc

-- 16 bytes that spell an entry are its bytes
pub entry_again : (bs : List ℕ) → length bs ≡ 16 → ((i : ℕ) → get_or bs i 0 < 256) → spelled bs ≡ true → entry_bytes (entry_in bs) ≡ bs
entry_again bs long small s =
    let m = middle bs s in
    let read : entry_in bs ≡ record { epoch = u32_at bs 0; kind = kind_numbered (get_or bs 4 0); body = u64_at bs 8 } = cond-true (spelled bs) _ blank s in
    ap entry_bytes read
    ∙ same_16 _ _ _ _ _ _ _ _ _
    (u32_again (get_or bs 0 0) (get_or bs 1 0) (get_or bs 2 0) (get_or bs 3 0) (small 0) (small 1) (small 2) (small 3))
    (kind_again (get_or bs 4 0) m.0 m.1) (sym m.2) (sym m.3) (sym m.4)
    (u64_again (get_or bs 8 0) (get_or bs 9 0) (get_or bs 10 0) (get_or bs 11 0) (get_or bs 12 0) (get_or bs 13 0) (get_or bs 14 0) (get_or bs 15 0) (small 8) (small 9) (small 10) (small 11) (small 12) (small 13) (small 14) (small 15))
    ∙ sym (sixteen bs long)
