-- An accepted frame, written again. Assumes nothing.
use Rattle.std.proofs.Common.{◌≡◌, ℕ, zero, suc, ◌+◌, ◌-◌, ◌*◌, ◌/◌, ◌<◌, ◌≤◌, Bool, true, false, cond, ◌&&◌, eqb, ltb, List, [], ◌∷◌, ◌++◌, length, get_or, take, drop, Ok, Err, Result, sym, refl, ap, ◌∙◌, arith, take-add}
use Rattle.std.proofs.lemmas.List.FromFn.{fill_by_all}
use Rattle.std.proofs.lemmas.List.Edits.{length-between}
use Rattle.std.proofs.lemmas.List.{take_rest, take_all, get_or-drop, get_or-take, length-drop, length-take-le, nil_from_length}
use Rattle.std.proofs.lemmas.Bool.{and_parts, eqb-true, ltb-false, le-leb}
use Rattle.std.proofs.lemmas.Bool.Decides.{nat_tests}
use Rattle.refusal.specs.declared.Refusal.{Refusal}
use Rattle.refusal.specs.declared.Refusal.TheVariants.{FrameShort, FrameShape, FrameField, OutOfBounds, NoTray}
use Rattle.journal.specs.declared.Entry.{Entry as ListEntry}
use Rattle.journal.specs.Entries.{blank}
use Rattle.frames.specs.declared.FrameKind.{FrameKind}
use Rattle.frames.specs.declared.FrameKind.TheVariants.{Candidate, Promise, History, Entry, Acknowledge, Commit}
use Rattle.frames.specs.declared.Header.{Header}
use Rattle.frames.specs.declared.Numbers.{Numbers}
use Rattle.frames.specs.declared.Fields.{Fields}
use Rattle.entries.specs.Bytes.{Octets, u16_at, u32_at, u16_bytes, u32_bytes}
use Rattle.entries.specs.Entries.{entries_of, entries_bytes}
use Rattle.entries.specs.Histories.{body_fits}
use Rattle.entries.proofs.Digits.{u16_again, u32_again}
use Rattle.entries.proofs.Places.{entries_length}
use Rattle.entries.proofs.ListTrips.{entries_again, goes_on_each, part_small}
use Rattle.refusal.specs.Answers.{and_then, unless}
use Rattle.frames.specs.Fields.{bounds_fit, kind_number, kind_numbered, count_fits, numbers_fit, fields_fit, zeros_in, numbers_of, header_of, shape_answer, behind}
use Rattle.frames.specs.Letters.{Letter, fields_of, letter_of, content_of, entries_in, entries_fit, ranges_answer, letter_answer, frame_length, header_bytes, frame_bytes}
use Rattle.frames.specs.Reading.{part_of}
use Rattle.frames.proofs.Chains.{checked, and_then_ok, unless_ok, ok_unless}
use Rattle.writing.specs.Writing.{room_answer, write_answer}
use Rattle.roundtrip.specs.Trips.{WritesBack}

-- a test that would refuse has failed
pub not_refused : {X : Type 0} (b : Bool) (e : Refusal) (r : Result X Refusal) (x : X) → cond b (Err e) r ≡ Ok x → (b ≡ false) × (r ≡ Ok x)
not_refused true e r x h = absurd (let z : ◌≡◌ {A = ℕ} 0 1 = cc in omega arith)
not_refused false e r x h = (refl, h)

-- a test that lets pass has held
pub let_pass : {X : Type 0} (b : Bool) (e : Refusal) (x y : X) → cond b (Ok x) (Err e) ≡ Ok y → (b ≡ true) × (x ≡ y)
let_pass true e x y h = (refl, cc)
let_pass false e x y h = absurd (let z : ◌≡◌ {A = ℕ} 0 1 = cc in omega arith)

-- a kind that was found has the number that was asked for
kind_tells : (n : ℕ) (k : FrameKind) → kind_numbered n ≡ Ok k → kind_number k ≡ n
kind_tells n k found = grind (arith, nat_tests)

-- what an accepted shape tells of header and fields
record Shaped (limit room : ℕ) (h : Header) (f : Fields) : Type 0 where
  within : h.numbers.length ≤ room
  kind : kind_number f.kind ≡ h.kind
  counted : count_fits f.kind limit f.count ≡ true
  long : h.numbers.length ≡ frame_length f.count
  zeros : h.numbers.zeros ≡ true
  same : f ≡ record { kind = f.kind; sender = h.sender; count = h.count; epoch = h.epoch; first = h.numbers.first; second = h.numbers.second }

shaped : (limit room : ℕ) (h : Header) (f : Fields) → shape_answer limit room h ≡ Ok f → Shaped limit room h f
shaped limit room h f accepted =
    let made : FrameKind → Fields = λ k. record { kind = k; sender = h.sender; count = h.count; epoch = h.epoch; first = h.numbers.first; second = h.numbers.second } in
    let test : FrameKind → Bool = λ k. count_fits k limit h.count && eqb h.numbers.length (24 + 16 * h.count) && h.numbers.zeros in
    let fits = not_refused (ltb room h.numbers.length) FrameShort (and_then (kind_numbered h.kind) (λ k. cond (test k) (Ok (made k)) (Err FrameShape))) f accepted in
    let found : (k : FrameKind) × (kind_numbered h.kind ≡ Ok k) × (cond (test k) (Ok (made k)) (Err FrameShape) ≡ Ok f) = and_then_ok _ _ f fits.1 in
    let k : FrameKind = found.0 in
    let pass = let_pass (test k) FrameShape (made k) f found.2 in
    let tests = and_parts _ _ pass.0 in
    let more = and_parts _ _ tests.0 in
    let is : k ≡ f.kind = ap (λ (x : Fields). x.kind) pass.1 in
    let count : h.count ≡ f.count = ap (λ (x : Fields). x.count) pass.1 in
    record {
      within = ltb-false room h.numbers.length fits.0;
      kind = ap kind_number (sym is) ∙ kind_tells h.kind k found.1;
      counted = ap (λ (x : FrameKind). count_fits x limit f.count) (sym is) ∙ ap (count_fits k limit) (sym count) ∙ more.0;
      long = eqb-true _ _ more.1 ∙ ap frame_length count;
      zeros = tests.1;
      same = sym pass.1 ∙ ap made is;
    }

-- the header that the first 24 bytes make
abbrev header_at : List ℕ → Header
header_at bs = record { kind = get_or bs 0 0; sender = get_or bs 1 0; count = u16_at bs 2; epoch = u32_at bs 4; numbers = record { first = u32_at (behind 8 bs) 0; second = u32_at (behind 8 bs) 4; length = u16_at (behind 8 bs) 8; zeros = zeros_in (behind 10 (behind 8 bs)) } }

-- a header that was read is the one in the bytes
header_tells : (bs : List ℕ) (h : Header) → header_of bs ≡ Ok h → (24 ≤ length bs) × (header_at bs ≡ h)
header_tells bs h read =
    let numbers : (n : Numbers) × (numbers_of (behind 8 bs) ≡ Ok n) × (◌≡◌ {A = Result Header Refusal} (Ok (record { kind = get_or bs 0 0; sender = get_or bs 1 0; count = u16_at bs 2; epoch = u32_at bs 4; numbers = n })) (Ok h)) = and_then_ok _ _ h read in
    let inner = not_refused (ltb (length (behind 8 bs)) 16) FrameShort _ numbers.0 numbers.1 in
    let made = inner.1 in
    let outer = numbers.2 in
    let long : 16 ≤ length (behind 8 bs) = ltb-false _ _ inner.0 in
    (omega (arith, ap length (take_rest bs 8), length-drop 8 bs), cc)

-- a byte behind the first eight
behind_8 : (bs : List ℕ) (i : ℕ) → get_or (behind 8 bs) i 0 ≡ get_or bs (8 + i) 0
behind_8 bs i = ap (λ (xs : List ℕ). get_or xs i 0) (take_rest bs 8) ∙ get_or-drop 8 bs i 0

-- a byte behind the first eighteen
behind_18 : (bs : List ℕ) (i : ℕ) → get_or (behind 10 (behind 8 bs)) i 0 ≡ get_or bs (8 + (10 + i)) 0
behind_18 bs i = ap (λ (xs : List ℕ). get_or xs i 0) (take_rest (behind 8 bs) 10) ∙ get_or-drop 10 (behind 8 bs) i 0 ∙ behind_8 bs (10 + i)

-- the first 24 bytes, one by one
twenty_four : (bs : List ℕ) → 24 ≤ length bs → take 24 bs ≡ get_or bs 0 0 ∷ get_or bs 1 0 ∷ get_or bs 2 0 ∷ get_or bs 3 0 ∷ get_or bs 4 0 ∷ get_or bs 5 0 ∷ get_or bs 6 0 ∷ get_or bs 7 0 ∷ get_or bs 8 0 ∷ get_or bs 9 0 ∷ get_or bs 10 0 ∷ get_or bs 11 0 ∷ get_or bs 12 0 ∷ get_or bs 13 0 ∷ get_or bs 14 0 ∷ get_or bs 15 0 ∷ get_or bs 16 0 ∷ get_or bs 17 0 ∷ get_or bs 18 0 ∷ get_or bs 19 0 ∷ get_or bs 20 0 ∷ get_or bs 21 0 ∷ get_or bs 22 0 ∷ get_or bs 23 0 ∷ []
twenty_four bs long = fill_by_all (λ k. get_or bs k 0) (take 24 bs) 24 0 (length-take-le 24 bs long) (λ k h. get_or-take 24 bs k 0 h)

-- the parts of a header's bytes, put together
same_24 : (k k' s s' z0 z1 z2 z3 z4 z5 : ℕ) (c c' e e' a a' b b' n n' : List ℕ) → k ≡ k' → s ≡ s' → c ≡ c' → e ≡ e' → a ≡ a' → b ≡ b' → n ≡ n' → z0 ≡ 0 → z1 ≡ 0 → z2 ≡ 0 → z3 ≡ 0 → z4 ≡ 0 → z5 ≡ 0 → (k ∷ s ∷ []) ++ c ++ e ++ a ++ b ++ n ++ (0 ∷ 0 ∷ 0 ∷ 0 ∷ 0 ∷ 0 ∷ []) ≡ (k' ∷ s' ∷ []) ++ c' ++ e' ++ a' ++ b' ++ n' ++ (z0 ∷ z1 ∷ z2 ∷ z3 ∷ z4 ∷ z5 ∷ [])
same_24 k k' s s' z0 z1 z2 z3 z4 z5 c c' e e' a a' b b' n n' h0 h1 h2 h3 h4 h5 h6 h7 h8 h9 h10 h11 h12 = cc

-- what the six zeros are
zeros_tell : (xs : List ℕ) → zeros_in xs ≡ true → (get_or xs 0 0 ≡ 0) × (get_or xs 1 0 ≡ 0) × (get_or xs 2 0 ≡ 0) × (get_or xs 3 0 ≡ 0) × (get_or xs 4 0 ≡ 0) × (get_or xs 5 0 ≡ 0)
zeros_tell xs zeros = grind (arith, nat_tests)

-- the bytes of four bytes' number, behind the first eight
u32_behind : (bs : List ℕ) (i : ℕ) → Octets bs → u32_bytes (u32_at (behind 8 bs) i) ≡ get_or bs (8 + i) 0 ∷ get_or bs (8 + (i + 1)) 0 ∷ get_or bs (8 + (i + 2)) 0 ∷ get_or bs (8 + (i + 3)) 0 ∷ []
u32_behind bs i small =
    simp (behind_8 bs) (u32_again (get_or bs (8 + i) 0) (get_or bs (8 + (i + 1)) 0) (get_or bs (8 + (i + 2)) 0) (get_or bs (8 + (i + 3)) 0) (small (8 + i)) (small (8 + (i + 1))) (small (8 + (i + 2))) (small (8 + (i + 3))))

-- an accepted header is written as it came
header_again : (limit : ℕ) (bs : List ℕ) (f : Fields) → Octets bs → 24 ≤ length bs → Shaped limit (length bs) (header_at bs) f → header_bytes f ≡ take 24 bs
header_again limit bs f small long s =
    let z = zeros_tell (behind 10 (behind 8 bs)) s.zeros in
    let fields = s.same in
    let size : u16_bytes (frame_length f.count) ≡ get_or bs 16 0 ∷ get_or bs 17 0 ∷ [] = ap u16_bytes (sym s.long) ∙ simp (behind_8 bs) (u16_again (get_or bs 16 0) (get_or bs 17 0) (small 16) (small 17)) in
    same_24 _ _ _ _ _ _ _ _ _ _ _ _ _ _ _ _ _ _ _ _
    s.kind (ap (λ (x : Fields). x.sender) fields)
    (ap (λ (x : Fields). u16_bytes x.count) fields ∙ u16_again (get_or bs 2 0) (get_or bs 3 0) (small 2) (small 3))
    (ap (λ (x : Fields). u32_bytes x.epoch) fields ∙ u32_again (get_or bs 4 0) (get_or bs 5 0) (get_or bs 6 0) (get_or bs 7 0) (small 4) (small 5) (small 6) (small 7))
    (ap (λ (x : Fields). u32_bytes x.first) fields ∙ u32_behind bs 0 small)
    (ap (λ (x : Fields). u32_bytes x.second) fields ∙ u32_behind bs 4 small)
    size
    (sym (behind_18 bs 0) ∙ z.0) (sym (behind_18 bs 1) ∙ z.1) (sym (behind_18 bs 2) ∙ z.2) (sym (behind_18 bs 3) ∙ z.3) (sym (behind_18 bs 4) ∙ z.4) (sym (behind_18 bs 5) ∙ z.5)
    ∙ sym (twenty_four bs long)

-- the fields of the letter that fields make are those fields
fields_again : (k : FrameKind) (limit s c e a b : ℕ) (es : List ListEntry) → count_fits k limit c ≡ true → numbers_fit k limit e c a b ≡ true → length es ≡ c → fields_of (letter_of (record { kind = k; sender = s; count = c; epoch = e; first = a; second = b }) es) ≡ record { kind = k; sender = s; count = c; epoch = e; first = a; second = b }
fields_again Candidate limit s c e a b es count numbers long = let none : 0 ≡ c = grind (arith, nat_tests) in cc
fields_again Promise limit s c e a b es count numbers long = let none : 0 ≡ c = grind (arith, nat_tests) in let p : 0 ≡ a = grind (arith, nat_tests) in let q : 0 ≡ b = grind (arith, nat_tests) in cc
fields_again History limit s c e a b es count numbers long = let q : 0 ≡ b = grind (arith, nat_tests) in cc
fields_again Entry limit s c e a b es count numbers long = let one : 1 ≡ c = grind (arith, nat_tests) in cc
fields_again Acknowledge limit s c e a b es count numbers long = let none : 0 ≡ c = grind (arith, nat_tests) in let q : 0 ≡ b = grind (arith, nat_tests) in cc
fields_again Commit limit s c e a b es count numbers long = let none : 0 ≡ c = grind (arith, nat_tests) in let q : 0 ≡ b = grind (arith, nat_tests) in cc

-- a list of one is its first entry
one_entry : (es : List ListEntry) → length es ≡ 1 → get_or es 0 blank ∷ [] ≡ es
one_entry [] long = absurd (omega arith)
one_entry (x ∷ []) long = refl
one_entry (x ∷ (y ∷ es)) long = absurd (omega arith)

-- so are its entries
entries_in_again : (k : FrameKind) (limit a b : ℕ) (es : List ListEntry) → count_fits k limit (length es) ≡ true → entries_in (content_of k a b es) ≡ es
entries_in_again Candidate limit a b es count = sym (nil_from_length es (eqb-true _ _ count))
entries_in_again Promise limit a b es count = sym (nil_from_length es (eqb-true _ _ count))
entries_in_again History limit a b es count = refl
entries_in_again Entry limit a b es count = one_entry es (eqb-true _ _ count)
entries_in_again Acknowledge limit a b es count = sym (nil_from_length es (eqb-true _ _ count))
entries_in_again Commit limit a b es count = sym (nil_from_length es (eqb-true _ _ count))

-- every entry of an accepted frame has a body that fits
fits_each : (codes : ℕ → Bool) (cabinets limit epoch : ℕ) (k : FrameKind) (es : List ListEntry) → count_fits k limit (length es) ≡ true → entries_fit codes cabinets k epoch es ≡ true → (i : ℕ) → i < length es → body_fits codes cabinets (get_or es i blank).kind (get_or es i blank).body ≡ true
fits_each codes cabinets limit epoch Candidate es count fits i h = absurd (omega (arith, eqb-true _ _ count))
fits_each codes cabinets limit epoch Promise es count fits i h = absurd (omega (arith, eqb-true _ _ count))
fits_each codes cabinets limit epoch History es count fits i h = (goes_on_each codes cabinets epoch 0 es (and_parts _ _ fits).1 i h).1
fits_each codes cabinets limit epoch Entry es count fits zero h = (and_parts _ _ fits).1
fits_each codes cabinets limit epoch Entry es count fits (suc i) h = absurd (omega (arith, eqb-true (length es) 1 count))
fits_each codes cabinets limit epoch Acknowledge es count fits i h = absurd (omega (arith, eqb-true _ _ count))
fits_each codes cabinets limit epoch Commit es count fits i h = absurd (omega (arith, eqb-true _ _ count))

-- checks that all hold let the writer pass
accepts : (codes : ℕ → Bool) (cabinets limit room : ℕ) (l : Letter) → bounds_fit cabinets limit ≡ true → frame_length (fields_of l).count ≤ room → count_fits (fields_of l).kind limit (fields_of l).count ≡ true → fields_fit cabinets limit (fields_of l) ≡ true → entries_fit codes cabinets (fields_of l).kind l.epoch (entries_in l.content) ≡ true → write_answer codes cabinets limit room l ≡ Ok (frame_length (fields_of l).count)
accepts codes cabinets limit room l bounds within counted ranged faultless =
    let Answer : Type 0 = Result (Unit {0}) Refusal in
    let end : Unit {0} → Result ℕ Refusal = λ _. Ok (frame_length (fields_of l).count) in
    ap (λ (r : Answer). and_then r (λ _. and_then (room_answer room (fields_of l)) (λ _. and_then (letter_answer codes cabinets limit l) end))) (ok_unless _ OutOfBounds bounds)
    ∙ ap (λ (r : Answer). and_then r (λ _. and_then (letter_answer codes cabinets limit l) end)) (ok_unless _ NoTray (le-leb (frame_length (fields_of l).count) room within))
    ∙ ap (λ (r : Answer). and_then (and_then r (λ _. ranges_answer codes cabinets limit (fields_of l) (entries_in l.content))) end) (ok_unless _ FrameShape counted)
    ∙ ap (λ (r : Answer). and_then (and_then r (λ _. unless (entries_fit codes cabinets (fields_of l).kind l.epoch (entries_in l.content)) FrameField)) end) (ok_unless _ FrameField ranged)
    ∙ ap (λ (r : Answer). and_then r end) (ok_unless _ FrameField faultless)

-- a letter made of accepted fields and entries is written as they came
again : (codes : ℕ → Bool) (cabinets limit room : ℕ) (bs : List ℕ) (f : Fields) → Octets bs → bounds_fit cabinets limit ≡ true → 24 ≤ length bs → Shaped limit (length bs) (header_at bs) f → fields_fit cabinets limit f ≡ true → entries_fit codes cabinets f.kind f.epoch (entries_of (part_of bs f.count)) ≡ true → (l : Letter) → letter_of f (entries_of (part_of bs f.count)) ≡ l → frame_length (fields_of l).count ≤ room → (write_answer codes cabinets limit room l ≡ Ok (frame_length (fields_of l).count)) × (frame_bytes l ≡ take (frame_length (fields_of l).count) bs)
again codes cabinets limit room bs f small bounds enough s ranged faultless l is within =
    let part : List ℕ = part_of bs f.count in
    let es : List ListEntry = entries_of part in
    let inside : 24 + 16 * f.count ≤ length bs = omega (arith, s.within, s.long) in
    let width : 24 + 16 * f.count - 24 ≡ 16 * f.count = omega arith in
    let size : length part ≡ 16 * f.count = length-between bs 24 (24 + 16 * f.count) inside ∙ width in
    let many : length es ≡ f.count = entries_length part ∙ (let m : length part / 16 ≡ f.count = omega arith in m) in
    let counted : count_fits f.kind limit (length es) ≡ true = ap (count_fits f.kind limit) many ∙ s.counted in
    let same : fields_of l ≡ f = ap fields_of (sym is) ∙ fields_again f.kind limit f.sender f.count f.epoch f.first f.second es s.counted (and_parts _ _ ranged).1 many in
    let list : entries_in l.content ≡ es = ap (λ (x : Letter). entries_in x.content) (sym is) ∙ entries_in_again f.kind limit f.first f.second es counted in
    let bytes : entries_bytes es ≡ part = entries_again codes cabinets part (part_small bs 24 (24 + 16 * f.count - 24) small) (fits_each codes cabinets limit f.epoch f.kind es counted faultless) ∙ take_all (16 * (length part / 16)) part (omega arith) in (
      accepts codes cabinets limit room l bounds within
          (ap (λ (x : Fields). count_fits x.kind limit x.count) same ∙ s.counted)
          (ap (fields_fit cabinets limit) same ∙ ranged)
          (ap (λ (x : Fields). entries_fit codes cabinets x.kind x.epoch (entries_in l.content)) same ∙ ap (entries_fit codes cabinets f.kind f.epoch) list ∙ faultless),
      ap (λ (x : Fields). header_bytes x ++ entries_bytes (entries_in l.content)) same
          ∙ ap (λ (xs : List ListEntry). header_bytes f ++ entries_bytes xs) list
          ∙ ap (λ (xs : List ℕ). xs ++ entries_bytes es) (header_again limit bs f small enough s)
          ∙ ap (λ (xs : List ℕ). take 24 bs ++ xs) (bytes ∙ ap (λ m. take m (drop 24 bs)) width)
          ∙ sym (take-add 24 (16 * f.count) bs)
          ∙ ap (λ (x : Fields). take (frame_length x.count) bs) (sym same),
    )

-- a letter that was read is written again as it came
pub writes_back : (codes : ℕ → Bool) → WritesBack codes
writes_back codes cabinets limit room bs l small read within =
    let end : Fields → Result Letter Refusal = λ x. and_then (ranges_answer codes cabinets limit x (entries_of (part_of bs x.count))) (λ _. Ok (letter_of x (entries_of (part_of bs x.count)))) in
    let first : (bounds_fit cabinets limit ≡ true) × (and_then (header_of bs) (λ y. and_then (shape_answer limit (length bs) y) end) ≡ Ok l) = checked _ _ _ l read in
    let second : (h : Header) × (header_of bs ≡ Ok h) × (and_then (shape_answer limit (length bs) h) end ≡ Ok l) = and_then_ok _ _ l first.1 in
    let third : (f : Fields) × (shape_answer limit (length bs) second.0 ≡ Ok f) × (end f ≡ Ok l) = and_then_ok _ _ l second.2 in
    let f : Fields = third.0 in
    let es : List ListEntry = entries_of (part_of bs f.count) in
    let fourth : (x : Unit {0}) × (ranges_answer codes cabinets limit f es ≡ Ok x) × (◌≡◌ {A = Result Letter Refusal} (Ok (letter_of f es)) (Ok l)) = and_then_ok _ _ l third.2 in
    let ranges : (fields_fit cabinets limit f ≡ true) × (unless (entries_fit codes cabinets f.kind f.epoch es) FrameField ≡ Ok fourth.0) = checked _ _ _ fourth.0 fourth.1 in
    let header = header_tells bs second.0 second.1 in
    let s : Shaped limit (length bs) (header_at bs) f = shaped limit (length bs) (header_at bs) f (ap (shape_answer limit (length bs)) header.1 ∙ third.1) in
    let e = fourth.2 in
    again codes cabinets limit room bs f small first.0 header.0 s ranges.0 (unless_ok _ _ ranges.1) l (cc) within
