-- A letter's frame, read again. Assumes nothing.
use Rattle.std.proofs.Common.{◌≡◌, ℕ, zero, suc, ◌+◌, ◌-◌, ◌*◌, ◌<◌, ◌≤◌, Bool, true, cond, ◌&&◌, eqb, ltb, List, ◌∷◌, ◌++◌, length, get_or, take, Ok, Err, Result, refl, ap, ◌∙◌, arith}
use Rattle.std.proofs.lemmas.List.{take_rest, take_at, length-append}
use Rattle.std.proofs.lemmas.Bool.{le-ltb, le-leb, eq-eqb, and_parts, eqb-true, ltb-true, cond-true, cond-false}
use Rattle.std.proofs.lemmas.Bool.Decides.{nat_tests}
use Rattle.refusal.specs.declared.Refusal.{Refusal}
use Rattle.refusal.specs.declared.Refusal.TheVariants.{FrameShort, FrameShape, FrameField, OutOfBounds}
use Rattle.journal.specs.declared.Entry.{Entry as ListEntry}
use Rattle.journal.specs.declared.EntryKind.{EntryKind}
use Rattle.journal.specs.declared.EntryKind.TheVariants.{Configuration, Order}
use Rattle.journal.specs.Entries.{blank}
use Rattle.frames.specs.declared.FrameKind.{FrameKind}
use Rattle.frames.specs.declared.FrameKind.TheVariants.{Candidate, Promise, History, Entry, Acknowledge, Commit}
use Rattle.frames.specs.declared.Header.{Header}
use Rattle.frames.specs.declared.Numbers.{Numbers}
use Rattle.frames.specs.declared.Fields.{Fields}
use Rattle.entries.specs.Bytes.{u16_at, u32_at, u16_bytes, u32_bytes}
use Rattle.entries.specs.Entries.{entries_of, entries_bytes}
use Rattle.entries.specs.Histories.{body_fits}
use Rattle.entries.proofs.Digits.{u16_back, u32_back}
use Rattle.entries.proofs.Trips.{FitsFields}
use Rattle.entries.proofs.ListTrips.{bytes_length, entries_back, goes_on_each}
use Rattle.refusal.specs.Answers.{and_then, unless}
use Rattle.frames.specs.Fields.{bounds_fit, kind_number, kind_numbered, count_fits, numbers_fit, fields_fit, zeros_in, numbers_of, header_of, shape_answer}
use Rattle.frames.specs.Letters.{Letter, Content, candidate, promise, history, entry, acknowledge, commit, fields_of, letter_of, carried, content_of, entries_in, entries_fit, ranges_answer, frame_length, header_bytes}
use Rattle.frames.specs.Reading.{decode, part_of}
use Rattle.frames.proofs.Chains.{ok_unless}
use Rattle.writing.proofs.Sent.{sent}
use Rattle.roundtrip.specs.Trips.{ReadsBack}

-- numbers with equal parts are equal
same_numbers : (a a' b b' n n' : ℕ) (z z' : Bool) → a ≡ a' → b ≡ b' → n ≡ n' → z ≡ z' → ◌≡◌ {A = Numbers} (record { first = a; second = b; length = n; zeros = z }) (record { first = a'; second = b'; length = n'; zeros = z' })
same_numbers a a' b b' n n' z z' r t u v = cc

-- headers with equal parts are equal
same_header : (k s c c' e e' : ℕ) (n : Numbers) → c ≡ c' → e ≡ e' → ◌≡◌ {A = Header} (record { kind = k; sender = s; count = c; epoch = e; numbers = n }) (record { kind = k; sender = s; count = c'; epoch = e'; numbers = n })
same_header k s c c' e e' n p q = cc

-- six zeros are found, whatever lies behind them
zeros_back : (tail : List ℕ) → zeros_in (0 ∷ 0 ∷ 0 ∷ 0 ∷ 0 ∷ 0 ∷ tail) ≡ true
zeros_back tail =
    let bs : List ℕ = 0 ∷ 0 ∷ 0 ∷ 0 ∷ 0 ∷ 0 ∷ tail in
    let long : 6 ≤ length bs = omega arith in
    ap (λ (b : Bool). b && true && true && true && true && true && true) (le-leb 6 (length bs) long)

-- the last 16 bytes of a header, and what lies behind it
abbrev numbers_bytes : ℕ → ℕ → ℕ → List ℕ → List ℕ
numbers_bytes a b n tail = u32_bytes a ++ u32_bytes b ++ u16_bytes n ++ (0 ∷ 0 ∷ 0 ∷ 0 ∷ 0 ∷ 0 ∷ tail)

-- the numbers are read back from them
numbers_back : (a b n : ℕ) (tail : List ℕ) → a < 4294967296 → b < 4294967296 → n < 65536 → numbers_of (numbers_bytes a b n tail) ≡ Ok (record { first = a; second = b; length = n; zeros = true })
numbers_back a b n tail p q r =
    let bs : List ℕ = numbers_bytes a b n tail in
    let long : 16 ≤ length bs = omega arith in
    cond-false (ltb (length bs) 16) (Err FrameShort) _ (le-ltb (length bs) 16 long)
    ∙ ap (λ (x : Numbers). Ok x) (same_numbers _ _ _ _ _ _ _ _ (u32_back a p) (u32_back b q) (u16_back n r) (ap zeros_in (take_rest bs 10) ∙ zeros_back tail))

-- the header that fields make
abbrev pub header_for : Fields → Header
header_for f = record { kind = kind_number f.kind; sender = f.sender; count = f.count; epoch = f.epoch; numbers = record { first = f.first; second = f.second; length = frame_length f.count; zeros = true } }

-- the header is read back
pub header_back : (f : Fields) (tail : List ℕ) → f.count ≤ 4000 → f.epoch < 4294967296 → f.first < 4294967296 → f.second < 4294967296 → header_of (header_bytes f ++ tail) ≡ Ok (header_for f)
header_back f tail c e a b =
    let bs : List ℕ = header_bytes f ++ tail in
    let numbers = ap numbers_of (take_rest bs 8) ∙ numbers_back f.first f.second (frame_length f.count) tail a b (omega arith) in
    ap (λ (r : Result Numbers Refusal). and_then r (λ n. Ok (record { kind = get_or bs 0 0; sender = get_or bs 1 0; count = u16_at bs 2; epoch = u32_at bs 4; numbers = n }))) numbers
    ∙ ap (λ (x : Header). Ok x) (same_header _ _ _ _ _ _ _ (u16_back f.count (omega arith)) (u32_back f.epoch e))

-- a kind is found by its number
pub kind_back : (k : FrameKind) → kind_numbered (kind_number k) ≡ Ok k
kind_back Candidate = refl
kind_back Promise = refl
kind_back History = refl
kind_back Entry = refl
kind_back Acknowledge = refl
kind_back Commit = refl

-- the fields are read back from their header
shape_back : (limit room : ℕ) (f : Fields) → frame_length f.count ≤ room → count_fits f.kind limit f.count ≡ true → shape_answer limit room (header_for f) ≡ Ok f
shape_back limit room f within fits =
    let test : (count_fits f.kind limit f.count && eqb (frame_length f.count) (frame_length f.count) && true) ≡ true = (let same = eq-eqb (frame_length f.count) (frame_length f.count) refl in grind (arith, nat_tests)) in
    cond-false (ltb room (frame_length f.count)) (Err FrameShort) _ (le-ltb room (frame_length f.count) within)
    ∙ ap (λ (r : Result FrameKind Refusal). and_then r (λ k. cond (count_fits k limit f.count && eqb (frame_length f.count) (frame_length f.count) && true) (Ok (record { kind = k; sender = f.sender; count = f.count; epoch = f.epoch; first = f.first; second = f.second })) (Err FrameShape))) (kind_back f.kind)
    ∙ cond-true _ _ (Err FrameShape) test

-- a body that fits has 64 bits
pub body_small : (codes : ℕ → Bool) (cabinets : ℕ) (kind : EntryKind) (body : ℕ) → body_fits codes cabinets kind body ≡ true → body < 18446744073709551616
body_small codes cabinets Configuration body fits = grind (arith, nat_tests)
body_small codes cabinets Order body fits = ltb-true body 18446744073709551616 (and_parts _ _ fits).0

-- the numbers of a letter that is sent have 32 bits
numbers_small : (k : FrameKind) (limit epoch count first second : ℕ) → numbers_fit k limit epoch count first second ≡ true → limit ≤ 4000 → count ≤ 4000 → epoch < 4294967296 → (first < 4294967296) × (second < 4294967296)
numbers_small Candidate limit epoch count first second fits l c e = grind (arith, nat_tests)
numbers_small Promise limit epoch count first second fits l c e = grind (arith, nat_tests)
numbers_small History limit epoch count first second fits l c e = grind (arith, nat_tests)
numbers_small Entry limit epoch count first second fits l c e = grind (arith, nat_tests)
numbers_small Acknowledge limit epoch count first second fits l c e = grind (arith, nat_tests)
numbers_small Commit limit epoch count first second fits l c e = grind (arith, nat_tests)

-- and so have its entries
entries_small : (codes : ℕ → Bool) (cabinets epoch : ℕ) → epoch < 4294967296 → (c : Content) → entries_fit codes cabinets (carried c).kind epoch (entries_in c) ≡ true → (k : ℕ) → k < length (entries_in c) → FitsFields (get_or (entries_in c) k blank)
entries_small codes cabinets epoch e (candidate accepted size) fits k h = absurd (omega arith)
entries_small codes cabinets epoch e promise fits k h = absurd (omega arith)
entries_small codes cabinets epoch e (history mark es) fits k h =
    let each = goes_on_each codes cabinets epoch 0 es (and_parts _ _ fits).1 k h in
    let low : (get_or es k blank).epoch ≤ epoch = each.0 in
    (omega arith, body_small codes cabinets (get_or es k blank).kind (get_or es k blank).body each.1)
entries_small codes cabinets epoch e (entry position mark x) fits zero h =
    let same : x.epoch ≡ epoch = eqb-true x.epoch epoch (and_parts _ _ fits).0 in
    (omega arith, body_small codes cabinets x.kind x.body (and_parts _ _ fits).1)
entries_small codes cabinets epoch e (entry position mark x) fits (suc k) h = absurd (omega arith)
entries_small codes cabinets epoch e (acknowledge size) fits k h = absurd (omega arith)
entries_small codes cabinets epoch e (commit mark) fits k h = absurd (omega arith)

-- a content is made again of its parts
pub content_back : (c : Content) → content_of (carried c).kind (carried c).first (carried c).second (entries_in c) ≡ c
content_back (candidate accepted size) = refl
content_back promise = refl
content_back (history mark es) = refl
content_back (entry position mark e) = refl
content_back (acknowledge size) = refl
content_back (commit mark) = refl

-- once header and shape are known, the ranges are left
pub decode_from : (codes : ℕ → Bool) (cabinets limit : ℕ) (bs : List ℕ) (h : Header) (f : Fields) → bounds_fit cabinets limit ≡ true → header_of bs ≡ Ok h → shape_answer limit (length bs) h ≡ Ok f → decode codes cabinets limit bs ≡ and_then (ranges_answer codes cabinets limit f (entries_of (part_of bs f.count))) (λ _. Ok (letter_of f (entries_of (part_of bs f.count))))
decode_from codes cabinets limit bs h f bounds header shape =
    let end : Fields → Result Letter Refusal = λ x. and_then (ranges_answer codes cabinets limit x (entries_of (part_of bs x.count))) (λ _. Ok (letter_of x (entries_of (part_of bs x.count)))) in
    ap (λ (r : Result (Unit {0}) Refusal). and_then r (λ _. and_then (header_of bs) (λ y. and_then (shape_answer limit (length bs) y) end))) (ok_unless (bounds_fit cabinets limit) OutOfBounds bounds)
    ∙ ap (λ (r : Result Header Refusal). and_then r (λ y. and_then (shape_answer limit (length bs) y) end)) header
    ∙ ap (λ (r : Result Fields Refusal). and_then r end) shape

-- a letter that was sent is read back from its frame
pub reads_back : (codes : ℕ → Bool) → ReadsBack codes
reads_back codes cabinets limit room n l rest epoch accepted =
    let told = sent codes cabinets limit room l n accepted in
    let f : Fields = fields_of l in
    let es : List ListEntry = entries_in l.content in
    let tail : List ℕ = entries_bytes es ++ rest in
    let bs : List ℕ = header_bytes f ++ tail in
    let bounded = told.bounds in
    let most : limit ≤ 4000 = grind (arith, nat_tests) in
    let small = numbers_small f.kind limit l.epoch f.count f.first f.second (and_parts _ _ told.ranged).1 most told.small epoch in
    let size : length tail ≡ 16 * f.count + length rest = length-append (entries_bytes es) rest ∙ ap (λ m. m + length rest) (bytes_length es) in
    let header = header_back f tail told.small epoch small.0 small.1 in
    let shape = shape_back limit (length bs) f (omega arith) told.counted in
    let width : 24 + 16 * f.count - 24 ≡ 16 * f.count = omega arith in
    let part : part_of bs f.count ≡ entries_bytes es = ap (λ m. take m tail) width ∙ take_at (entries_bytes es) rest (16 * f.count) (bytes_length es) in
    let again : entries_of (part_of bs f.count) ≡ es = ap entries_of part ∙ entries_back es (entries_small codes cabinets l.epoch epoch l.content told.faultless) in
    let ranges : ranges_answer codes cabinets limit f es ≡ Ok tt = ap (λ (r : Result (Unit {0}) Refusal). and_then r (λ _. unless (entries_fit codes cabinets f.kind l.epoch es) FrameField)) (ok_unless (fields_fit cabinets limit f) FrameField told.ranged) ∙ ok_unless _ FrameField told.faultless in
    decode_from codes cabinets limit bs (header_for f) f told.bounds header shape
    ∙ ap (λ (xs : List ListEntry). and_then (ranges_answer codes cabinets limit f xs) (λ _. Ok (letter_of f xs))) again
    ∙ ap (λ (r : Result (Unit {0}) Refusal). and_then r (λ _. Ok (letter_of f es))) ranges
    ∙ ap (λ (x : Content). Ok (record { sender = l.sender; epoch = l.epoch; content = x })) (content_back l.content)
