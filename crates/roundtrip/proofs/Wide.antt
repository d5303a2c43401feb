-- A letter whose numbers fit their fields is the only one that its frame may be read as. Assumes nothing.
use Rattle.std.proofs.Common.{◌≡◌, ℕ, ◌+◌, ◌-◌, ◌*◌, ◌<◌, ◌≤◌, Bool, true, cond, ◌&&◌, eqb, ltb, List, ◌++◌, length, get_or, take, Ok, Err, Result, sym, ap, ◌∙◌, arith}
use Rattle.std.proofs.lemmas.List.{take_at}
use Rattle.refusal.specs.declared.Refusal.{Refusal}
use Rattle.refusal.specs.declared.Refusal.TheVariants.{FrameShort, FrameShape, OutOfBounds}
use Rattle.refusal.specs.Answers.{and_then}
use Rattle.journal.specs.declared.Entry.{Entry as ListEntry}
use Rattle.journal.specs.Entries.{blank}
use Rattle.entries.specs.Entries.{entries_of, entries_bytes}
use Rattle.entries.proofs.Trips.{FitsFields}
use Rattle.entries.proofs.ListTrips.{bytes_length, entries_back}
use Rattle.frames.specs.declared.FrameKind.{FrameKind}
use Rattle.frames.specs.declared.Header.{Header}
use Rattle.frames.specs.declared.Fields.{Fields}
use Rattle.frames.specs.Fields.{bounds_fit, count_fits, header_of, shape_answer}
use Rattle.frames.specs.Letters.{Letter, Content, fields_of, letter_of, carried, entries_in, ranges_answer, frame_length, header_bytes, frame_bytes}
use Rattle.frames.specs.Reading.{decode, part_of}
use Rattle.frames.proofs.Chains.{checked, and_then_ok}
use Rattle.roundtrip.proofs.Again.{not_refused, let_pass}
use Rattle.roundtrip.proofs.Back.{header_for, header_back, kind_back, content_back}

-- the numbers of a letter and of its entries fit their fields
pub record Wide (t : Letter) : Type 0 where
  pub epoch : t.epoch < 4294967296
  pub first : (carried t.content).first < 4294967296
  pub second : (carried t.content).second < 4294967296
  pub count : length (entries_in t.content) ≤ 4000
  pub entries : (k : ℕ) → k < length (entries_in t.content) → FitsFields (get_or (entries_in t.content) k blank)

-- a header that fields make gives no other fields
shape_is : (limit room : ℕ) (f f' : Fields) → shape_answer limit room (header_for f) ≡ Ok f' → f ≡ f'
shape_is limit room f f' accepted =
    let test : FrameKind → Bool = λ k. count_fits k limit f.count && eqb (frame_length f.count) (frame_length f.count) && true in
    let made : FrameKind → Fields = λ k. record { kind = k; sender = f.sender; count = f.count; epoch = f.epoch; first = f.first; second = f.second } in
    let inner = (not_refused (ltb room (frame_length f.count)) FrameShort _ f' accepted).1 in
    (let_pass (test f.kind) FrameShape f f' (sym (ap (λ (r : Result FrameKind Refusal). and_then r (λ k. cond (test k) (Ok (made k)) (Err FrameShape))) (kind_back f.kind)) ∙ inner)).1

-- a letter's frame is read as no other letter, whatever lies behind the frame
pub wide_back : (codes : ℕ → Bool) (cabinets limit : ℕ) (t t' : Letter) (rest : List ℕ) → Wide t → decode codes cabinets limit (frame_bytes t ++ rest) ≡ Ok t' → t ≡ t'
wide_back codes cabinets limit t t' rest wide accepted =
    let f : Fields = fields_of t in
    let es : List ListEntry = entries_in t.content in
    let tail : List ℕ = entries_bytes es ++ rest in
    let bs : List ℕ = header_bytes f ++ tail in
    let ending : Fields → Result Letter Refusal = λ x. and_then (ranges_answer codes cabinets limit x (entries_of (part_of bs x.count))) (λ _. Ok (letter_of x (entries_of (part_of bs x.count)))) in
    let shaping : Header → Result Letter Refusal = λ y. and_then (shape_answer limit (length bs) y) ending in
    let bounded = checked (bounds_fit cabinets limit) OutOfBounds (λ _. and_then (header_of bs) shaping) t' accepted in
    let header = header_back f tail wide.count wide.epoch wide.first wide.second in
    let shape = and_then_ok (shape_answer limit (length bs) (header_for f)) ending t' (sym (ap (λ (r : Result Header Refusal). and_then r shaping) header) ∙ bounded.1) in
    let same : f ≡ shape.0 = shape_is limit (length bs) f shape.0 shape.1 in
    let ranged = and_then_ok _ (λ _. Ok (letter_of f (entries_of (part_of bs f.count)))) t' (ap ending same ∙ shape.2) in
    let width : 24 + 16 * f.count - 24 ≡ 16 * f.count = omega arith in
    let part : part_of bs f.count ≡ entries_bytes es = ap (λ m. take m tail) width ∙ take_at (entries_bytes es) rest (16 * f.count) (bytes_length es) in
    let again : entries_of (part_of bs f.count) ≡ es = ap entries_of part ∙ entries_back es wide.entries in
    let read : letter_of f (entries_of (part_of bs f.count)) ≡ t' = let ok = ranged.2 in cc in
    ap (λ (x : Content). record { sender = t.sender; epoch = t.epoch; content = x }) (sym (content_back t.content)) ∙ ap (letter_of f) (sym again) ∙ read
