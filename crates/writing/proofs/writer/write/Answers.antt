use Rattle.std.proofs.Common.{ℕ, ◌-◌, ◌*◌, Bool, List, ◌++◌, length, take, replicate, Ok, sym, ap, ◌∙◌, subst, arith}
use Rattle.std.proofs.lemmas.List.{length-take-le}
use Rattle.frames.specs.declared.Fields.{Fields}
use Rattle.entries.specs.Bytes.{Octets}
use Rattle.entries.specs.Histories.{codes_of}
use Rattle.frames.specs.Letters.{Letter, fields_of, frame_length, header_bytes}
use Rattle.frames.specs.Reading.{letter}
use Rattle.writing.specs.Writing.{borrowed, written}
use Rattle.writing.proofs.Borrowing.{borrowed_room, borrowed_bytes}
use Rattle.writing.proofs.Sent.{passed}
use Rattle.writing.proofs.writer.write.Goals as goal

-- the message borrows enough bytes
pub front-part-requires : goal.front-part-requires
front-part-requires g c =
    let codes : ℕ → Bool = codes_of g.K.OrderKind.decode in
    let l : Letter = letter c.args.frame.now in
    let room : ℕ = length c.args.out.now in
    let pass = passed codes c.args.cabinets c.args.limit room l c.in_ok-fields.fields c.in_ok-fields.ensures in
    let count = ap (λ (f : Fields). f.count) pass.1 in
    let enough = borrowed_room codes c.args.cabinets l.epoch c.args.frame.now.message pass.2.faultless in
    omega (arith, count, enough, ap length c.borrowed.ensures)

pub invariant_of-put : goal.invariant_of-put
invariant_of-put g c =
    let codes : ℕ → Bool = codes_of g.K.OrderKind.decode in
    let l : Letter = letter c.args.frame.now in
    let room : ℕ = length c.args.out.now in
    let pass = passed codes c.args.cabinets c.args.limit room l c.in_ok-fields.fields c.in_ok-fields.ensures in
    let count = ap (λ (f : Fields). f.count) pass.1 in
    let enough = borrowed_room codes c.args.cabinets l.epoch c.args.frame.now.message pass.2.faultless in
    record {
      small = omega (arith, count, pass.2.small);
      whole = ap length c.front-part.ensures.part ∙ length-take-le (16 * c.in_ok-fields.fields.count) c.borrowed.result.now (omega (arith, count, enough, ap length c.borrowed.ensures));
    }

pub put-requires : goal.put-requires
put-requires g c =
    let codes : ℕ → Bool = codes_of g.K.OrderKind.decode in
    let l : Letter = letter c.args.frame.now in
    let room : ℕ = length c.args.out.now in
    let pass = passed codes c.args.cabinets c.args.limit room l c.in_ok-fields.fields c.in_ok-fields.ensures in
    let count = ap (λ (f : Fields). f.count) pass.1 in
    omega (arith, count, pass.2.within)

pub returns : goal.returns
returns g c =
    let codes : ℕ → Bool = codes_of g.K.OrderKind.decode in
    let l : Letter = letter c.args.frame.now in
    let out : List ℕ = c.args.out.now in
    let bs : List ℕ = borrowed c.args.frame.now.message in
    let room : ℕ = length out in
    let pass = passed codes c.args.cabinets c.args.limit room l c.in_ok-fields.fields c.in_ok-fields.ensures in
    let octets : Octets bs = (let P : List ℕ → Type 0 = λ xs. Octets xs in subst P c.borrowed.ensures c.front-part.ensures.octets) in
    let same = borrowed_bytes codes c.args.cabinets l.epoch c.args.frame.now.message octets pass.2.faultless in
    let part = c.front-part.ensures.part ∙ ap (λ (f : Fields). take (16 * f.count) c.borrowed.result.now) pass.1 ∙ ap (take (16 * (fields_of l).count)) c.borrowed.ensures ∙ sym same in
    record {
      answer = ap (λ m. Ok m) (c.put.ensures.answer ∙ ap (λ (f : Fields). frame_length f.count) pass.1) ∙ sym pass.0;
      buffer =
          c.put.ensures.buffer
          ∙ ap (λ (f : Fields). (header_bytes f ++ c.front-part.result.now) ++ replicate (room - frame_length f.count) 0) pass.1
          ∙ ap (λ (xs : List ℕ). (header_bytes (fields_of l) ++ xs) ++ replicate (room - frame_length (fields_of l).count) 0) part
          ∙ sym (ap (written out l) pass.0);
    }
