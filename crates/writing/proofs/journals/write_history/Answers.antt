use Rattle.std.proofs.Common.{ℕ, ◌-◌, ◌*◌, Bool, List, ◌++◌, length, replicate, Ok, sym, ap, ◌∙◌, arith}
use Rattle.frames.specs.declared.Fields.{Fields}
use Rattle.entries.specs.Entries.{entries_bytes}
use Rattle.entries.specs.Histories.{codes_of}
use Rattle.entries.proofs.ListTrips.{bytes_length}
use Rattle.frames.specs.Letters.{Letter, entries_in, frame_length, header_bytes}
use Rattle.writing.specs.Writing.{history_of, written}
use Rattle.writing.proofs.Sent.{history_passed}
use Rattle.writing.proofs.journals.write_history.Goals as goal

pub invariant_of-put : goal.invariant_of-put
invariant_of-put g c =
    let codes : ℕ → Bool = codes_of g.K.OrderKind.decode in
    let limit : ℕ = g.J.Journal.limit c.args.journal.now in
    let l : Letter = history_of c.args.sender c.args.epoch c.args.mark (g.J.Journal.lists c.args.journal.now c.args.owner) in
    let room : ℕ = length c.args.out.now in
    let pass = history_passed codes c.args.cabinets limit (g.J.Journal.owners c.args.journal.now) c.args.owner room l c.in_ok-fields.fields c.in_ok-fields.ensures in
    let count = ap (λ (f : Fields). f.count) pass.3 in
    record {
      small = omega (arith, count, pass.1.small);
      whole = bytes_length (entries_in l.content) ∙ ap (λ m. 16 * m) (sym count);
    }

pub put-requires : goal.put-requires
put-requires g c =
    let codes : ℕ → Bool = codes_of g.K.OrderKind.decode in
    let limit : ℕ = g.J.Journal.limit c.args.journal.now in
    let l : Letter = history_of c.args.sender c.args.epoch c.args.mark (g.J.Journal.lists c.args.journal.now c.args.owner) in
    let room : ℕ = length c.args.out.now in
    let pass = history_passed codes c.args.cabinets limit (g.J.Journal.owners c.args.journal.now) c.args.owner room l c.in_ok-fields.fields c.in_ok-fields.ensures in
    let count = ap (λ (f : Fields). f.count) pass.3 in
    omega (arith, count, pass.1.within)

pub returns : goal.returns
returns g c =
    let codes : ℕ → Bool = codes_of g.K.OrderKind.decode in
    let limit : ℕ = g.J.Journal.limit c.args.journal.now in
    let l : Letter = history_of c.args.sender c.args.epoch c.args.mark (g.J.Journal.lists c.args.journal.now c.args.owner) in
    let out : List ℕ = c.args.out.now in
    let pass = history_passed codes c.args.cabinets limit (g.J.Journal.owners c.args.journal.now) c.args.owner (length out) l c.in_ok-fields.fields c.in_ok-fields.ensures in
    record {
      answer = ap (λ m. Ok m) (c.put.ensures.answer ∙ ap (λ (f : Fields). frame_length f.count) pass.3) ∙ sym pass.2;
      buffer =
          c.put.ensures.buffer
          ∙ ap (λ (f : Fields). (header_bytes f ++ entries_bytes (entries_in l.content)) ++ replicate (length out - frame_length f.count) 0) pass.3
          ∙ sym (ap (written out l) pass.2);
    }
