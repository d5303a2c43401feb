use Rattle.std.proofs.Common.{ℕ, Bool, List, Result, ap, ◌∙◌}
use Rattle.refusal.specs.declared.Refusal.{Refusal}
use Rattle.refusal.specs.declared.Refusal.TheVariants.{FrameField}
use Rattle.frames.specs.declared.Fields.{Fields}
use Rattle.entries.specs.Entries.{entries_of}
use Rattle.entries.specs.Histories.{codes_of}
use Rattle.refusal.specs.Answers.{and_then, unless}
use Rattle.frames.specs.Fields.{count_answer, fields_answer}
use Rattle.frames.specs.Letters.{Letter, fields_of, entries_in, ranges_answer}
use Rattle.frames.specs.Reading.{letter}
use Rattle.writing.proofs.Borrowing.{borrowed_fit}
use Rattle.writing.proofs.writer.check_letter.Goals as goal

pub returns : goal.returns
returns g c =
    let codes : ℕ → Bool = codes_of g.K.OrderKind.decode in
    let cabinets : ℕ = c.args.cabinets in
    let limit : ℕ = c.args.limit in
    let l : Letter = letter c.args.frame.now in
    c.check_ranges.ensures
    ∙ ap (λ (f : Fields). ranges_answer codes cabinets limit f (entries_of c.borrowed.result.now)) c.fields_of-fields.ensures
    ∙ ap (λ (bs : List ℕ). ranges_answer codes cabinets limit (fields_of l) (entries_of bs)) c.borrowed.ensures
    ∙ ap (λ (b : Bool). and_then (fields_answer cabinets limit (fields_of l)) (λ _. unless b FrameField)) (borrowed_fit codes cabinets l.epoch c.args.frame.now.message)
    ∙ ap (λ (r : Result (Unit {0}) Refusal). and_then r (λ _. ranges_answer codes cabinets limit (fields_of l) (entries_in l.content))) c.in_ok-check_count.ensures
    ∙ ap (λ (f : Fields). and_then (count_answer limit f) (λ _. ranges_answer codes cabinets limit (fields_of l) (entries_in l.content))) c.fields_of-fields.ensures
