-- What is known of a letter that the writer accepts. Assumes nothing.
use Rattle.std.proofs.Common.{◌≡◌, ℕ, ◌<◌, ◌≤◌, Bool, true, leb, Ok, Result, sym, ap, ◌∙◌, arith}
use Rattle.std.proofs.lemmas.Bool.{leb-true}
use Rattle.std.proofs.lemmas.Bool.Decides.{nat_tests}
use Rattle.refusal.specs.declared.Refusal.{Refusal}
use Rattle.refusal.specs.declared.Refusal.TheVariants.{FrameField}
use Rattle.journal.specs.Lists.{owned}
use Rattle.entries.proofs.Journals.{owned_tells}
use Rattle.frames.specs.declared.Fields.{Fields}
use Rattle.frames.specs.declared.FrameKind.{FrameKind}
use Rattle.frames.specs.declared.FrameKind.TheVariants.{Candidate, Promise, History, Entry, Acknowledge, Commit}
use Rattle.refusal.specs.Answers.{and_then, unless}
use Rattle.frames.specs.Fields.{bounds_fit, count_fits, fields_fit}
use Rattle.frames.specs.Letters.{Letter, fields_of, entries_in, entries_fit, ranges_answer, letter_answer, frame_length}
use Rattle.frames.proofs.Chains.{checked, and_then_ok, unless_ok}
use Rattle.writing.specs.Writing.{room_answer, write_answer, history_answer}

-- a count that fits is at most the limit, or 1
pub count_small : (k : FrameKind) (limit count : ℕ) → count_fits k limit count ≡ true → limit ≤ 4000 → count ≤ 4000
count_small Candidate limit count fits small = grind (arith, nat_tests)
count_small Promise limit count fits small = grind (arith, nat_tests)
count_small History limit count fits small = grind (arith, nat_tests)
count_small Entry limit count fits small = grind (arith, nat_tests)
count_small Acknowledge limit count fits small = grind (arith, nat_tests)
count_small Commit limit count fits small = grind (arith, nat_tests)

-- what the checks have told
pub record Sent (codes : ℕ → Bool) (cabinets limit room : ℕ) (l : Letter) (n : ℕ) : Type 0 where
  pub bounds : bounds_fit cabinets limit ≡ true
  pub small : (fields_of l).count ≤ 4000
  pub within : frame_length (fields_of l).count ≤ room
  pub counted : count_fits (fields_of l).kind limit (fields_of l).count ≡ true
  pub ranged : fields_fit cabinets limit (fields_of l) ≡ true
  pub faultless : entries_fit codes cabinets (fields_of l).kind l.epoch (entries_in l.content) ≡ true
  pub long : n ≡ frame_length (fields_of l).count

-- an accepted letter has passed them all
pub sent : (codes : ℕ → Bool) (cabinets limit room : ℕ) (l : Letter) (n : ℕ) → write_answer codes cabinets limit room l ≡ Ok n → Sent codes cabinets limit room l n
sent codes cabinets limit room l n accepted =
    let size : ℕ = frame_length (fields_of l).count in
    let first : (bounds_fit cabinets limit ≡ true) × (and_then (room_answer room (fields_of l)) (λ _. and_then (letter_answer codes cabinets limit l) (λ _. Ok size)) ≡ Ok n) = checked _ _ _ n accepted in
    let second : (leb size room ≡ true) × (and_then (letter_answer codes cabinets limit l) (λ _. Ok size) ≡ Ok n) = checked _ _ _ n first.1 in
    let rest : (x : Unit {0}) × (letter_answer codes cabinets limit l ≡ Ok x) × (◌≡◌ {A = Result ℕ Refusal} (Ok size) (Ok n)) = and_then_ok _ _ n second.1 in
    let third : (count_fits (fields_of l).kind limit (fields_of l).count ≡ true) × (ranges_answer codes cabinets limit (fields_of l) (entries_in l.content) ≡ Ok rest.0) = checked _ _ _ rest.0 rest.1 in
    let fourth : (fields_fit cabinets limit (fields_of l) ≡ true) × (unless (entries_fit codes cabinets (fields_of l).kind l.epoch (entries_in l.content)) FrameField ≡ Ok rest.0) = checked _ _ _ rest.0 third.1 in
    let holds = first.0 in
    let most : limit ≤ 4000 = grind (arith, nat_tests) in
    let same = rest.2 in
    record {
      bounds = first.0;
      small = count_small (fields_of l).kind limit (fields_of l).count third.0 most;
      within = leb-true size room second.0;
      counted = third.0;
      ranged = fourth.0;
      faultless = unless_ok _ _ fourth.1;
      long = cc;
    }

-- the fields that the checks hand on are the letter's, which has passed them
pub passed : (codes : ℕ → Bool) (cabinets limit room : ℕ) (l : Letter) (f : Fields) → Ok f ≡ and_then (write_answer codes cabinets limit room l) (λ _. Ok (fields_of l)) → (write_answer codes cabinets limit room l ≡ Ok (frame_length (fields_of l).count)) × (f ≡ fields_of l) × Sent codes cabinets limit room l (frame_length (fields_of l).count)
passed codes cabinets limit room l f h =
    let through : (n : ℕ) × (write_answer codes cabinets limit room l ≡ Ok n) × (◌≡◌ {A = Result Fields Refusal} (Ok (fields_of l)) (Ok f)) = and_then_ok _ _ f (sym h) in
    let answer = through.1 ∙ ap (λ m. Ok m) (sent codes cabinets limit room l through.0 through.1).long in
    let same = through.2 in
    (answer, (let e : f ≡ fields_of l = cc in e), sent codes cabinets limit room l _ answer)

-- the same of a history from a journal, whose owner there is
pub history_passed : (codes : ℕ → Bool) (cabinets limit owners o room : ℕ) (l : Letter) (f : Fields) → Ok f ≡ and_then (history_answer codes cabinets limit owners o room l) (λ _. Ok (fields_of l)) → (o < owners) × Sent codes cabinets limit room l (frame_length (fields_of l).count) × (history_answer codes cabinets limit owners o room l ≡ Ok (frame_length (fields_of l).count)) × (f ≡ fields_of l)
history_passed codes cabinets limit owners o room l f h =
    let through : (n : ℕ) × (history_answer codes cabinets limit owners o room l ≡ Ok n) × (◌≡◌ {A = Result Fields Refusal} (Ok (fields_of l)) (Ok f)) = and_then_ok _ _ f (sym h) in
    let bounds : (bounds_fit cabinets limit ≡ true) × (owned owners o (write_answer codes cabinets limit room l) ≡ Ok through.0) = checked _ _ _ through.0 through.1 in
    let owner = owned_tells owners o (write_answer codes cabinets limit room l) through.0 bounds.1 in
    let long = (sent codes cabinets limit room l through.0 owner.1).long in
    let same = through.2 in
    (owner.0, sent codes cabinets limit room l _ (owner.1 ∙ ap (λ m. Ok m) long), through.1 ∙ ap (λ m. Ok m) long, (let e : f ≡ fields_of l = cc in e))
