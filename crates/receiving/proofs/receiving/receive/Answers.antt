use Rattle.std.proofs.Common.{◌≡◌, ℕ, ◌≤◌, Bool, List, length, Ok, Err, Result, sym, refl, ap, ◌∙◌, arith}
use Rattle.std.proofs.lemmas.Result.{err_from_is_err_and}
use Rattle.refusal.specs.declared.Refusal.{Refusal}
use Rattle.journal.specs.declared.Entry.{Entry}
use Rattle.entries.specs.Histories.{codes_of}
use Rattle.cabinet.specs.declared.Cabinet.{Cabinet}
use Rattle.cabinet.specs.Steps.{Outcome, left_by, listed, lists_by}
use Rattle.writing.specs.Speaking.{answer_by, buffer_by, letter_said, spoken_into}
use Rattle.writing.specs.Replies.{filled_by}
use Rattle.reactions.specs.Reactions.{hear_step}
use Rattle.receiving.specs.Readiness.{place, tray_length}
use Rattle.receiving.proofs.Naming.{hear_names, listed_names}
use Rattle.receiving.proofs.Answering.{refused_step, spoken, ok_same}
use Rattle.receiving.proofs.Passing.{not_ready, is_heard, place_tells}
use Rattle.receiving.proofs.receiving.receive.Goals as goal

pub returns-in_err-check_ready : goal.returns-in_err-check_ready
returns-in_err-check_ready g c =
    let ls : ℕ → List Entry = g.J.Journal.lists c.args.journal.now in
    let owners : ℕ = g.J.Journal.owners c.args.journal.now in
    let limit : ℕ = g.J.Journal.limit c.args.journal.now in
    let quorum : ℕ → ℕ → Bool = g.R.QuorumRule.quorum c.args.rule.now in
    let codes : ℕ → Bool = codes_of g.K.OrderKind.decode in
    let cabinets : ℕ = c.args.cabinets in
    let i : ℕ = c.args.number in
    let before : Cabinet = c.args.cabinet.now in
    let bytes : List ℕ = c.args.bytes.now in
    let out : List ℕ = c.args.out.now in
    let placed : ◌≡◌ {A = Result (Unit {0}) Refusal} (Ok tt) (place cabinets owners i) = sym c.in_ok-check_place.was ∙ c.check_place.ensures ∙ ap (λ n. place cabinets n i) c.owners.ensures in
    let roomy : tray_length limit ≤ length out = omega (arith, c.tray_length.ensures, c.limit.ensures, c.if-out-tray_length.false) in
    let refused = not_ready codes quorum cabinets owners limit i ls before bytes (length out) placed roomy c.in_err-check_ready.field-0.0 (sym c.in_err-check_ready.was ∙ c.check_ready.ensures) in
    let error = err_from_is_err_and c.from_residual-in_err-check_ready.result c.from_residual-in_err-check_ready.ensures.1 in
    record {
      answer = error.1 ∙ ap (λ (r : Refusal). Err r) error.2 ∙ sym (ap (answer_by i) refused);
      «record» = sym (ap (left_by before) refused);
      journal = record { lists = λ p. sym (ap (λ (o : Outcome). lists_by ls i o p) refused); owners = refl; limit = refl };
      buffer = sym (ap (buffer_by out i) refused);
    }

pub returns-in_err-reply : goal.returns-in_err-reply
returns-in_err-reply g c =
    let ls : ℕ → List Entry = g.J.Journal.lists c.args.journal.now in
    let owners : ℕ = g.J.Journal.owners c.args.journal.now in
    let limit : ℕ = g.J.Journal.limit c.args.journal.now in
    let quorum : ℕ → ℕ → Bool = g.R.QuorumRule.quorum c.args.rule.now in
    let codes : ℕ → Bool = codes_of g.K.OrderKind.decode in
    let cabinets : ℕ = c.args.cabinets in
    let i : ℕ = c.args.number in
    let before : Cabinet = c.args.cabinet.now in
    let bytes : List ℕ = c.args.bytes.now in
    let out : List ℕ = c.args.out.now in
    let placed : ◌≡◌ {A = Result (Unit {0}) Refusal} (Ok tt) (place cabinets owners i) = sym c.in_ok-check_place.was ∙ c.check_place.ensures ∙ ap (λ n. place cabinets n i) c.owners.ensures in
    let roomy : tray_length limit ≤ length out = omega (arith, c.tray_length.ensures, c.limit.ensures, c.if-out-tray_length.false) in
    let told = sym c.in_ok-check_ready.was ∙ c.check_ready.ensures in
    let whole = is_heard codes quorum cabinets owners limit i ls before bytes (length out) placed roomy told in
    let heard : Outcome = listed owners ls i before (hear_step codes quorum cabinets limit i (ls i) before bytes) in
    let refused = whole ∙ refused_step heard c.in_err-reply.field-0.0 (sym c.in_err-reply.was ∙ c.hear.ensures.answer) in
    let error = err_from_is_err_and c.from_residual-in_err-reply.result c.from_residual-in_err-reply.ensures.1 in
    record {
      answer = error.1 ∙ ap (λ (r : Refusal). Err r) error.2 ∙ sym (ap (answer_by i) refused);
      «record» = c.hear.ensures.«record» ∙ sym (ap (left_by before) whole);
      journal = record { lists = λ p. c.hear.ensures.journal.lists p ∙ sym (ap (λ (o : Outcome). lists_by ls i o p) whole); owners = c.hear.ensures.journal.owners; limit = c.hear.ensures.journal.limit };
      buffer = sym (ap (buffer_by out i) refused);
    }

pub returns-in_err-length : goal.returns-in_err-length
returns-in_err-length g c =
    let ls : ℕ → List Entry = g.J.Journal.lists c.args.journal.now in
    let owners : ℕ = g.J.Journal.owners c.args.journal.now in
    let limit : ℕ = g.J.Journal.limit c.args.journal.now in
    let quorum : ℕ → ℕ → Bool = g.R.QuorumRule.quorum c.args.rule.now in
    let codes : ℕ → Bool = codes_of g.K.OrderKind.decode in
    let cabinets : ℕ = c.args.cabinets in
    let i : ℕ = c.args.number in
    let before : Cabinet = c.args.cabinet.now in
    let bytes : List ℕ = c.args.bytes.now in
    let out : List ℕ = c.args.out.now in
    let placed : ◌≡◌ {A = Result (Unit {0}) Refusal} (Ok tt) (place cabinets owners i) = sym c.in_ok-check_place.was ∙ c.check_place.ensures ∙ ap (λ n. place cabinets n i) c.owners.ensures in
    let roomy : tray_length limit ≤ length out = omega (arith, c.tray_length.ensures, c.limit.ensures, c.if-out-tray_length.false) in
    let told = sym c.in_ok-check_ready.was ∙ c.check_ready.ensures in
    let whole = is_heard codes quorum cabinets owners limit i ls before bytes (length out) placed roomy told in
    let heard : Outcome = listed owners ls i before (hear_step codes quorum cabinets limit i (ls i) before bytes) in
    let owner = place_tells cabinets owners i placed in
    let names = listed_names owners ls i before (hear_step codes quorum cabinets limit i (ls i) before bytes) (hear_names quorum limit i (ls i) before codes cabinets bytes) in
    let least : 1 ≤ limit = omega (arith, g.met.J.Journal.laws.limit_least c.args.journal.now) in
    let short : length (g.J.Journal.lists c.hear.new.journal i) ≤ limit = omega (arith, g.met.J.Journal.laws.within c.hear.new.journal i, c.hear.ensures.journal.limit) in
    let said =
    spoken (g.J.Journal.owners c.hear.new.journal) limit i ls (g.J.Journal.lists c.hear.new.journal) before c.hear.new.cabinet c.in_ok-reply.reply out (omega (arith, owner, c.hear.ensures.journal.owners)) least short roomy
    heard (sym c.in_ok-reply.was ∙ c.hear.ensures.answer) c.hear.ensures.«record» (c.hear.ensures.journal.lists i) names in
    let both : ◌≡◌ {A = Result ℕ Refusal} (Err c.in_err-length.field-0.0) (Ok _) = sym c.in_err-length.was ∙ c.write_reply.ensures.answer ∙ said.0 in
    absurd (let z : ◌≡◌ {A = ℕ} 0 1 = cc in omega arith)

pub returns : goal.returns
returns g c =
    let ls : ℕ → List Entry = g.J.Journal.lists c.args.journal.now in
    let owners : ℕ = g.J.Journal.owners c.args.journal.now in
    let limit : ℕ = g.J.Journal.limit c.args.journal.now in
    let quorum : ℕ → ℕ → Bool = g.R.QuorumRule.quorum c.args.rule.now in
    let codes : ℕ → Bool = codes_of g.K.OrderKind.decode in
    let cabinets : ℕ = c.args.cabinets in
    let i : ℕ = c.args.number in
    let before : Cabinet = c.args.cabinet.now in
    let bytes : List ℕ = c.args.bytes.now in
    let out : List ℕ = c.args.out.now in
    let placed : ◌≡◌ {A = Result (Unit {0}) Refusal} (Ok tt) (place cabinets owners i) = sym c.in_ok-check_place.was ∙ c.check_place.ensures ∙ ap (λ n. place cabinets n i) c.owners.ensures in
    let roomy : tray_length limit ≤ length out = omega (arith, c.tray_length.ensures, c.limit.ensures, c.if-out-tray_length.false) in
    let told = sym c.in_ok-check_ready.was ∙ c.check_ready.ensures in
    let whole = is_heard codes quorum cabinets owners limit i ls before bytes (length out) placed roomy told in
    let heard : Outcome = listed owners ls i before (hear_step codes quorum cabinets limit i (ls i) before bytes) in
    let owner = place_tells cabinets owners i placed in
    let names = listed_names owners ls i before (hear_step codes quorum cabinets limit i (ls i) before bytes) (hear_names quorum limit i (ls i) before codes cabinets bytes) in
    let least : 1 ≤ limit = omega (arith, g.met.J.Journal.laws.limit_least c.args.journal.now) in
    let short : length (g.J.Journal.lists c.hear.new.journal i) ≤ limit = omega (arith, g.met.J.Journal.laws.within c.hear.new.journal i, c.hear.ensures.journal.limit) in
    let said =
    spoken (g.J.Journal.owners c.hear.new.journal) limit i ls (g.J.Journal.lists c.hear.new.journal) before c.hear.new.cabinet c.in_ok-reply.reply out (omega (arith, owner, c.hear.ensures.journal.owners)) least short roomy
    heard (sym c.in_ok-reply.was ∙ c.hear.ensures.answer) c.hear.ensures.«record» (c.hear.ensures.journal.lists i) names in
    let length-said : ◌≡◌ {A = Result ℕ Refusal} (Ok c.in_ok-length.length) (Ok _) = sym c.in_ok-length.was ∙ c.write_reply.ensures.answer ∙ said.0 in
    record {
      answer = ap (λ n. Ok (0, n)) (ok_same length-said) ∙ sym said.1 ∙ sym (ap (answer_by i) whole);
      «record» = c.hear.ensures.«record» ∙ sym (ap (left_by before) whole);
      journal = record { lists = λ p. c.hear.ensures.journal.lists p ∙ sym (ap (λ (o : Outcome). lists_by ls i o p) whole); owners = c.hear.ensures.journal.owners; limit = c.hear.ensures.journal.limit };
      buffer = c.write_reply.ensures.buffer ∙ ap (filled_by out (spoken_into out (letter_said i c.hear.new.cabinet.promised (g.J.Journal.lists c.hear.new.journal i) c.in_ok-reply.reply))) said.0 ∙ sym said.2 ∙ sym (ap (buffer_by out i) whole);
    }
