use Rattle.std.proofs.Common.{◌≡◌, ℕ, ◌+◌, Bool, eqb, List, [], ◌∷◌, ◌++◌, length, Ok, sym, refl, ap, ◌∙◌, ap₂}
use Rattle.std.proofs.lemmas.Bool.{cond-true, eq-eqb}
use Rattle.journal.specs.declared.Entry.{Entry}
use Rattle.cabinet.specs.declared.Cabinet.{Cabinet}
use Rattle.cabinet.specs.declared.Reply.TheVariants.{Entry as Entered}
use Rattle.cabinet.specs.Records.{raised, after}
use Rattle.cabinet.specs.Steps.{left_by, lists_by, said_by}
use Rattle.cabinet.proofs.Listed.{listed_tells}
use Rattle.acts.specs.Acts.{entered}
use Rattle.acts.proofs.Room.{append_told, with_room, lists_with_room, commit_entered}
use Rattle.acts.proofs.entering.enter.Goals as goal

pub returns : goal.returns
returns g c =
    let ls : ℕ → List Entry = g.J.Journal.lists c.args.journal.now in
    let ls' : ℕ → List Entry = g.J.Journal.lists c.append.new.self in
    let owners : ℕ = g.J.Journal.owners c.args.journal.now in
    let owners' : ℕ = g.J.Journal.owners c.append.new.self in
    let limit : ℕ = g.J.Journal.limit c.args.journal.now in
    let quorum : ℕ → ℕ → Bool = g.R.QuorumRule.quorum c.args.rule.now in
    let i : ℕ = c.args.number in
    let before : Cabinet = c.args.cabinet.now in
    let e : Entry = c.args.entry in
    let count = listed_tells owners ls i before c.in_ok-position.position (length (ls i)) c.in_ok-position.ensures in
    let told = append_told owners limit i ls (sym c.in_ok-append.was ∙ c.append.ensures.answer) in
    let room = with_room quorum owners limit ls i before e count.0 count.1 told.1 in
    let lists = λ (p : ℕ). c.append.ensures.journal.lists p ∙ lists_with_room owners limit ls i e count.0 told.1 p in
    let grown : ls' i ≡ ls i ++ e ∷ [] = lists i ∙ cond-true (eqb i i) (ls i ++ e ∷ []) (ls i) (eq-eqb i i refl) in
    let raise : c.raise.new.self ≡ raised i (length (ls i) + 1) before = c.raise.ensures ∙ ap (λ n. raised i (n + 1) before) count.2 in
    let committed = commit_entered quorum owners limit ls i before e count.0 count.1 owners' ls' c.raise.new.self c.append.ensures.journal.owners grown raise in
    let left : c.commit.new.cabinet ≡ entered quorum i (ls i) before e = c.commit.ensures.«record» ∙ ap (after c.raise.new.self) committed in
    record {
      answer = ap₂ (λ n (x : Cabinet). Ok (Entered n x.mark)) count.2 left ∙ sym (ap said_by room);
      «record» = left ∙ sym (ap (left_by before) room);
      journal = record { lists = λ p. lists p ∙ sym (ap (λ o. lists_by ls i o p) room); owners = c.append.ensures.journal.owners; limit = c.append.ensures.journal.limit };
    }
