use Rattle.std.proofs.Common.{◌≡◌, ℕ, Bool, true, List, length, sym, refl, ap, ◌∙◌}
use Rattle.std.proofs.lemmas.Bool.{cond-true}
use Rattle.journal.specs.declared.Entry.{Entry}
use Rattle.cabinet.specs.declared.Cabinet.{Cabinet}
use Rattle.cabinet.specs.Records.{leads, after}
use Rattle.entries.proofs.Journals.{length_tells}
use Rattle.configurations.proofs.Passes.{front_tells, front_ok}
use Rattle.committing.specs.Committing.{elected, committing, winning, perhaps_winning, commit_answer, win_answer}
use Rattle.committing.proofs.rising.win.Goals as goal

pub returns : goal.returns
returns g c =
    let ls : ℕ → List Entry = g.J.Journal.lists c.args.journal.now in
    let i : ℕ = c.args.number in
    let owners : ℕ = g.J.Journal.owners c.args.journal.now in
    let quorum : ℕ → ℕ → Bool = g.R.QuorumRule.quorum c.args.rule.now in
    let before : Cabinet = c.args.cabinet.now in
    let leader : Cabinet = leads i (length (ls i)) before in
    let told = front_tells owners i before.mark ls c.in_ok-elects.field-0 (elected quorum (ls i) before) c.in_ok-elects.ensures in
    let wins : true ≡ elected quorum (ls i) before = sym c.if-not-branch.false ∙ told.2 in
    let count = length_tells owners i c.in_ok-length.length ls c.in_ok-length.ensures in
    let led : c.lead.new.self ≡ leader = c.lead.ensures ∙ ap (λ n. leads i n before) count.1 in
    let committed : after leader (commit_answer owners ls quorum i leader) ≡ committing quorum i (ls i) leader
    = sym (ap (after leader) (front_ok owners i before.mark ls (committing quorum i (ls i) leader) (committing quorum i (ls i) leader) told.0 told.1 refl)) in
    let won : perhaps_winning quorum i (ls i) before ≡ winning quorum i (ls i) before
    = cond-true (elected quorum (ls i) before) (winning quorum i (ls i) before) before (sym wins) in
    let answered : perhaps_winning quorum i (ls i) before ≡ after before (win_answer owners ls quorum i before)
    = ap (after before) (front_ok owners i before.mark ls (perhaps_winning quorum i (ls i) before) (perhaps_winning quorum i (ls i) before) told.0 told.1 refl) in
    record {
      answer = front_ok owners i before.mark ls true (elected quorum (ls i) before) told.0 told.1 wins;
      «record» = c.commit.ensures.«record» ∙ ap (λ (x : Cabinet). after x (commit_answer owners ls quorum i x)) led ∙ committed ∙ sym won ∙ answered;
    }
