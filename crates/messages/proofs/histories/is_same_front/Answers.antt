use Rattle.std.proofs.Common.{◌≡◌, ℕ, ◌+◌, ◌-◌, true, false, List, Ok, sym, ap, ◌∙◌, arith}
use Rattle.std.proofs.lemmas.Bool.{not-true, not-false}
use Rattle.journal.specs.declared.Entry.{Entry}
use Rattle.entries.specs.Entries.{entries_of}
use Rattle.entries.proofs.Journals.{entry_tells}
use Rattle.messages.specs.Messages.{same_entry, same_front}
use Rattle.messages.proofs.Fronts.{entry_compared, place_tells, same_none, same_more, same_fails}
use Rattle.messages.proofs.histories.is_same_front.Goals as goal

pub loop-k-init : goal.loop-k-init
loop-k-init g c = (omega arith, same_none (g.J.Journal.lists c.args.journal.now c.args.owner) (entries_of c.args.entries.now))

pub returns-then-ne : goal.returns-then-ne
returns-then-ne g c =
    let ls : ℕ → List Entry = g.J.Journal.lists c.args.journal.now in
    let l : List Entry = ls c.args.owner in
    let es : List Entry = entries_of c.args.entries.now in
    let k : ℕ = c.loop-k.k in
    let own = entry_tells (g.J.Journal.owners c.args.journal.now) c.args.owner k c.in_ok-own.own ls c.in_ok-own.ensures in
    let new = place_tells es k c.in_ok-new.new c.in_ok-new.ensures in
    let differ : same_entry c.in_ok-own.own c.in_ok-new.new ≡ false = sym (entry_compared c.in_ok-own.own c.in_ok-new.new) ∙ not-true _ (sym c.if-ne.ensures) in
    let one : same_front l es (k + 1) ≡ false = same_more l es k c.in_ok-own.own c.in_ok-new.new own.1 new c.loop-k.invariant.1 ∙ differ in
    let rest : k + 1 + (c.args.count - (k + 1)) ≡ c.args.count = omega (arith, c.loop-k-test.true) in
    sym (ap (λ b. Ok b) (ap (same_front l es) (sym rest) ∙ same_fails l es (k + 1) (c.args.count - (k + 1)) one))

pub loop-k-preserved : goal.loop-k-preserved
loop-k-preserved g c =
    let ls : ℕ → List Entry = g.J.Journal.lists c.args.journal.now in
    let l : List Entry = ls c.args.owner in
    let es : List Entry = entries_of c.args.entries.now in
    let k : ℕ = c.loop-k.k in
    let own = entry_tells (g.J.Journal.owners c.args.journal.now) c.args.owner k c.in_ok-own.own ls c.in_ok-own.ensures in
    let new = place_tells es k c.in_ok-new.new c.in_ok-new.ensures in
    let same : same_entry c.in_ok-own.own c.in_ok-new.new ≡ true = sym (entry_compared c.in_ok-own.own c.in_ok-new.new) ∙ not-false _ (sym c.if-ne.ensures) in
    (omega (arith, c.loop-k-test.true), same_more l es k c.in_ok-own.own c.in_ok-new.new own.1 new c.loop-k.invariant.1 ∙ same)
