use Rattle.std.proofs.Common.{◌≡◌, ℕ, suc, ◌+◌, ◌-◌, Bool, true, false, List, length, sym, refl, ap, ◌∙◌, arith}
use Rattle.journal.specs.declared.Entry.{Entry}
use Rattle.cabinet.specs.Records.{holders_below}
use Rattle.entries.proofs.Journals.{length_tells, entry_tells}
use Rattle.configurations.specs.Configurations.{commits, members_before}
use Rattle.configurations.proofs.Passes.{front_tells, front_ok, members_more}
use Rattle.committing.specs.Committing.{risen, reached, rest_at}
use Rattle.committing.proofs.Marks.{commits_is, risen_none, risen_more, risen_stops, rest_of}
use Rattle.committing.proofs.rising.rise.Goals as goal

pub loop-mark-init : goal.loop-mark-init
loop-mark-init g c =
    let ls : ℕ → List Entry = g.J.Journal.lists c.args.journal.now in
    let o : ℕ = c.args.owner in
    let start = front_tells (g.J.Journal.owners c.args.journal.now) o c.args.cabinet.now.mark ls c.in_ok-members.members (members_before (ls o) c.args.cabinet.now.mark) c.in_ok-members.ensures in
    (start.2, refl)

pub loop-mark-preserved : goal.loop-mark-preserved
loop-mark-preserved g c =
    let ls : ℕ → List Entry = g.J.Journal.lists c.args.journal.now in
    let o : ℕ = c.args.owner in
    let quorum : ℕ → ℕ → Bool = g.R.QuorumRule.quorum c.args.rule.now in
    let lengths : List ℕ = c.args.cabinet.now.acknowledged in
    let mark : ℕ = c.loop-mark.mark in
    let e : Entry = c.in_ok-entry.entry in
    let at = entry_tells (g.J.Journal.owners c.args.journal.now) o mark e ls c.in_ok-entry.ensures in
    let carried : commits quorum (ls o) (holders_below lengths mark 16) mark ≡ true
    = ap (λ set. commits quorum (ls o) set mark) (sym c.holders.ensures)
    ∙ sym (commits_is quorum (ls o) mark c.loop-mark.members c.holders.result e at.1 c.loop-mark.invariant.0)
    ∙ sym c.commits.ensures ∙ c.if-not-commits.false in
    let rest : length (ls o) - mark ≡ suc (length (ls o) - (mark + 1)) = omega (arith, at.0) in (
      c.members_after-members.ensures ∙ members_more (ls o) mark c.loop-mark.members e at.1 c.loop-mark.invariant.0,
      sym (ap (λ n. risen quorum (ls o) lengths n mark) rest ∙ risen_more quorum (ls o) lengths (length (ls o) - (mark + 1)) mark carried) ∙ c.loop-mark.invariant.1,
    )

pub returns-then-not-commits : goal.returns-then-not-commits
returns-then-not-commits g c =
    let ls : ℕ → List Entry = g.J.Journal.lists c.args.journal.now in
    let o : ℕ = c.args.owner in
    let owners : ℕ = g.J.Journal.owners c.args.journal.now in
    let quorum : ℕ → ℕ → Bool = g.R.QuorumRule.quorum c.args.rule.now in
    let lengths : List ℕ = c.args.cabinet.now.acknowledged in
    let mark : ℕ = c.loop-mark.mark in
    let e : Entry = c.in_ok-entry.entry in
    let start = front_tells owners o c.args.cabinet.now.mark ls c.in_ok-members.members (members_before (ls o) c.args.cabinet.now.mark) c.in_ok-members.ensures in
    let at = entry_tells owners o mark e ls c.in_ok-entry.ensures in
    let waits : commits quorum (ls o) (holders_below lengths mark 16) mark ≡ false
    = ap (λ set. commits quorum (ls o) set mark) (sym c.holders.ensures)
    ∙ sym (commits_is quorum (ls o) mark c.loop-mark.members c.holders.result e at.1 c.loop-mark.invariant.0)
    ∙ sym c.commits.ensures ∙ c.if-not-commits.true in
    let rest : length (ls o) - mark ≡ suc (length (ls o) - (mark + 1)) = omega (arith, at.0) in
    let stays : mark ≡ reached quorum (ls o) c.args.cabinet.now
    = sym (ap (λ n. risen quorum (ls o) lengths n mark) rest ∙ risen_stops quorum (ls o) lengths (length (ls o) - (mark + 1)) mark waits) ∙ c.loop-mark.invariant.1 in
    front_ok owners o c.args.cabinet.now.mark ls (record { mark = mark; members = c.loop-mark.members }) (rest_at (ls o) (reached quorum (ls o) c.args.cabinet.now))
    start.0 start.1 (rest_of (ls o) mark c.loop-mark.members (reached quorum (ls o) c.args.cabinet.now) c.loop-mark.invariant.0 stays)

pub returns : goal.returns
returns g c =
    let ls : ℕ → List Entry = g.J.Journal.lists c.args.journal.now in
    let o : ℕ = c.args.owner in
    let owners : ℕ = g.J.Journal.owners c.args.journal.now in
    let quorum : ℕ → ℕ → Bool = g.R.QuorumRule.quorum c.args.rule.now in
    let lengths : List ℕ = c.args.cabinet.now.acknowledged in
    let mark : ℕ = c.loop-mark.mark in
    let count = length_tells owners o c.in_ok-count.count ls c.in_ok-count.ensures in
    let start = front_tells owners o c.args.cabinet.now.mark ls c.in_ok-members.members (members_before (ls o) c.args.cabinet.now.mark) c.in_ok-members.ensures in
    let end : mark ≡ c.in_ok-count.count = omega (arith, count.1, start.1, c.loop-mark.auto.mark-end (omega (arith, count.1, start.1))) in
    let none : length (ls o) - mark ≡ 0 = omega (arith, count.1, end) in
    let all : mark ≡ reached quorum (ls o) c.args.cabinet.now
    = sym (ap (λ n. risen quorum (ls o) lengths n mark) none ∙ risen_none quorum (ls o) lengths mark) ∙ c.loop-mark.invariant.1 in
    front_ok owners o c.args.cabinet.now.mark ls (record { mark = c.in_ok-count.count; members = c.loop-mark.members }) (rest_at (ls o) (reached quorum (ls o) c.args.cabinet.now))
    start.0 start.1 (rest_of (ls o) c.in_ok-count.count c.loop-mark.members (reached quorum (ls o) c.args.cabinet.now) (c.loop-mark.invariant.0 ∙ ap (members_before (ls o)) end) (sym end ∙ all))
