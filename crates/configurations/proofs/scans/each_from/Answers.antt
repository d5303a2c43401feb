use Rattle.std.proofs.Common.{◌≡◌, ℕ, ◌+◌, ◌-◌, true, false, not, ◌||◌, List, length, get_or, sym, ap, ◌∙◌, ap₂, arith}
use Rattle.journal.specs.declared.Entry.{Entry}
use Rattle.journal.specs.Entries.{blank, members_of}
use Rattle.entries.specs.Histories.{is_configuration}
use Rattle.entries.proofs.Journals.{length_tells, entry_tells, owned_ok}
use Rattle.configurations.specs.Configurations.{each_from}
use Rattle.configurations.proofs.Passes.{each_none, each_more, each_fails}
use Rattle.configurations.proofs.scans.each_from.Goals as goal
use Rattle.configurations.proofs.scans.each_from.Goals.{else-is_configuration-via-then-is_configuration+else-not-test, else-is_configuration-via-else-is_configuration}

pub loop-p-init : goal.loop-p-init
loop-p-init g c =
    let l : List Entry = g.J.Journal.lists c.args.journal.now c.args.owner in
    let from : ℕ = c.args.from in
    let start : from - from ≡ 0 = omega arith in
    (omega arith, λ holds computes. ap (each_from holds l from) start ∙ each_none l holds from)

pub returns-then-not-test : goal.returns-then-not-test
returns-then-not-test g c =
    λ holds computes.
    let ls : ℕ → List Entry = g.J.Journal.lists c.args.journal.now in
    let owners : ℕ = g.J.Journal.owners c.args.journal.now in
    let o : ℕ = c.args.owner in
    let from : ℕ = c.args.from in
    let p : ℕ = c.loop-p.p in
    let e : Entry = c.in_ok-entry.entry in
    let count = length_tells owners o c.in_ok-p-end.p-end ls c.in_ok-p-end.ensures in
    let at = entry_tells owners o p e ls c.in_ok-entry.ensures in
    let here : from + (p - from) ≡ p = omega (arith, c.loop-p.auto.p) in
    let failed : false ≡ holds (members_of e.body) = computes c.members.result false c.if-not-test.ensures ∙ ap holds c.members.ensures in
    let one : each_from holds (ls o) from (p - from + 1) ≡ false =
    each_more (ls o) holds from (p - from) e (ap (λ n. get_or (ls o) n blank) here ∙ at.1) (c.loop-p.invariant.1 holds computes)
    ∙ ap₂ (λ b t. not b || t) (sym c.if-is_configuration.ensures) (sym failed) in
    let rest : p - from + 1 + (length (ls o) - (p + 1)) ≡ length (ls o) - from = omega (arith, count.1, c.loop-p.auto.p, c.loop-p-test.true) in
    owned_ok owners o false (each_from holds (ls o) from (length (ls o) - from)) count.0
    (sym (ap (each_from holds (ls o) from) (sym rest) ∙ each_fails (ls o) holds from (p - from + 1) (length (ls o) - (p + 1)) one))

pub loop-p-preserved : goal.loop-p-preserved
loop-p-preserved g c =
    let ls : ℕ → List Entry = g.J.Journal.lists c.args.journal.now in
    let l : List Entry = ls c.args.owner in
    let from : ℕ = c.args.from in
    let p : ℕ = c.loop-p.p in
    let e : Entry = c.in_ok-entry.entry in
    let at = entry_tells (g.J.Journal.owners c.args.journal.now) c.args.owner p e ls c.in_ok-entry.ensures in
    let here : from + (p - from) ≡ p = omega (arith, c.loop-p.auto.p) in
    let next : p + 1 - from ≡ p - from + 1 = omega (arith, c.loop-p.auto.p) in (
      omega (arith, c.loop-p-test.true),
      λ holds computes.
          let passes : (not (is_configuration e.kind) || holds (members_of e.body)) ≡ true =
          elim c.else-is_configuration.branch [
            | else-is_configuration-via-then-is_configuration+else-not-test w ↦
                ap₂ (λ b t. not b || t) (sym w.if-is_configuration.ensures) (sym (computes w.members.result true w.if-not-test.ensures ∙ ap holds w.members.ensures))
            | else-is_configuration-via-else-is_configuration w ↦ ap (λ b. not b || holds (members_of e.body)) (sym w.if-is_configuration.ensures)
          ] in
          ap (each_from holds l from) next ∙ each_more l holds from (p - from) e (ap (λ n. get_or l n blank) here ∙ at.1) (c.loop-p.invariant.1 holds computes) ∙ passes,
    )
