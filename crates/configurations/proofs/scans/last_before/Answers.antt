use Rattle.std.proofs.Common.{ℕ, cond, List, sym, ap, ◌∙◌}
use Rattle.journal.specs.declared.Entry.{Entry}
use Rattle.entries.proofs.Journals.{entry_tells}
use Rattle.configurations.proofs.Passes.{last_none, last_more}
use Rattle.configurations.proofs.scans.last_before.Goals as goal
use Rattle.configurations.proofs.scans.last_before.Goals.{then-is_configuration, else-is_configuration}

pub loop-p-init : goal.loop-p-init
loop-p-init g c = sym (last_none _)

pub loop-p-preserved : goal.loop-p-preserved
loop-p-preserved g c =
    let ls : ℕ → List Entry = g.J.Journal.lists c.args.journal.now in
    let p = c.loop-p.p in
    let last = c.loop-p.last in
    let e : Entry = c.in_ok-entry.entry in
    let at = entry_tells (g.J.Journal.owners c.args.journal.now) c.args.owner p e ls c.in_ok-entry.ensures in
    let more = last_more (ls c.args.owner) p last e at.1 c.loop-p.invariant in
    elim c.if-is_configuration.branch [
      | then-is_configuration w ↦ w.last-is ∙ ap (λ b. cond b p last) w.if-is_configuration.ensures ∙ more
      | else-is_configuration w ↦ w.last-is ∙ ap (λ b. cond b p last) w.if-is_configuration.ensures ∙ more
    ]
