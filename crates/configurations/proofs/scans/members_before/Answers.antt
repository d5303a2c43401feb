use Rattle.std.proofs.Common.{ℕ, List, sym, ◌∙◌}
use Rattle.journal.specs.declared.Entry.{Entry}
use Rattle.entries.proofs.Journals.{entry_tells}
use Rattle.configurations.proofs.Passes.{members_none, members_more}
use Rattle.configurations.proofs.scans.members_before.Goals as goal

pub loop-p-init : goal.loop-p-init
loop-p-init g c = sym (members_none _)

pub loop-p-preserved : goal.loop-p-preserved
loop-p-preserved g c =
    let ls : ℕ → List Entry = g.J.Journal.lists c.args.journal.now in
    let p = c.loop-p.p in
    let e : Entry = c.in_ok-entry.entry in
    let at = entry_tells (g.J.Journal.owners c.args.journal.now) c.args.owner p e ls c.in_ok-entry.ensures in
    c.members_after-members.ensures ∙ members_more (ls c.args.owner) p c.loop-p.members e at.1 c.loop-p.invariant
