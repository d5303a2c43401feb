use Rattle.std.proofs.Common.{◌≡◌, ℕ, ◌+◌, cond, List, sym, ap, ◌∙◌, arith}
use Rattle.journal.specs.declared.Entry.{Entry}
use Rattle.entries.proofs.Journals.{entry_tells}
use Rattle.configurations.proofs.Passes.{version_none, version_more}
use Rattle.configurations.proofs.scans.version.Goals as goal
use Rattle.configurations.proofs.scans.version.Goals.{then-is_configuration, else-is_configuration}

pub loop-p-init : goal.loop-p-init
loop-p-init g c = (omega arith, sym (version_none _))

pub loop-p-preserved : goal.loop-p-preserved
loop-p-preserved g c =
    let ls : ℕ → List Entry = g.J.Journal.lists c.args.journal.now in
    let p = c.loop-p.p in
    let version = c.loop-p.version in
    let e : Entry = c.in_ok-entry.entry in
    let at = entry_tells (g.J.Journal.owners c.args.journal.now) c.args.owner p e ls c.in_ok-entry.ensures in
    let more = version_more (ls c.args.owner) p version e at.1 c.loop-p.invariant.1 in
    elim c.if-is_configuration.branch [
      | then-is_configuration w ↦ (omega (arith, w.version-is, c.loop-p.invariant.0), w.version-is ∙ ap (λ b. version + cond {A = ℕ} b 1 0) w.if-is_configuration.ensures ∙ more)
      | else-is_configuration w ↦ (omega (arith, w.version-is, c.loop-p.invariant.0), w.version-is ∙ (let z : version ≡ version + 0 = omega arith in z) ∙ ap (λ b. version + cond {A = ℕ} b 1 0) w.if-is_configuration.ensures ∙ more)
    ]
