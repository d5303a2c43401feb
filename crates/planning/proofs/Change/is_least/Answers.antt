use Rattle.std.proofs.Common.{not, sym, ap, ◌∙◌}
use Rattle.std.proofs.lemmas.Bool.{not-false}
use Rattle.planning.proofs.Sparing.{least_by}
use Rattle.planning.proofs.Change.is_least.Goals as goal

pub returns-then-is_carried : goal.returns-then-is_carried
returns-then-is_carried g c =
    let rule = c.args.rule.now in
    let decides = least_by (g.R.QuorumRule.quorum rule) (g.met.R.QuorumRule.grows rule) c.args.self c.args.set c.ranges.set.fits (sym c.if-is_carried.ensures) c.spare.result c.spare.ensures in
    (λ none. decides.0 (c.is_none.ensures ∙ ap not none), λ least. not-false _ (sym c.is_none.ensures ∙ decides.1 least))
