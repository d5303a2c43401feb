use Rattle.std.proofs.Common.{sym, ◌∙◌}
use Rattle.std.proofs.lemmas.Bool.{le-ltb}
use Rattle.quorum.specs.Masks.{has_past}
use Rattle.quorum.proofs.contains.Goals as goal

pub returns-else-cabinet-lt16 : goal.returns-else-cabinet-lt16
returns-else-cabinet-lt16 c =
    let past = c.if-cabinet-lt16.false in
    le-ltb c.args.cabinet 16 past ∙ sym (has_past c.args.set c.args.cabinet c.ranges.set.fits past)
