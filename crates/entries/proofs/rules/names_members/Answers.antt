use Rattle.std.proofs.Common.{arith}
use Rattle.std.proofs.lemmas.Bool.Decides.{nat_tests}
use Rattle.entries.proofs.Masks.{mask_below}
use Rattle.entries.proofs.rules.names_members.Goals as goal

pub returns-then-members-gt0 : goal.returns-then-members-gt0
returns-then-members-gt0 c =
    let below = mask_below c.members-members.result c.args.cabinets c.members-members.type_inv in
    simp c.min.ensures (grind (arith, nat_tests))
