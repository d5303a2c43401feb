use Rattle.std.proofs.Common.{◌≤◌, leb, length, sym, ap, ◌∙◌, arith}
use Rattle.std.specs.List.{list_all}
use Rattle.std.proofs.lemmas.List.{take_all}
use Rattle.cabinet.proofs.Sixteen.{above_all}
use Rattle.cabinet.proofs.Cabinet.none_above.Goals as goal

pub returns : goal.returns
returns c =
    let lengths = c.args.self.now.acknowledged in
    let most = c.args.most in
    let long : 16 ≤ length lengths = omega arith in
    let short : length lengths ≤ 16 = omega arith in
    c.are_within.ensures ∙ sym (ap (list_all (λ x. leb x most)) (take_all 16 lengths short)) ∙ above_all lengths most 16 long
