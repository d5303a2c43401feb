use Rattle.std.proofs.Common.{◌≡◌, [], fold, sym, ◌∙◌, rules}
use Rattle.records.specs.Replay.{step_length}
use Rattle.records.proofs.Steps.{length_folded}
use Rattle.records.proofs.live.Goals as goal

pub returns : goal.returns
returns c =
    let folded : c.fold.result ≡ fold (step_length c.args.limit) 0 c.args.records.now = search rules in
    folded ∙ sym (length_folded c.args.limit [] c.args.records.now)
