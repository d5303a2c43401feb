use Rattle.std.proofs.Common.{sym, ap, ◌∙◌, arith}
use Rattle.std.proofs.lemmas.List.{take_all}
use Rattle.records.specs.Replay.{replay}
use Rattle.records.proofs.Steps.{replay_entries, replay_within}
use Rattle.records.proofs.make_room.Goals as goal

pub returns : goal.returns
returns c =
    let j = c.args.limit in
    let rs = c.args.records.now in
    let short = replay_within j rs in
    record {
      free = omega (arith, c.rewrite.ensures.count, c.requires);
      same =
          ap (replay j) c.rewrite.ensures.front
          ∙ replay_entries j (replay j rs) short
          ∙ ap (replay j) (sym (take_all c.args.used rs c.if-used-records.false));
    }
