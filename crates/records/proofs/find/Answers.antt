use Rattle.std.proofs.Common.{get_or, take, arith}
use Rattle.std.proofs.lemmas.Bool.Decides.{nat_tests}
use Rattle.records.specs.Replay.{replay}
use Rattle.records.proofs.Steps.{first, length_step, found_step, replay_more}
use Rattle.records.proofs.find.Goals as goal

pub loop-record-preserved : goal.loop-record-preserved
loop-record-preserved c =
    let j = c.args.limit in
    let rs = c.args.records.now in
    let i = c.loop-record.record-index in
    let r = get_or rs i first in
    let es = replay j (take i rs) in
    let more = replay_more j rs i c.loop-record-test.true in
    let a = length_step j es r in
    let b = found_step j c.args.position es r in
    grind (arith, nat_tests)
