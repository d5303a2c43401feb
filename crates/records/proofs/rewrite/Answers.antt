use Rattle.std.proofs.Common.{◌≡◌, ◌+◌, ◌<◌, length, get_or, take, sym, ap, ◌∙◌, arith}
use Rattle.std.proofs.lemmas.List.{drop-set-lt}
use Rattle.std.proofs.lemmas.Grind.{drop_more_same}
use Rattle.records.specs.Replay.{replay, step}
use Rattle.records.proofs.Steps.{first, length_step, replay_more, moved, same_at, step_rises}
use Rattle.records.proofs.rewrite.Goals as goal

pub loop-i-preserved : goal.loop-i-preserved
loop-i-preserved c =
    let j = c.args.limit in
    let start = c.args.records.now in
    let rs = c.loop-i.records in
    let i = c.loop-i.i in
    let k = c.loop-i.live in
    let inv = c.loop-i.invariant in
    let es = replay j (take i start) in
    let r = get_or rs i first in
    let read : r ≡ get_or start i first = same_at rs start i first inv.3 in
    let more : replay j (take (i + 1) start) ≡ step j es r = replay_more j start i c.loop-i-test.true ∙ ap (step j es) (sym read) in
    let inside : k < length rs = omega (arith, inv.1, c.loop-i.auto.records, c.loop-i-test.true) in
    let a = length_step j es r in
    let b = step_rises j k r in
    let d = moved j k rs es r inv.0 inside inv.2 in
    let e = drop-set-lt (i + 1) rs k r (omega (arith, inv.1)) in
    let f = drop_more_same rs start i inv.3 in
    (cc, omega arith, cc, cc)
