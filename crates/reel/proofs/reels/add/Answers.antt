use Rattle.std.proofs.Common.{◌+◌, ◌≡◌, length, refl, ◌-◌, arith, length-drop, length-take}
use Rattle.std.specs.List.{between}
use Rattle.shelf.proofs.Places.{told}
use Rattle.reel.proofs.Places.{lists_added}
use Rattle.reel.proofs.reels.add.Goals as goal

pub returns-clause-journal : goal.returns-clause-journal
returns-clause-journal c =
    let s = c.args.records.now in
    let row = c.in_ok-row.row in
    let t = told s c.args.owner row c.in_ok-row.ensures.answer in
    let within = c.in_ok-row.ensures.within in
    let pushed = c.in_ok-used.ensures in
    let ys = c.push.new.records in
    let long : length ys ≡ length (between row.start row.end s.places.now) = c.push.auto.records in
    let size : length (between row.start row.end s.places.now) ≡ row.end - row.start = simp (length-take, length-drop) (omega (arith, within.0)) in
    record {
      lists = lists_added s.owners s.limit (s.limit + 1) s.places.now s.counts.now c.args.owner row.start row.end row.used c.in_ok-used.used ys c.args.made t.0 t.1 t.2 t.3 within.0 within.3 (omega arith) (omega arith) (rw c.limit-limit.ensures at pushed.2);
      owners = refl;
      limit = refl;
    }
