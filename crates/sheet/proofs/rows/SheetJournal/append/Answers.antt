use Rattle.std.proofs.Common.{◌+◌, refl, add-zero, arith}
use Rattle.shelf.proofs.Places.{told}
use Rattle.sheet.proofs.Places.{lists_append}
use Rattle.sheet.proofs.rows.SheetJournal.append.Goals as goal

pub returns-clause-journal : goal.returns-clause-journal
returns-clause-journal c =
    let s = c.args.self.now.rows in
    let row = c.in_ok-row.row in
    let t = told s c.args.owner row c.in_ok-row.ensures.answer in
    let within = c.in_ok-row.ensures.within in
    record {
      lists = lists_append s.owners s.limit (s.limit + 0) s.places.now s.counts.now c.args.owner row.start row.used c.args.entry (add-zero s.limit) t.0 t.1 (omega arith) (omega arith) t.3 (omega arith);
      owners = refl;
      limit = refl;
    }
