use Rattle.entries.proofs.Places.{entries_length}
use Rattle.writing.proofs.writer.fields_of.Goals as goal

pub returns-in-History : goal.returns-in-History
returns-in-History c =
    let count = entries_length c.in-History.entries.now in
    rw (c.in-History.is, c.bare-bare.ensures, count)
