use Rattle.std.proofs.Common.{ℕ, ◌*◌, List, sym, ap, ◌∙◌}
use Rattle.journal.specs.declared.Entry.{Entry}
use Rattle.entries.proofs.Journals.{length_tells}
use Rattle.entries.proofs.ListTrips.{bytes_length}
use Rattle.writing.proofs.replies.write_list.Goals as goal

pub invariant_of-put_if_room-clause-whole : goal.invariant_of-put_if_room-clause-whole
invariant_of-put_if_room-clause-whole g c =
    let ls : ℕ → List Entry = g.J.Journal.lists c.args.journal.now in
    let o : ℕ = c.args.owner in
    let count = length_tells (g.J.Journal.owners c.args.journal.now) o c.in_ok-count.field-0 ls c.in_ok-count.ensures in
    bytes_length (ls o) ∙ ap (λ m. 16 * m) (sym count.1)
