use Rattle.std.proofs.Common.{◌∙◌}
use Rattle.reel.specs.Meaning.{owners_of, limit_of, lists_of}
use Rattle.reel.proofs.Places.{add_append}
use Rattle.reel.proofs.reels.ReelJournal.append.Goals as goal

pub returns-clause-journal : goal.returns-clause-journal
returns-clause-journal c =
    let s = c.args.self.now in
    record { lists = λ p. c.add.ensures.journal.lists p ∙ add_append (owners_of s) (limit_of s) (lists_of s) c.args.owner c.args.entry p; owners = c.add.ensures.journal.owners; limit = c.add.ensures.journal.limit }
