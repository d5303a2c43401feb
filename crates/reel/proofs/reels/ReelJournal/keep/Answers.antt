use Rattle.std.proofs.Common.{◌∙◌, ◌≤◌, length, arith}
use Rattle.std.proofs.lemmas.Bool.Decides.{nat_tests}
use Rattle.reel.specs.Meaning.{owners_of, limit_of, lists_of}
use Rattle.reel.proofs.Places.{add_keep}
use Rattle.reel.proofs.reels.ReelJournal.keep.Goals as goal

pub returns-clause-journal : goal.returns-clause-journal
returns-clause-journal c =
    let s = c.args.self.now in
    let answered = c.in_ok-length.ensures in
    let short : c.args.count ≤ length (lists_of s c.args.owner) = grind (arith, nat_tests) in
    record { lists = λ p. c.add.ensures.journal.lists p ∙ add_keep (owners_of s) (limit_of s) (lists_of s) c.args.owner c.args.count p short; owners = c.add.ensures.journal.owners; limit = c.add.ensures.journal.limit }
