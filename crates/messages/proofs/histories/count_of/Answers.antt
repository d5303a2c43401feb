use Rattle.std.proofs.Common.{sym}
use Rattle.entries.proofs.Places.{entries_length}
use Rattle.messages.proofs.histories.count_of.Goals as goal

pub returns : goal.returns
returns c = sym (entries_length c.args.entries.now)
