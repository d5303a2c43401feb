use Rattle.entries.specs.Histories.{codes_of}
use Rattle.roundtrip.proofs.Back.{reads_back}
use Rattle.roundtrip.proofs.reads_back.Goals as goal

pub returns : goal.returns
returns g c = reads_back (codes_of g.K.OrderKind.decode)
