use Rattle.entries.specs.Histories.{codes_of}
use Rattle.roundtrip.proofs.Again.{writes_back}
use Rattle.roundtrip.proofs.writes_back.Goals as goal

pub returns : goal.returns
returns g c = writes_back (codes_of g.K.OrderKind.decode)
