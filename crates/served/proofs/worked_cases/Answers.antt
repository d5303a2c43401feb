use Rattle.served.proofs.Cases.{worked}
use Rattle.served.proofs.worked_cases.Goals as goal

pub returns : goal.returns
returns c = worked
