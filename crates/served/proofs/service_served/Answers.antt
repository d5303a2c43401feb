use Rattle.served.proofs.Service.{served}
use Rattle.served.proofs.service_served.Goals as goal

pub returns : goal.returns
returns c = served
