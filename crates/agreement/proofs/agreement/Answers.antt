use Rattle.calls.specs.Calls.{kind_of}
use Rattle.calls.specs.Stations.{station}
use Rattle.agreement.proofs.Promise.{agreement}
use Rattle.agreement.proofs.agreement.Goals as goal

pub returns : goal.returns
returns g c =
    let journal = c.args.journal.now in
    let rule = c.args.rule.now in
    agreement (kind_of g.K.OrderKind.proper g.K.OrderKind.encode g.K.OrderKind.decode) (g.R.QuorumRule.quorum rule) g.met.K.OrderKind.reads_back g.met.K.OrderKind.codes_fit (g.met.R.QuorumRule.share_member rule)
    (station c.args.table.now (g.J.Journal.owners journal) (g.J.Journal.limit journal) (g.J.Journal.lists journal) c.args.trays.now)
