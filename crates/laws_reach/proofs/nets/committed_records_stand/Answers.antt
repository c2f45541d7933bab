use Rattle.laws_reach.proofs.Committing.{committed_records_stand}
use Rattle.laws_reach.proofs.nets.committed_records_stand.Goals as goal

pub returns : goal.returns
returns c decl h kept = committed_records_stand decl h kept
