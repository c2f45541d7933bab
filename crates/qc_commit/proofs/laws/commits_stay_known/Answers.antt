use Rattle.qc_commit.proofs.Rising.{known-calls, known-new}
use Rattle.qc_commit.proofs.laws.commits_stay_known.Goals as goal

pub returns : goal.returns
returns c = record { told = known-new; stays = known-calls }
