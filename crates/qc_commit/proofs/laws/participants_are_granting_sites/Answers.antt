use Rattle.qc_commit.proofs.Asking.{participants-in, participants-pairs}
use Rattle.qc_commit.proofs.laws.participants_are_granting_sites.Goals as goal

pub returns : goal.returns
returns c = record { who = participants-in; once = participants-pairs }
