use Rattle.qc_commit.proofs.Ends.{aborts-on, commits-on, votes-decide}
use Rattle.qc_commit.proofs.Going.{waits-on, waits-quietly}
use Rattle.qc_commit.proofs.laws.first_answers_decide.Goals as goal

pub returns : goal.returns
returns c = record {
  waits = waits-on;
  quietly = waits-quietly;
  commits = commits-on;
  aborts = aborts-on;
  either = votes-decide;
}
